-- Document 02, wish 2: 'in a form that with the year reads back to the same jobs'. The reader of printed lines.
use Rattle.std.specs.Prelude.{ℕ, suc, List, [], ◌∷◌}
use Rattle.std.proofs.Math.Option.{Option, none, some}
use Rattle.stores.specs.Lists.{pick, numbers_same}
use Rattle.text.specs.Parts.{lines_of, fields_of}
use Rattle.text.specs.Number.{number}
use Rattle.board.specs.Print.{month_names, Job, job}

-- The month whose name this is, where the names of month `first` and those after it are given.
unfoldable pub month_from : (first : ℕ) → List (List ℕ) → (name : List ℕ) → Option ℕ
month_from first [] name = none
month_from first (n ∷ ns) name =
    let later : Option ℕ = month_from (suc first) ns name in
    pick (numbers_same n name) (some first) later

-- The month that a field names.
unfoldable pub month_named : List ℕ → Option ℕ
month_named field = month_from 1 month_names field

-- The job with these, where each is there.
unfoldable pub job_of : Option ℕ → Option ℕ → Option ℕ → Option Job
job_of none n p = none
job_of (some m) none p = none
job_of (some m) (some n) none = none
job_of (some m) (some n) (some p) = some (job m n p)

-- The job of a line's fields: a name and two numbers.
unfoldable pub job_of_fields : List (List ℕ) → Option Job
job_of_fields [] = none
job_of_fields (m ∷ []) = none
job_of_fields (m ∷ n ∷ []) = none
job_of_fields (m ∷ n ∷ p ∷ []) = job_of (month_named m) (number n) (number p)
job_of_fields (m ∷ n ∷ p ∷ f ∷ fs) = none

-- A job in front of jobs, where all of them are there.
unfoldable pub in_front : Option Job → Option (List Job) → Option (List Job)
in_front none js = none
in_front (some j) none = none
in_front (some j) (some js) = some (j ∷ js)

-- The jobs of lines, where each line is one.
unfoldable pub jobs_of_lines : List (List ℕ) → Option (List Job)
jobs_of_lines [] = some []
jobs_of_lines (line ∷ lines) = in_front (job_of_fields (fields_of line)) (jobs_of_lines lines)

-- The jobs of a text.
unfoldable pub jobs_read : List ℕ → Option (List Job)
jobs_read text = jobs_of_lines (lines_of text)
