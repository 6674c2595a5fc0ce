-- Document 02, wish 2: what is shown of every print, in the document's words.
use Rattle.std.specs.Prelude.{ℕ, ◌+◌, ◌*◌, ◌^◌, ◌≤◌, ◌<◌, ◌≡◌, true, false, ◌⊎◌, length, take}
use mathlib.Core.List.{List, [], ◌∷◌, Memᴰ}
use Rattle.std.proofs.Math.Option.{some}
use Rattle.stores.specs.Store.{word}
use Rattle.replies.specs.declared.Answer.{Answer}
use Rattle.replies.specs.Replies.{done, refused, said_by}
use Rattle.replies.specs.Writing.{Writing, nothing}
use Rattle.replies.specs.Answered.{Wrote}
use Rattle.index_rules.specs.Get.{get}
use Rattle.board.specs.Jobs.{valid_year, valid_month, valid_number, job_key}
use Rattle.board.specs.Print.{Job, job, text_of, print_year}
use Rattle.board.specs.ReadBack.{jobs_read}

-- ---- The year's jobs

-- A job's place in its year: it rises with the month, and with the number within a month.
abbrev pub place_of : Job → ℕ
place_of j = j.month * 4096 + j.number

-- Each job comes behind the one before it, so no job comes twice.
abbrev pub Rising : List Job → Type 0
Rising [] = Unit {0}
Rising (j ∷ js) = ((k : Job) → Memᴰ k js → place_of j < place_of k) × Rising js

-- The jobs are exactly those of the year that lookups in the array a find, each once, with its pages: months rise, and numbers
-- rise within a month.
pub record JobsOfYear (a : List ℕ) (year : ℕ) (jobs : List Job) : Type 0 where
  pub months : (j : Job) → Memᴰ j jobs → valid_month j.month ≡ true
  pub numbers : (j : Job) → Memᴰ j jobs → valid_number j.number ≡ true
  pub found : (j : Job) → Memᴰ j jobs → get a (job_key year j.month j.number) ≡ done (j.pages ∷ [])
  pub complete : (month number pages : ℕ) → valid_month month ≡ true → valid_number number ≡ true
      → get a (job_key year month number) ≡ done (pages ∷ []) → Memᴰ (job month number pages) jobs
  pub rising : Rising jobs

-- ---- What a print says

-- The lookup of a job of the year is refused with the number n.
pub record Refuses (a : List ℕ) (year n : ℕ) : Type 0 where
  pub month : ℕ
  pub number : ℕ
  pub month_valid : valid_month month ≡ true
  pub number_valid : valid_number number ≡ true
  pub says : get a (job_key year month number) ≡ refused n

-- The four cases of a print, p: 11 for a bad year; the refusal of a lookup, which is 1 or 3; 10 where the lines don't fit; and the
-- lines of exactly the year's jobs, with their number of bytes.
pub data PrintSays (a : List ℕ) (year room : ℕ) (p : Writing) : Type 0 where
  bad_year : valid_year year ≡ false → p ≡ nothing (refused 11) → PrintSays a year room p
  passed_on : (n : ℕ) → valid_year year ≡ true → Refuses a year n → (n ≡ 1) ⊎ (n ≡ 3) → p ≡ nothing (refused n) → PrintSays a year room p
  too_long : (jobs : List Job) → valid_year year ≡ true → ((n : ℕ) → Refuses a year n → ⊥) → JobsOfYear a year jobs
      → room < length (text_of jobs) → p ≡ nothing (refused 10) → PrintSays a year room p
  printed : (jobs : List Job) → valid_year year ≡ true → ((n : ℕ) → Refuses a year n → ⊥) → JobsOfYear a year jobs
      → length (text_of jobs) ≤ room → p ≡ record { reply = done (length (text_of jobs) ∷ []); words = text_of jobs } → PrintSays a year room p

-- Every print, of every array and year and into every buffer, is one of these.
abbrev pub PrintCases : Type 0
PrintCases = (a : List ℕ) (year room : ℕ) → PrintSays a year room (print_year a year room)

-- If the lookup of any job of a valid year is refused, the print passes that refusal on: which one is looked up first does not matter.
abbrev pub AnyRefusal : Type 0
AnyRefusal = (a : List ℕ) (year room n : ℕ) → valid_year year ≡ true → Refuses a year n → print_year a year room ≡ nothing (refused n)

-- ---- Reading back

-- Every word of the array is one: below 2^64.
abbrev pub Words : List ℕ → Type 0
Words a = (i : ℕ) → word a i < 2 ^ 64

-- What a done print has written, as many bytes as it says, reads back to exactly the year's jobs.
abbrev pub ReadsBack : Type 0
ReadsBack =
    (a : List ℕ) → Words a → (year bytes : ℕ) (answer : Answer) (before after : List ℕ)
    → Wrote (print_year a year (length before)) answer before after
    → said_by answer.reply ≡ done (bytes ∷ [])
    → (jobs : List Job) × (jobs_read (take bytes after) ≡ some jobs) × JobsOfYear a year jobs
