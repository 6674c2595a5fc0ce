-- Document 02, wish 2: a job, its key, and the calls that set, read and remove one.
use Rattle.std.specs.Prelude.{ℕ, ◌+◌, ◌*◌, Bool, ◌&&◌, List, leb}
use Rattle.std.proofs.Math.Option.{Option, none, some}
use Rattle.stores.specs.Plan.{Outcome}
use Rattle.replies.specs.declared.Refusal.{Refusal}
use Rattle.replies.specs.declared.Refusal.TheVariants.{BadYear, BadMonth, BadNumber}
use Rattle.replies.specs.Replies.{Said, refuse, unless}
use Rattle.index_rules.specs.declared.Call.{Call}
use Rattle.index_rules.specs.declared.Call.TheVariants.{Get, Put, Remove}
use Rattle.index_rules.specs.Step.{outcome_of}

-- ---- A job

-- A year is 1 to 9999.
unfoldable pub valid_year : (year : ℕ) → Bool
valid_year year = leb 1 year && leb year 9999

-- A month is 1 to 12.
unfoldable pub valid_month : (month : ℕ) → Bool
valid_month month = leb 1 month && leb month 12

-- A number is 0 to 4095.
unfoldable pub valid_number : (number : ℕ) → Bool
valid_number number = leb number 4095

-- A job's key.
unfoldable pub job_key : (year month number : ℕ) → ℕ
job_key year month number = year * 65536 + month * 4096 + number

-- The test of a year, and the tests after it: 11.
unfoldable pub year_tests : (year : ℕ) → Option Refusal → Option Refusal
year_tests year later = unless (valid_year year) BadYear later

-- The tests of a job, ahead of all tests of the index: 11, 12, 13.
unfoldable pub job_tests : (year month number : ℕ) → Option Refusal
job_tests year month number = year_tests year (unless (valid_month month) BadMonth (unless (valid_number number) BadNumber none))

-- ---- The calls on one job

-- An outcome on the array a behind tests: a refusal by the tests makes no store.
unfoldable pub behind : Option Refusal → List ℕ → Outcome Said → Outcome Said
behind none a o = o
behind (some r) a o = record { reply = refuse r; made = 0; after = a }

-- A call of the index on a job's key, behind the job's tests.
unfoldable pub on_job : List ℕ → (year month number : ℕ) → (ℕ → Call) → Outcome Said
on_job a year month number call = behind (job_tests year month number) a (outcome_of a (call (job_key year month number)))

-- Sets a job's pages.
abbrev pub set_job : List ℕ → (year month number pages allowance : ℕ) → Outcome Said
set_job a year month number pages allowance = on_job a year month number (λ key. Put key pages allowance)

-- Reads a job's pages.
abbrev pub read_job : List ℕ → (year month number : ℕ) → Outcome Said
read_job a year month number = on_job a year month number (λ key. Get key)

-- Removes a job.
abbrev pub remove_job : List ℕ → (year month number allowance : ℕ) → Outcome Said
remove_job a year month number allowance = on_job a year month number (λ key. Remove key allowance)
