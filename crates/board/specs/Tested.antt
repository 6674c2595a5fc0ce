-- What the code's tests of a job say.
use Rattle.std.specs.Prelude.{ℕ, ◌≡◌, Result, Ok, Err}
use Rattle.std.proofs.Math.Option.{none, some}
use Rattle.replies.specs.declared.Refusal.{Refusal}
use Rattle.board.specs.declared.id.JobId.{JobId}
use Rattle.board.specs.Jobs.{job_key, job_tests}

-- The tests have passed, and this is the job; or they give this refusal.
abbrev pub TestedBy : Result JobId Refusal → (year month number : ℕ) → Type 0
TestedBy (Ok id) year month number =
    (job_tests year month number ≡ none) × (id.year ≡ year) × (id.month ≡ month) × (id.number ≡ number)
TestedBy (Err r) year month number = job_tests year month number ≡ some r

-- The same of a job's key.
abbrev pub KeyedBy : Result ℕ Refusal → (year month number : ℕ) → Type 0
KeyedBy (Ok key) year month number = (job_tests year month number ≡ none) × (key ≡ job_key year month number)
KeyedBy (Err r) year month number = job_tests year month number ≡ some r
