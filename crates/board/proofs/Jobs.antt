-- A job's tests and key, and the calls on one job.
use Prim.Native.Nat.{ℕ, ◌≤◌, ◌<◌}
use mathlib.Core.Path.{◌≡◌, refl, sym, ap, ◌∙◌}
use mathlib.Core.Bool.{Bool, true, false}
use mathlib.Core.List.{List}
use mathlib.Core.Option.{none, some}
use native.Mathlib.Omega.{arith}
use borrow.Author.Tests.{leb-true, le-leb, ltb-true}
use lib.Dec.{leb, ltb}
use Rattle.stores.proofs.Lists.{some_none}
use Rattle.stores.proofs.Tests.{and_left, and_right, and_true}
use Rattle.replies.specs.declared.Refusal.{Refusal}
use Rattle.replies.specs.declared.Refusal.TheVariants.{BadYear, BadMonth, BadNumber}
use Rattle.replies.specs.declared.Answer.{Answer}
use Rattle.std.specs.Prelude.{Ok, Err}
use Rattle.replies.specs.Replies.{number_of, said_by, unless}
use Rattle.replies.proofs.Sayable.{given_by, unless_given}
use Rattle.index_rules.specs.declared.Call.{Call}
use Rattle.index_rules.specs.Step.{outcome_of}
use Rattle.replies.specs.Answered.{Answered}
use Rattle.board.specs.declared.id.JobId.{JobId}
use Rattle.board.specs.Jobs.{valid_year, valid_month, valid_number, job_key, year_tests, job_tests, behind, on_job}
use Rattle.board.specs.Tested.{TestedBy, KeyedBy}

-- ---- Year, month, number

pub year_bounds : (year : ℕ) → valid_year year ≡ true → (1 ≤ year) × (year ≤ 9999)
unfolding valid_year
year_bounds year h =
    (leb-true 1 year (and_left (leb 1 year) (leb year 9999) h), leb-true year 9999 (and_right (leb 1 year) (leb year 9999) h))

pub month_bounds : (month : ℕ) → valid_month month ≡ true → (1 ≤ month) × (month ≤ 12)
unfolding valid_month
month_bounds month h =
    (leb-true 1 month (and_left (leb 1 month) (leb month 12) h), leb-true month 12 (and_right (leb 1 month) (leb month 12) h))

pub month_valid : (month : ℕ) → 1 ≤ month → month ≤ 12 → valid_month month ≡ true
unfolding valid_month
month_valid month l h = and_true (le-leb 1 month l) (le-leb month 12 h)

pub number_bound : (number : ℕ) → valid_number number ≡ true → number ≤ 4095
unfolding valid_number
number_bound number h = leb-true number 4095 h

pub number_valid : (number : ℕ) → number ≤ 4095 → valid_number number ≡ true
unfolding valid_number
number_valid number h = le-leb number 4095 h

-- Different jobs have different keys.
pub keys_differ : (year month number year' month' number' : ℕ) → valid_month month ≡ true → valid_number number ≡ true → valid_month month' ≡ true
    → valid_number number' ≡ true → job_key year month number ≡ job_key year' month' number' → (year ≡ year') × (month ≡ month') × (number ≡ number')
unfolding job_key
keys_differ year month number year' month' number' m n m' n' e =
    let b = month_bounds month m in
    let b' = month_bounds month' m' in
    let l₁ : month ≤ 12 = b.1 in
    let l₂ : month' ≤ 12 = b'.1 in
    let l₃ : number ≤ 4095 = number_bound number n in
    let l₄ : number' ≤ 4095 = number_bound number' n' in
    (omega arith, omega arith, omega arith)

-- ---- The tests, and the key behind them

module _ (year month number : ℕ) where
  pub bad_year : valid_year year ≡ false → job_tests year month number ≡ some BadYear
  unfolding job_tests year_tests unless
  bad_year y = rw y refl

  pub bad_month : valid_year year ≡ true → valid_month month ≡ false → job_tests year month number ≡ some BadMonth
  unfolding job_tests year_tests unless
  bad_month y m = rw (y, m) refl

  pub bad_number : valid_year year ≡ true → valid_month month ≡ true → valid_number number ≡ false → job_tests year month number ≡ some BadNumber
  unfolding job_tests year_tests unless
  bad_number y m n = rw (y, m, n) refl

  pub tests_pass : valid_year year ≡ true → valid_month month ≡ true → valid_number number ≡ true → job_tests year month number ≡ none
  unfolding job_tests year_tests unless
  tests_pass y m n = rw (y, m, n) refl

  -- They refuse with 11, 12 or 13.
  pub tests_late : (r : Refusal) → job_tests year month number ≡ some r → 10 < number_of r
  unfolding job_tests year_tests
  tests_late r e =
      let late : ℕ → Bool = λ n. ltb 10 n in
      ltb-true 10 (number_of r)
      (given_by late (job_tests year month number) r
      (unless_given late (valid_year year) BadYear _ refl
      (unless_given late (valid_month month) BadMonth _ refl (unless_given late (valid_number number) BadNumber none refl Prim.tt)))
      e)

  -- A key is not 0 in a year from 1 on.
  pub key_nonzero : 1 ≤ year → job_key year month number ≡ 0 → ⊥
  unfolding job_key
  key_nonzero h e = omega arith

  -- So it is not where the tests pass.
  pub passed_nonzero : job_tests year month number ≡ none → job_key year month number ≡ 0 → ⊥
  passed_nonzero t = key_nonzero (year_low (valid_year year) refl)
    where
      year_low : (y : Bool) → valid_year year ≡ y → 1 ≤ year
      year_low true e = (year_bounds year e).0
      year_low false e = absurd (some_none BadYear (sym (bad_year e) ∙ t))

  -- What the code's test says of the job, of its key.
  pub key_tested : (id : JobId) (key : ℕ) → TestedBy (Ok id) year month number → key ≡ job_key id.year id.month id.number
      → KeyedBy (Ok key) year month number
  key_tested id key t e = (t.0, e ∙ rw (t.1, t.2, t.3) refl)

  -- ---- The calls on one job

  module _ (a : List ℕ) (call : ℕ → Call) (answer : Answer) where
    -- Behind the tests the index's call on the job's key has been made.
    pub job_called : (key : ℕ) (after : List ℕ) → KeyedBy (Ok key) year month number
        → Answered (outcome_of a (call key)) answer after → Answered (on_job a year month number call) answer after
    unfolding on_job behind
    job_called key after p d = rw p.0 (rw p.1 at d)

    -- The tests have refused, and no store was made.
    pub job_refused : (r : Refusal) → KeyedBy (Err r) year month number
        → (answer.reply ≡ Err r) × (answer.stores ≡ 0) → Answered (on_job a year month number call) answer a
    unfolding on_job behind
    job_refused r h w = rw h (record { reply = ap said_by w.0; stores = w.1; words = refl })
