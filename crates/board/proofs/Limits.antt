-- The board's calls, within the index's limits: range, locality, the bound on stores, refusals that change nothing, and how much one
-- number can change.
use Prim.Native.Nat.{ℕ, ◌≤◌}
use mathlib.Core.Path.{◌≡◌, refl}
use mathlib.Core.List.{List, [], ◌∷◌}
use mathlib.Core.Option.{Option, none, some}
use mathlib.Core.Logic.{◌⊎◌}
use native.Mathlib.Omega.{arith}
use lib.ListN.{length}
use Rattle.stores.specs.Store.{word}
use Rattle.stores.specs.Plan.{Outcome, cut}
use Rattle.stores.proofs.Lists.{each_same}
use Rattle.replies.specs.declared.Refusal.{Refusal}
use Rattle.replies.specs.Replies.{Said, refused, refuse, changed}
use Rattle.index_rules.specs.declared.Call.{Call}
use Rattle.index_rules.specs.declared.Call.TheVariants.{Get, Put}
use Rattle.index_rules.specs.Get.{get}
use Rattle.index_rules.specs.Step.{effect, step, outcome_of}
use Rattle.index_laws.specs.OneNumber.{AtMostOneWord, one_more, SameButOneWord}
use Rattle.index_laws.specs.Limits.{extent, Alike, SameOutcome, Unchanged}
use Rattle.index_laws.proofs.Range.{step_length, step_untouched}
use Rattle.index_laws.proofs.Local.{step_local}
use Rattle.index_laws.proofs.Bound.{put_bound}
use Rattle.index_laws.proofs.Refusals.{refusal_unchanged}
use Rattle.index_laws.proofs.OneNumber.{at_most_one, one_more_allowed_holds, other_value_holds}
use Rattle.board.specs.Jobs.{job_key, job_tests, behind, on_job, set_job}
use Rattle.board.specs.Print.{month_lookups, year_lookups, print_over, all_numbers, print_year}

-- ---- Calls on one job

-- What was refused by the board's own tests.
abbrev refused_on : List ℕ → Refusal → Outcome Said
refused_on a r = record { reply = refuse r; made = 0; after = a }

-- What holds of two calls of the index, and of every refusal by the board's tests, holds of the board's two calls on one job.
jobs_law : (a b : List ℕ) (year month number : ℕ) (call other : ℕ → Call) (P : (o p : Outcome Said) → Type 0)
    → ((r : Refusal) → P (refused_on a r) (refused_on b r))
    → P (outcome_of a (call (job_key year month number))) (outcome_of b (other (job_key year month number)))
    → P (on_job a year month number call) (on_job b year month number other)
unfolding on_job behind
jobs_law a b year month number call other P otherwise passed = go (job_tests year month number)
  where
    key : ℕ
    key = job_key year month number

    go : (t : Option Refusal) → P (behind t a (outcome_of a (call key))) (behind t b (outcome_of b (other key)))
    go none = passed
    go (some r) = otherwise r

module _ (a : List ℕ) (year month number : ℕ) (call : ℕ → Call) where
  -- The key of the job.
  abbrev key : ℕ
  key = job_key year month number

  -- The same of one call.
  job_law : (P : Outcome Said → Type 0) → ((r : Refusal) → P (refused_on a r)) → P (outcome_of a (call key)) → P (on_job a year month number call)
  job_law P = jobs_law a a year month number call call (λ o p. P o)

  -- The array keeps its length, and words beyond those that the call may touch stay.
  pub job_length : length (on_job a year month number call).after ≡ length a
  job_length = job_law (λ o. length o.after ≡ length a) (λ r. refl) (step_length a [] (call key))

  pub job_untouched : (i : ℕ) → extent a (call key) ≤ i → word (on_job a year month number call).after i ≡ word a i
  job_untouched i h = job_law (λ o. word o.after i ≡ word a i) (λ r. refl) (step_untouched a [] (call key) i h)

  -- Refusals 1 to 4 and 8 to 13 change nothing.
  pub job_unchanged : (n : ℕ) → (on_job a year month number call).reply ≡ refused n → (n ≤ 4) ⊎ (8 ≤ n) → Unchanged a (on_job a year month number call)
  job_unchanged n e which =
      job_law (λ o. o.reply ≡ refused n → Unchanged a o) (λ r q. record { after = refl; made = refl })
      (λ q. refusal_unchanged a [] (call key) n q which) e

-- Reply and stores follow from the words that D and S take, and the length.
pub job_local : (a b : List ℕ) (year month number : ℕ) (call : ℕ → Call) → Alike a b (call (job_key year month number))
    → SameOutcome a b (on_job a year month number call) (on_job b year month number call)
job_local a b year month number call s =
    jobs_law a b year month number call call (SameOutcome a b) (λ r. record { reply = refl; made = refl; words = λ i h. h })
    (step_local a b [] (call (job_key year month number)) s)

-- A set makes at most as many stores as a put.
put_made : (a : List ℕ) (key value allowance : ℕ) → (outcome_of a (Put key value allowance)).made ≤ 9764
unfolding step effect changed cut
put_made a key value allowance = omega (arith, put_bound a key value)

pub set_bound : (a : List ℕ) (year month number pages allowance : ℕ) → (set_job a year month number pages allowance).made ≤ 9764
set_bound a year month number pages allowance =
    job_law a year month number (λ key. Put key pages allowance) (λ o. o.made ≤ 9764) (λ r. omega arith)
    (put_made a (job_key year month number) pages allowance)

-- ---- How much one number can change

-- An allowance larger by one changes at most one word.
pub job_one_more : (a : List ℕ) (year month number : ℕ) (call : ℕ → Call)
    → AtMostOneWord (on_job a year month number call).after (on_job a year month number (λ key. one_more (call key))).after
job_one_more a year month number call =
    jobs_law a a year month number call (λ key. one_more (call key)) (λ o p. AtMostOneWord o.after p.after)
    (λ r. at_most_one none a a refl) (one_more_allowed_holds a [] (call (job_key year month number)))

-- A set with another number of pages has the same reply and the same store count, and changes at most one word.
pub set_other_pages : (a : List ℕ) (year month number v w allowance : ℕ)
    → SameButOneWord (set_job a year month number v allowance) (set_job a year month number w allowance)
set_other_pages a year month number v w allowance =
    jobs_law a a year month number (λ key. Put key v allowance) (λ key. Put key w allowance) SameButOneWord
    (λ r. record { reply = refl; made = refl; words = at_most_one none a a refl })
    (other_value_holds a [] (job_key year month number) v w allowance)

-- ---- A print

-- It follows from the lookups of the year's jobs.
module _ (a b : List ℕ) (year : ℕ) (same : (month number : ℕ) → get a (job_key year month number) ≡ get b (job_key year month number)) where
  same_month : (numbers : List ℕ) (month : ℕ) → month_lookups a year numbers month ≡ month_lookups b year numbers month
  unfolding month_lookups
  same_month [] month = refl
  same_month (n ∷ ns) month = rw (same month n, same_month ns month) refl

  same_year : year_lookups a year all_numbers ≡ year_lookups b year all_numbers
  unfolding year_lookups
  same_year = each_same _ _ 12 (λ m h. same_month all_numbers _)

  pub print_by_lookups : (room : ℕ) → print_year a year room ≡ print_year b year room
  unfolding print_year print_over
  print_by_lookups room = rw same_year refl

-- So from the words that D and S take, and the length.
pub print_local : (a b : List ℕ) (year room : ℕ) → ((key : ℕ) → Alike a b (Get key)) → print_year a year room ≡ print_year b year room
unfolding step effect
print_local a b year room s =
    print_by_lookups a b year
    (λ month number. (step_local a b [] (Get (job_key year month number)) (s (job_key year month number))).reply)
    room
