-- A set that refuses with 5 or 6 leaves the probe window of the job's key full, in a segment that can't be split.
use mathlib.Core.Path.{◌≡◌, refl}
use mathlib.Core.List.{[]}
use mathlib.Core.Option.{Option, none, some}
use native.Mathlib.Omega.{arith}
use Rattle.replies.specs.declared.Refusal.{Refusal}
use Rattle.replies.specs.Replies.{number_of}
use Rattle.index_rules.specs.declared.Call.TheVariants.{Put}
use Rattle.index_laws.specs.Full.{ForWantOfSpace}
use Rattle.index_rules.specs.Step.{outcome_of}
use Rattle.index_laws.proofs.Full.{refused_otherwise, put_for_want_of_space}
use Rattle.board.specs.Jobs.{job_key, job_tests, behind, on_job}
use Rattle.board.specs.Full.{SetForWantOfSpace}
use Rattle.board.proofs.Jobs.{tests_late}

-- The board's own refusals are neither 5 nor 6; behind its tests a set is the index's put.
pub set_for_want_of_space : SetForWantOfSpace
unfolding on_job behind
set_for_want_of_space a year month number pages allowance = go (job_tests year month number) refl
  where
    go : (t : Option Refusal) → job_tests year month number ≡ t
        → ForWantOfSpace (job_key year month number) (behind t a (outcome_of a (Put (job_key year month number) pages allowance))).reply
        (behind t a (outcome_of a (Put (job_key year month number) pages allowance))).after
    go none e = put_for_want_of_space a [] (job_key year month number) pages allowance
    go (some r) e =
        let late = tests_late year month number r e in
        refused_otherwise (job_key year month number) (number_of r) a (λ x. omega arith) (λ x. omega arith)
