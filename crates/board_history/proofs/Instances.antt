-- The statements of `specs/` at small cases: each is taken as a hypothesis, and antt computes what it asks for. This file imports no proof of a
-- statement: one that holds of nothing, or says nothing, is refused here.
use Prim.Native.Nat.{ℕ}
use mathlib.Core.Path.{◌≡◌, refl}
use mathlib.Core.Bool.{true}
use mathlib.Core.List.{List, [], ◌∷◌}
use mathlib.Core.Option.{none}
use lib.ListN.{replicate}
use Rattle.index_rules.specs.declared.Call.TheVariants.{Get, Mend}
use Rattle.index_rules.specs.Step.{outcome_of}
use Rattle.index_rules.proofs.Table.{computed}
use Rattle.runs.specs.Map.{empty, updated, fed, map_says}
use Rattle.runs.specs.Run.{Point, start, may_follow, is_recovery, recovery_after, claimed, next, finish, valid_run, Reached}
use Rattle.runs.specs.BeforeMending.{mends_behind, mends_to_completion}
use Rattle.runs.proofs.Runs.{all_linked}
use Rattle.index_history.specs.History.{Formatted}
use Rattle.board.specs.Jobs.{valid_year, valid_month, valid_number, job_key, year_tests, job_tests, behind, on_job, read_job}
use Rattle.board.specs.Print.{print_year}
use Rattle.board_history.specs.BoardHistory.{BoardCall, sets, reads, board, BoardHistoryRule, JobsReadBack, BoardBeforeMending, PrintBeforeMending}
use Rattle.board_history.proofs.Samples.{formatted, own}

pub formatted_so : Formatted formatted
unfolding computed
formatted_so = record { before = replicate 520 7; D = 2; S = 4; allowance = 67; reply = refl; left = refl }

-- A job is set and read; then another is set, and cut between value and key.
abbrev run : List BoardCall
run = sets 2026 1 9 70 2 ∷ reads 2026 1 9 ∷ sets 2026 1 10 80 1 ∷ []

run_valid : valid_run board (start formatted) run ≡ true
unfolding computed empty updated fed may_follow is_recovery recovery_after next valid_run valid_year valid_month valid_number job_key year_tests job_tests behind on_job
run_valid = refl

tests_pass : job_tests 2026 1 9 ≡ none
unfolding computed valid_year valid_month valid_number year_tests job_tests
tests_pass = refl

-- The point behind the run, and the key of the job.
abbrev behind_run : Point
behind_run = finish board (start formatted) run

abbrev key : ℕ
key = job_key 2026 1 9

key_claimed : claimed key ≡ true
unfolding claimed job_key
key_claimed = refl

pub job_agrees : BoardHistoryRule → (outcome_of behind_run.array (Get key)).reply ≡ map_says (behind_run.map key)
job_agrees rule = (rule formatted formatted_so run run_valid).1 key key_claimed (outcome_of behind_run.array (Get key)).reply refl

pub job_read_back : JobsReadBack → (read_job behind_run.array 2026 1 9).reply ≡ map_says (behind_run.map key)
job_read_back back = back formatted formatted_so run run_valid 2026 1 9 tests_pass

-- ---- Before mending

mend_completes : mends_to_completion board behind_run (own (Mend 0) ∷ []) ≡ true
unfolding computed next finish mends_behind valid_year valid_month valid_number job_key year_tests job_tests behind on_job
mend_completes = refl

reached : Reached board Formatted behind_run
reached =
    record {
      first = formatted;
      started = formatted_so;
      calls = run;
      linked = all_linked board (λ a c. Prim.tt) (start formatted) run;
      valid = run_valid;
      comes = refl;
    }

-- The array behind the mend.
abbrev mended : List ℕ
mended = (finish board behind_run (own (Mend 0) ∷ [])).array

pub job_stays : BoardBeforeMending → (outcome_of behind_run.array (Get key)).reply ≡ (outcome_of mended (Get key)).reply
job_stays before =
    before behind_run reached (own (Mend 0) ∷ []) (all_linked board (λ a c. Prim.tt) behind_run (own (Mend 0) ∷ [])) mend_completes key key_claimed
    (outcome_of behind_run.array (Get key)).reply (outcome_of mended (Get key)).reply refl refl

pub print_stays : PrintBeforeMending → print_year behind_run.array 2026 100 ≡ print_year mended 2026 100
print_stays before = before behind_run reached (own (Mend 0) ∷ []) mend_completes 2026 100
