-- The history rule for the month board, and its lookups and prints before mending. A call that passes the board's tests is the index's
-- call on the job's key, and keeps the index's invariant; one that does not changes nothing.
use mathlib.Core.Path.{◌≡◌, refl, sym, ◌∙◌}
use mathlib.Core.Bool.{Bool, true, false}
use mathlib.Core.List.{List, [], ◌∷◌}
use mathlib.Core.Option.{Option, none, some}
use Prim.Native.Nat.{ℕ, ◌<◌}
use native.Mathlib.Omega.{arith}
use borrow.Author.Tests.{ne_eqb}
use lib.ListN.{length}
use Rattle.stores.specs.Plan.{Outcome}
use Rattle.replies.specs.declared.Refusal.{Refusal}
use Rattle.replies.proofs.Outcomes.{refused_not_done}
use Rattle.index_rules.specs.declared.Call.TheVariants.{Get, Put, Remove}
use Rattle.replies.specs.Replies.{Said, done, refused, number_of, unless}
use Rattle.replies.specs.Writing.{behind_tests}
use Rattle.index_rules.specs.Step.{effect, step, outcome_of}
use Rattle.runs.specs.Map.{View, looks, map_says, fed}
use Rattle.runs.specs.Run.{Point, start, may_follow, is_recovery, claimed, next, finish, Linked, CallAgrees}
use Rattle.runs.proofs.Runs.{Invariant, runs_agree, all_linked}
use Rattle.runs.proofs.BeforeMending.{lookups_before_mending}
use Rattle.index_history.specs.History.{Formatted}
use Rattle.index_history.proofs.Plans.{Good, CallKept, nothing_changed}
use Rattle.index_history.proofs.Calls.{get_is_map}
use Rattle.index_history.proofs.Theorem.{good_start, call_kept}
use Rattle.board.specs.Jobs.{valid_year, job_key, year_tests, job_tests, behind, on_job, read_job}
use Rattle.board.specs.Print.{text_of, print_over, print_year}
use Rattle.board.specs.Claims.{PrintSays, bad_year, passed_on, too_long, printed}
use Rattle.board.proofs.Jobs.{year_bounds, tests_late, key_nonzero, passed_nonzero}
use Rattle.board.proofs.Cases.{print_cases}
use Rattle.board.proofs.Limits.{print_by_lookups}
use Rattle.board_history.specs.BoardHistory.{BoardCall, sets, reads, removes, prints, calls, board_step, view_behind, board_view, board, BoardHistoryRule, JobsReadBack, BoardBeforeMending, PrintBeforeMending}

-- ---- One call

-- A call that says a refusal above 7 and changes nothing.
refused_kept : (p : Point) → Good p → (n : ℕ) → 7 < n → CallKept p looks (refused n) p.array
unfolding fed is_recovery
refused_kept p good n h =
    nothing_changed p looks (refused n) good refl (ne_eqb n 7 (omega arith)) refl Prim.tt
    (rw (ne_eqb n 1 (omega arith), ne_eqb n 3 (omega arith), ne_eqb n 4 (omega arith)) refl)

-- A call behind tests that refuse with 11 or more.
behind_kept : (p : Point) → Good p → (view : View) (o : Outcome Said)
    → (may_follow p.needs_recovery view o.reply ≡ true → CallKept p view o.reply o.after)
    → (t : Option Refusal) → ((r : Refusal) → t ≡ some r → 10 < number_of r)
    → may_follow p.needs_recovery (view_behind t view) (behind t p.array o).reply ≡ true
    → CallKept p (view_behind t view) (behind t p.array o).reply (behind t p.array o).after
unfolding behind
behind_kept p good view o passed none late may = passed may
behind_kept p good view o passed (some r) late may =
    let l : 10 < number_of r = late r refl in
    refused_kept p good (number_of r) (omega arith)

-- A print says 11, 10 or its bytes: in a run no lookup is refused.
map_not_refused : (v : Option ℕ) (n : ℕ) → map_says v ≡ refused n → ⊥
map_not_refused none n e = let z : ◌≡◌ {A = ℕ} 0 1 = cc in omega arith
map_not_refused (some v) n e = refused_not_done n (v ∷ []) (sym e)

-- Every key of a valid year's jobs is claimed.
job_claimed : (year month number : ℕ) → valid_year year ≡ true → claimed (job_key year month number) ≡ true
unfolding claimed
job_claimed year month number y = rw (ne_eqb (job_key year month number) 0 (key_nonzero year month number (year_bounds year y).0)) refl

print_kept : (p : Point) → Good p → (year room : ℕ) → CallKept p looks (print_year p.array year room).reply p.array
unfolding fed is_recovery
print_kept p good year room = go (print_cases p.array year room)
  where
    go : PrintSays p.array year room (print_year p.array year room) → CallKept p looks (print_year p.array year room).reply p.array
    go (bad_year y e) = rw e (refused_kept p good 11 (omega arith))
    go (passed_on n y r k e) =
        let key : ℕ = job_key year r.month r.number in
        absurd (map_not_refused (p.map key) n (sym (get_is_map p good key (job_claimed year r.month r.number y)) ∙ r.says))
    go (too_long jobs y k j h e) = rw e (refused_kept p good 10 (omega arith))
    go (printed jobs y k j h e) = rw e (nothing_changed p looks (done (length (text_of jobs) ∷ [])) good refl refl refl Prim.tt refl)

pub board_kept : (p : Point) → Good p → (c : BoardCall) → may_follow p.needs_recovery (board_view c) (board_step p.array c).reply ≡ true
    → CallKept p (board_view c) (board_step p.array c).reply (board_step p.array c).after
unfolding on_job
board_kept p good (sets year month number pages allowance) may =
    behind_kept p good _ _ (λ m. call_kept p good [] (Put (job_key year month number) pages allowance) m) (job_tests year month number)
    (tests_late year month number) may
board_kept p good (reads year month number) may =
    behind_kept p good _ _ (λ m. call_kept p good [] (Get (job_key year month number)) m) (job_tests year month number)
    (tests_late year month number) may
board_kept p good (removes year month number allowance) may =
    behind_kept p good _ _ (λ m. call_kept p good [] (Remove (job_key year month number) allowance) m) (job_tests year month number)
    (tests_late year month number) may
board_kept p good (prints year room) may = print_kept p good year room
board_kept p good (calls r) may = call_kept p good r.list r.call may

-- ---- The runs

linked : (p : Point) (run : List BoardCall) → Linked board p run
linked = all_linked board (λ a c. Prim.tt)

agreeing : Invariant board Formatted Good (CallAgrees board)
unfolding step effect next
agreeing =
    record {
      at_start = good_start;
      kept = λ p good c made may. let k = board_kept p good c may in (k.agrees, k.good);
      says = λ p good key c said e. e ∙ get_is_map p good key c;
    }

-- THE THEOREM.
pub board_history_rule : BoardHistoryRule
board_history_rule a formatted run v = runs_agree board Formatted Good agreeing a formatted run (linked (start a) run) v

-- A read behind passed tests is the lookup of the job's key.
read_looks_up : (a : List ℕ) (year month number : ℕ) → job_tests year month number ≡ none
    → (read_job a year month number).reply ≡ (outcome_of a (Get (job_key year month number))).reply
unfolding on_job behind
read_looks_up a year month number t = rw t refl

pub jobs_read_back : JobsReadBack
unfolding claimed
jobs_read_back a formatted run v year month number t =
    let other : claimed (job_key year month number) ≡ true = rw (ne_eqb (job_key year month number) 0 (passed_nonzero year month number t)) refl in
    (board_history_rule a formatted run v).1 (job_key year month number) other _ (read_looks_up (finish board (start a) run).array year month number t)

-- ---- Before mending

pub board_before_mending : BoardBeforeMending
board_before_mending = lookups_before_mending board Formatted Good (CallAgrees board) agreeing

pub print_before_mending : PrintBeforeMending
unfolding step effect print_over print_year year_tests unless behind_tests
print_before_mending p reached mends e year room = go (valid_year year) refl
  where
    later : List ℕ
    later = (finish board p mends).array

    go : (y : Bool) → valid_year year ≡ y → print_year p.array year room ≡ print_year later year room
    go true y =
        print_by_lookups p.array later year
        (λ month number. board_before_mending p reached mends (linked p mends) e (job_key year month number) (job_claimed year month number y) _ _ refl refl)
        room
    go false y = rw y refl
