-- The history rule, and lookups before mending. The invariant is `Good` (Plans.antt); each call keeps it (Calls.antt); here is the
-- induction over the run.
use mathlib.Core.Path.{◌≡◌, refl, ◌∙◌}
use mathlib.Core.Bool.{true, false}
use mathlib.Core.List.{List}
use Prim.Native.Nat.{ℕ}
use borrow.Author.Tests.{not-true}
use lib.ListN.{length}
use Rattle.index_rules.specs.declared.Call.{Call}
use Rattle.index_rules.specs.declared.Call.TheVariants.{Format, Get, Put, Remove, Merge, Mend, List as ListCall, ListBlock}
use Rattle.replies.specs.Replies.{says_damage}
use Rattle.index_rules.specs.Step.{effect, step}
use Rattle.runs.specs.Map.{empty}
use Rattle.runs.specs.Run.{Point, start, may_follow, next, Linked, CallAgrees}
use Rattle.runs.proofs.Runs.{Invariant, runs_agree, each_call, reached_good, all_linked}
use Rattle.runs.proofs.BeforeMending.{lookups_before_mending}
use Rattle.index_history.specs.History.{view_of, Request, index, Formatted, HistoryRule, BeforeMending, CoveredPoint}
use Rattle.index_history.specs.Further.{NeverDamage}
use Rattle.index_history.proofs.Format.{format_leaves}
use Rattle.index_history.proofs.Plans.{Good, CallKept}
use Rattle.index_history.proofs.Calls.{get_is_map, get_kept, list_kept, list_block_kept, put_called, remove_called, merge_called, mend_called, format_called}

-- ---- The start, and one call

-- A store that a format has just left is good, with the empty map.
pub good_start : (a : List ℕ) → Formatted a → Good (start a)
unfolding empty
good_start a formatted =
    let fresh = format_leaves formatted in
    record {
      d = fresh.D;
      S = fresh.S;
      kept = record { g = 0; f = λ i. 0; inv = fresh.inv };
      whole = λ e. record { g = 0; f = λ i. 0; inv = fresh.inv; recovered = fresh.recovered };
      zero_none = refl;
    }

-- Any call that may come next, with any arguments, any allowance and any list array.
pub call_kept : (p : Point) → Good p → (l : List ℕ) (c : Call)
    → may_follow p.needs_recovery (view_of c) (step p.array l c).outcome.reply ≡ true
    → CallKept p (view_of c) (step p.array l c).outcome.reply (step p.array l c).outcome.after
unfolding effect step may_follow
call_kept p good l (Format D S allowance) may = format_called p good D S allowance may
call_kept p good l (Get key) may = get_kept p good key
call_kept p good l (Put key value allowance) may = put_called p good (not-true p.needs_recovery may) key value allowance
call_kept p good l (Remove key allowance) may = remove_called p good (not-true p.needs_recovery may) key allowance
call_kept p good l (Merge key allowance) may = merge_called p good (not-true p.needs_recovery may) key allowance
call_kept p good l (Mend allowance) may = mend_called p good allowance
call_kept p good l ListCall may = list_kept p good (not-true p.needs_recovery may) (length l)
call_kept p good l (ListBlock i) may = list_block_kept p good (not-true p.needs_recovery may) i (length l)

-- ---- The runs of the index

-- The points of its runs are good, and of each call all holds that follows from what it keeps.
invariant : (P : Point → Request → Type 0)
    → ((p : Point) (r : Request)
    → CallKept p (view_of r.call) (step p.array r.list r.call).outcome.reply (step p.array r.list r.call).outcome.after → P p r)
    → Invariant index Formatted Good P
unfolding effect step next
invariant P so =
    record {
      at_start = good_start;
      kept = λ p good r made may. let k = call_kept p good r.list r.call may in (so p r k, k.good);
      says = λ p good key c said e. e ∙ get_is_map p good key c;
    }

-- Any call of the index can be made on any array.
pub linked : (p : Point) (calls : List Request) → Linked index p calls
linked = all_linked index (λ a r. Prim.tt)

-- With each get that agrees with the map.
agreeing : Invariant index Formatted Good (CallAgrees index)
agreeing = invariant (CallAgrees index) (λ p r k. k.agrees)

-- THE THEOREM: demand 3 of document 01.
pub history_rule : HistoryRule
history_rule a formatted calls v = runs_agree index Formatted Good agreeing a formatted calls (linked (start a) calls) v

-- Wish 9 of document 02.
pub before_mending : BeforeMending
before_mending = lookups_before_mending index Formatted Good (CallAgrees index) agreeing

-- ---- What else holds of every run

pub never_damage : NeverDamage
never_damage a formatted calls v =
    each_call index Formatted Good _
    (invariant (λ p r. says_damage (step p.array r.list r.call).outcome.reply ≡ false) (λ p r k. k.no_damage))
    a formatted calls (linked (start a) calls) v

-- Every point that the rule covers is good.
pub covered_good : (p : Point) → CoveredPoint p → Good p
covered_good = reached_good index Formatted Good (CallAgrees index) agreeing
