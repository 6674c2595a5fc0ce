-- What holds of every store that the history rule covers: mending can bring it back, a list and the answers block by block have the map's
-- records, and a done merge frees a segment.
use mathlib.Core.Path.{◌≡◌, sym, ◌∙◌}
use mathlib.Core.List.{List, []}
use mathlib.Core.Option.{none}
use mathlib.Core.Logic.{⊎_elim}
use Prim.Native.Nat.{ℕ}
use Rattle.replies.specs.Replies.{changed}
use Rattle.index_rules.specs.Merge.{merge_tests, merge}
use Rattle.index_rules.specs.Step.{effect, step}
use Rattle.replies.proofs.Outcomes.{Complete, CutShort, changed_cases, refused_not_done, tested_none, tests_passed}
use Rattle.index_laws.proofs.Listing.{done_list_leaves}
use Rattle.index_laws.proofs.ListBlock.{joined_listing}
use Rattle.index_laws.proofs.Put.{tests_consistent}
use Rattle.index_laws.proofs.Merge.{merge_passed}
use Rattle.index_history.specs.Further.{MendSuffices, ListIsMap, PartsAreMap, MergeFrees}
use Rattle.index_history.proofs.Invariant.{shape_depth, shape_segments, shape_valid}
use Rattle.index_history.proofs.Recover.{entries_recovered}
use Rattle.index_laws.proofs.Words.{header_valid}
use Rattle.index_laws.proofs.Mending.{mend_is_done}
use Rattle.index_history.proofs.Mend.{inv_mendable}
use Rattle.index_history.proofs.Merge.{right_free}
use Rattle.index_history.proofs.Listing.{records_list_map}
use Rattle.index_history.proofs.Calls.{list_kept}
use Rattle.index_history.proofs.Theorem.{covered_good}

pub mend_suffices : MendSuffices
unfolding effect step
mend_suffices p c allowance l enough =
    let inv = (covered_good p c).kept.inv in
    mend_is_done (inv_mendable inv) (header_valid (shape_valid inv.shape)) (shape_segments inv.shape) allowance
    (rw (shape_depth inv.shape) at enough)

pub list_is_map : ListIsMap
list_is_map p c calm l answer a' l' count performed says =
    let good = covered_good p c in
    let w = good.whole calm in
    let d = done_list_leaves p.array l count (sym performed.answered.reply ∙ says) in
    (performed.list ∙ d.left, records_list_map w.inv w.recovered good.zero_none, d.count)

pub parts_are_map : PartsAreMap
unfolding effect step
parts_are_map p c calm l enough =
    let good = covered_good p c in
    let w = good.whole calm in
    (joined_listing p.array l [] enough (list_kept p good calm 0).no_damage, records_list_map w.inv w.recovered good.zero_none)

-- A done merge has made all its stores, on a store whose entries are all mended: its tests have passed.
pub merge_frees : MergeFrees
unfolding effect step merge
merge_frees p c key allowance l says =
    let a : List ℕ = p.array in
    let inv = (covered_good p c).kept.inv in
    ⊎_elim
    (λ (d : Complete (merge a key) a (changed allowance (merge a key) a)).
    let t : merge_tests a key ≡ none = tests_passed (merge_tests a key) _ [] (sym d.reply ∙ says) in
    let passed = merge_passed a key t in
    let same = entries_recovered inv (tests_consistent a key passed.tests.tests).1 in
    rw (d.after, t, tested_none) (right_free inv same key passed))
    (λ (d : CutShort allowance (merge a key) a (changed allowance (merge a key) a)). absurd (refused_not_done 7 [] (sym d.reply ∙ says)))
    (changed_cases allowance (merge a key) a)
