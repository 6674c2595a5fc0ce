-- `index_segment::merge::merge_records` meets its contract. The invariant: the stores of the slots so far are due.
use Prim.Native.Nat.{◌/◌, ◌≤◌, ◌<◌}
use borrow.Author.Rules.{rules}
use native.Mathlib.Omega.{arith}
use native.Mathlib.Numerals.{add-one}
use mathlib.Core.Path.{◌≡◌, refl, ◌∙◌}
use Rattle.stores.specs.Lists.{each}
use Rattle.stores.specs.Executed.{Executed}
use Rattle.stores.proofs.Lists.{each_zero, each_suc}
use Rattle.stores.proofs.Stores.{executed_none, executed_append}
use Rattle.index_layout.specs.Blocks.{shared}
use Rattle.index_rules.specs.Merge.{merge_slot, merging_slots}
use Rattle.index_laws.proofs.Merge.{length_record}
use Rattle.index_segment.proofs.Merges.{slot_merged}
use Rattle.index_segment.proofs.Words.{slot_pair}
use lib.ListN.{length}
use Rattle.index_segment.proofs.merge.merge_records.Goals as goal

pub loop-slot-init : goal.loop-slot-init
loop-slot-init c = (refl, search rules, rw (each_zero _) (executed_none _ _))

pub loop-slot-preserved : goal.loop-slot-preserved
loop-slot-preserved c =
    let u = c.args in
    let M = u.joined.local_depth in
    let bits = shared u.joined in
    let here = c.loop-slot in
    let slot = here.slot in
    let call = c.merge_slot in
    let k : slot < length u.left / 2 = omega (arith, c.slots-key-items.ensures.count) in
    let k' : slot < length u.right / 2 = omega (arith, c.slots-key-items.ensures.count) in
    let left = slot_pair u.left c.slots-left_slots.result.now c.slots-left_slots.ensures.pairs slot k in
    let right = slot_pair u.right c.slots-key-items.result.now c.slots-key-items.ensures.pairs slot k' in
    let merged : Executed (merge_slot u.left 0 u.right 0 M bits slot) here.budget here.segment call.new.budget call.new.segment =
    rw (← slot_merged u.left u.right M bits slot, ← left, ← right) call.ensures in
    let short : length (merge_slot u.left 0 u.right 0 M bits slot) ≤ 2 =
    rw (← slot_merged u.left u.right M bits slot) (length_record 0 M bits slot _ _ _) in (
      call.auto.segment ∙ here.invariant.0,
      omega (arith, merged.count),
      rw (add-one slot, each_suc (merge_slot u.left 0 u.right 0 M bits) slot)
          (executed_append (each (merge_slot u.left 0 u.right 0 M bits) slot) (merge_slot u.left 0 u.right 0 M bits slot) u.budget.now u.segment.now
          here.budget here.segment call.new.budget call.new.segment here.invariant.2 merged),
    )

pub returns : goal.returns
unfolding merging_slots
returns c =
    let all : c.loop-slot.slot ≡ 64 = omega (arith, c.slots-key-items.ensures.count) in
    rw all at c.loop-slot.invariant.2
