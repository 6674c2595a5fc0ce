-- `index_segment::copy::copy_records` meets its contract. The invariant: the stores of the slots so far are due.
use borrow.Author.Rules.{rules}
use native.Mathlib.Omega.{arith}
use Prim.Native.Nat.{◌/◌, ◌<◌}
use lib.ListN.{length}
use native.Mathlib.Numerals.{add-one}
use mathlib.Core.Path.{◌≡◌, refl, ◌∙◌}
use Rattle.stores.specs.Lists.{each}
use Rattle.stores.proofs.Lists.{each_zero, each_suc}
use Rattle.stores.proofs.Stores.{executed_none, executed_append}
use Rattle.index_layout.specs.Blocks.{shared}
use Rattle.index_rules.specs.Split.{copy_slot, copying}
use Rattle.index_segment.proofs.Words.{slot_holds}
use Rattle.index_segment.proofs.Copies.{copy_short}
use Rattle.index_segment.proofs.copy.copy_records.Goals as goal

pub loop-slot-init : goal.loop-slot-init
loop-slot-init c = (refl, search rules, rw (each_zero _) (executed_none _ _))

pub loop-slot-preserved : goal.loop-slot-preserved
loop-slot-preserved c =
    let u = c.args in
    let old = u.old in
    let L = u.block.local_depth in
    let bits = shared u.block in
    let here = c.loop-slot in
    let slot = here.slot in
    let call = c.copy_slot in
    let k : slot < length old / 2 = omega (arith, c.slots-key-items.ensures.count) in
    let copied = call.ensures old (slot_holds old c.slots-key-items.result.now c.slots-key-items.ensures.pairs slot k) in (
      call.auto.new_segment ∙ here.invariant.0,
      omega (arith, copied.count, copy_short old L bits slot),
      rw (add-one slot, each_suc (copy_slot old 0 0 L bits) slot)
          (executed_append (each (copy_slot old 0 0 L bits) slot) (copy_slot old 0 0 L bits slot) u.budget.now u.new_segment.now
          here.budget here.new_segment call.new.budget call.new.new_segment here.invariant.2 copied),
    )

pub returns : goal.returns
unfolding copying
returns c =
    let all : c.loop-slot.slot ≡ 64 = omega (arith, c.slots-key-items.ensures.count) in
    rw all at c.loop-slot.invariant.2
