-- `index_segment::choice::first_slot` meets its contract. The invariant: no slot so far has a key that passes.
use native.Mathlib.Omega.{arith}
use Prim.Native.Nat.{◌<◌}
use mathlib.Core.Path.{◌≡◌, sym, ◌∙◌}
use Rattle.index_segment.proofs.Search.{no_slot_yet, slot_passed, slot_hit, no_slot, four_slots, slot_passes}
use Rattle.index_segment.proofs.choice.first_slot.Goals as goal

pub loop-j-init : goal.loop-j-init
loop-j-init g c = λ p says a e. no_slot_yet _ _

pub returns-then-passes : goal.returns-then-passes
returns-then-passes g c =
    let u = c.args in
    let j = c.loop-j.j in
    let front = c.slots-key-items.ensures.pairs in
    λ p says a e.
    let k : j < 4 = omega (arith, four_slots _ _ u.number a e front) in
    let passed = slot_passes _ _ u.number a e front p j k ∙ sym (says _ _ c.passes.ensures) ∙ c.if-passes.true in
    sym (slot_hit _ u.number j k (c.loop-j.invariant p says a e) passed)

pub loop-j-preserved : goal.loop-j-preserved
loop-j-preserved g c =
    let u = c.args in
    let j = c.loop-j.j in
    let front = c.slots-key-items.ensures.pairs in
    λ p says a e.
    let k : j < 4 = omega (arith, four_slots _ _ u.number a e front) in
    let failed = slot_passes _ _ u.number a e front p j k ∙ sym (says _ _ c.passes.ensures) ∙ c.if-passes.false in
    slot_passed _ u.number j (c.loop-j.invariant p says a e) failed

pub returns : goal.returns
returns g c =
    let j = c.loop-j.j in
    λ p says a e.
    let all : j ≡ 4 = omega (arith, four_slots _ _ c.args.number a e c.slots-key-items.ensures.pairs) in
    sym (no_slot _ c.args.number (rw all at (c.loop-j.invariant p says a e)))
