-- `index_segment::merge::some_both_live` meets its contract. The invariant: no slot so far is live on both sides.
use borrow.Author.Rules.{rules}
use native.Mathlib.Omega.{arith}
use Prim.Native.Nat.{◌/◌, ◌<◌}
use native.Mathlib.Numerals.{add-one}
use mathlib.Core.Path.{◌≡◌, sym, ◌∙◌}
use mathlib.Core.List.{[]}
use lib.ListN.{length, length-append}
use Rattle.std.specs.Iterator.Adapters.{zip_first, zip_second}
use Rattle.std.specs.Slice.Iter.{iter_rest}
use Rattle.std.proofs.lemmas.Slice.Zip.{zip_turn, zip_end}
use Rattle.index_segment.proofs.Words.{pair, slot_pair}
use Rattle.index_segment.proofs.Merges.{both_none, both_next, both_found, both_absent}
use Rattle.index_segment.proofs.merge.some_both_live.Goals as goal
use Rattle.index_segment.proofs.merge.some_both_live.Goals.{In-Some}

-- The pairs of this turn.
turn : (c : In-Some) → (length c.loop-left_slot.yielded < 64)
    × (c.in-Some.left_slot.now ≡ pair c.args.left.now (length c.loop-left_slot.yielded))
    × (c.in-Some.right_slot.now ≡ pair c.args.right.now (length c.loop-left_slot.yielded))
turn c =
    let first : iter_rest (zip_first c.into_iter-left_slot-iterator.result) ≡ c.slots.result.now = search rules in
    let second : iter_rest (zip_second c.into_iter-left_slot-iterator.result) ≡ c.slots-2.result.now = search rules in
    let j = length c.loop-left_slot.yielded in
    let t = zip_turn c.slots.result.now c.slots-2.result.now c.loop-left_slot.yielded c.into_iter-left_slot-iterator.result c.loop-left_slot.left_slot-iterator c.next.new.self _
    first second c.loop-left_slot.yielded_by _ c.in-Some.is c.next.ensures.steps in
    let k : j < length c.args.left.now / 2 = omega (arith, t.0, c.slots.ensures.count) in
    let k' : j < length c.args.right.now / 2 = omega (arith, t.1, c.slots-2.ensures.count) in
    (omega arith, t.2 [] ∙ slot_pair c.args.left.now _ c.slots.ensures.pairs j k, t.3 [] ∙ slot_pair c.args.right.now _ c.slots-2.ensures.pairs j k')

pub loop-left_slot-init : goal.loop-left_slot-init
loop-left_slot-init c =
    let a = c.args in
    both_none a.left.now a.right.now a.joined

pub returns-then-both_keys_live : goal.returns-then-both_keys_live
returns-then-both_keys_live c =
    let a = c.args in
    let t = turn (goal.at.returns-then-both_keys_live c).In-Some in
    sym
    (both_found a.left.now a.right.now a.joined (length c.loop-left_slot.yielded) t.0
    (rw (← t.1, ← t.2) (sym c.both_keys_live.ensures ∙ c.if-both_keys_live.true)))

pub loop-left_slot-preserved : goal.loop-left_slot-preserved
loop-left_slot-preserved c =
    let a = c.args in
    let t = turn (goal.at.loop-left_slot-preserved c).In-Some in
    let j = length c.loop-left_slot.yielded in
    rw (length-append, add-one j)
    (both_next a.left.now a.right.now a.joined j c.loop-left_slot.invariant
    (rw (← t.1, ← t.2) (sym c.both_keys_live.ensures ∙ c.if-both_keys_live.false)))

pub returns : goal.returns
returns c =
    let a = c.args in
    let first : iter_rest (zip_first c.into_iter-left_slot-iterator.result) ≡ c.slots.result.now = search rules in
    let second : iter_rest (zip_second c.into_iter-left_slot-iterator.result) ≡ c.slots-2.result.now = search rules in
    let end = zip_end c.slots.result.now c.slots-2.result.now c.loop-left_slot.yielded c.into_iter-left_slot-iterator.result c.loop-left_slot.left_slot-iterator c.next.new.self _
    first second c.loop-left_slot.yielded_by c.in-None.is c.next.ensures.steps in
    let all : length c.loop-left_slot.yielded ≡ 64 = omega (arith, end, c.slots.ensures.count, c.slots-2.ensures.count) in
    sym (both_absent a.left.now a.right.now a.joined (length c.loop-left_slot.yielded) all c.loop-left_slot.invariant)
