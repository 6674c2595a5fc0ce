-- `index_segment::listing::count_live` meets its contract. The invariant: the count is that of the slots so far.
use Prim.Native.Nat.{◌/◌, ◌<◌}
use native.Mathlib.Omega.{arith}
use mathlib.Core.Path.{◌≡◌, refl, sym, ◌∙◌}
use lib.ListN.{length}
use Rattle.index_rules.specs.Layout.{key_at}
use Rattle.index_rules.specs.Keys.{live}
use Rattle.index_layout.specs.Blocks.{shared}
use Rattle.index_segment.proofs.Words.{slot_holds}
use Rattle.index_segment.proofs.Records.{records_none, count_live, count_stale, count_small}
use Rattle.index_segment.proofs.listing.count_live.Goals as goal
use Rattle.index_segment.proofs.listing.count_live.Goals.{then-is_live, else-is_live}

pub loop-key-init : goal.loop-key-init
loop-key-init c = rw records_none refl

pub overflow_add-count : goal.overflow_add-count
overflow_add-count c =
    let u = c.args in
    let here = c.loop-key in
    let k : here.key-index < length u.segment.now / 2 = omega (arith, c.slots-key-items.ensures.count) in
    omega (arith, here.invariant, count_small u.segment.now u.block.local_depth (shared u.block) here.key-index)

pub loop-key-preserved : goal.loop-key-preserved
loop-key-preserved c =
    let u = c.args in
    let a = u.segment.now in
    let L = u.block.local_depth in
    let bits = shared u.block in
    let slot = c.loop-key.key-index in
    let test = c.is_live in
    let k : slot < length a / 2 = omega (arith, c.slots-key-items.ensures.count) in
    let there = slot_holds a c.slots-key-items.result.now c.slots-key-items.ensures.pairs slot k in
    let seen : live L bits (key_at a 0 slot) ≡ test.result = rw there.key_there (sym test.ensures) in
    elim c.if-is_live.branch [
      | then-is_live w ↦ omega (arith, count_live a L bits slot (seen ∙ w.if-is_live.true))
      | else-is_live w ↦ omega (arith, count_stale a L bits slot (seen ∙ w.if-is_live.false))
    ]

pub returns : goal.returns
returns c =
    let u = c.args in
    let all : c.loop-key.key-index ≡ 64 = omega (arith, c.slots-key-items.ensures.count) in
    let exact = rw all at c.loop-key.invariant in
    record { exact = exact; small = omega (arith, exact, count_small u.segment.now u.block.local_depth (shared u.block) 64) }
