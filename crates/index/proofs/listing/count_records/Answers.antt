-- `index::listing::count_records` meets its contract. The invariant: the count is that of the records of the blocks passed.
use native.Mathlib.Omega.{arith}
use mathlib.Core.Path.{◌∙◌}
use Rattle.index_laws.proofs.BlockRecords.{records_start, records_end}
use Rattle.index_layout.proofs.Shapes.{bounds}
use Rattle.index.proofs.Listings.{step_turn, count_turn}
use Rattle.index.proofs.listing.count_records.Goals as goal

pub loop-place-init : goal.loop-place-init
loop-place-init c =
    let n = c.new-place-items.ensures in
    rw c.into_iter-place-iterator.ensures.into_iter_gives
    (n.array, n.header, omega arith, rw (n.first, records_start))

pub count_block-total-requires : goal.count_block-total-requires
count_block-total-requires c =
    let v = c.loop-place.invariant in
    let s = c.in-Some.ensures.steps in
    (step_turn c.requires v.0 _ _ s.0 s.1).inside_array

pub overflow_add-total : goal.overflow_add-total
overflow_add-total c =
    let b = bounds c.requires.0 in
    let v = c.loop-place.invariant in
    let inside = rw v.1 at c.loop-place.place-iterator.inside in
    omega (arith, c.count_block-total.ensures.1, v.2, inside, b.entries)

pub loop-place-preserved : goal.loop-place-preserved
loop-place-preserved c =
    let v = c.loop-place.invariant in
    let s = c.in-Some.ensures.steps in
    let t = step_turn c.requires v.0 _ _ s.0 s.1 in (
      rw s.2 v.0,
      s.3 ∙ v.1,
      rw s.4 (omega (arith, t.onwards, v.2, c.count_block-total.ensures.1)),
      rw s.4 (count_turn t _ _ v.3 c.count_block-total.ensures.0),
    )

pub returns : goal.returns
returns c =
    let d = c.requires.0 in
    let b = bounds d in
    let v = c.loop-place.invariant in
    let inside = rw v.1 at c.loop-place.place-iterator.inside in
    let e = records_end c.args.words.now c.loop-place.place-iterator.next (rw (d.depth_read, ← v.1) c.in-None.ensures.steps) in
    (rw e at v.3, omega (arith, v.2, inside, b.entries))
