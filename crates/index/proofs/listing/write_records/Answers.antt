-- `index::listing::write_records` meets its contract. The invariant: the records of the blocks passed are written.
use native.Mathlib.Omega.{arith}
use mathlib.Core.Path.{refl, ◌∙◌}
use Rattle.index_laws.proofs.BlockRecords.{records_to, records_start, records_end}
use Rattle.stores.proofs.Written.{written_none}
use Rattle.index_laws.proofs.Listing.{words_none, length_words}
use Rattle.index.proofs.Listings.{step_turn, write_turn}
use Rattle.index.proofs.listing.write_records.Goals as goal

pub loop-place-init : goal.loop-place-init
loop-place-init c =
    let n = c.new-place-items.ensures in
    rw c.into_iter-place-iterator.ensures.into_iter_gives
    (n.array, n.header, refl, rw (n.first, records_start, words_none) (written_none 0 _))

pub write_block-at-requires : goal.write_block-at-requires
write_block-at-requires c =
    let v = c.loop-place.invariant in
    let s = c.in-Some.ensures.steps in
    let t = step_turn c.requires.0 v.0 _ _ s.0 s.1 in
    (t.inside_array, omega (arith, t.room, v.2, v.3.behind, c.requires.1, length_words (records_to c.args.words.now c.loop-place.place-iterator.next)))

pub loop-place-preserved : goal.loop-place-preserved
loop-place-preserved c =
    let v = c.loop-place.invariant in
    let s = c.in-Some.ensures.steps in
    let t = step_turn c.requires.0 v.0 _ _ s.0 s.1 in (
      rw s.2 v.0,
      s.3 ∙ v.1,
      c.write_block-at.auto.list ∙ v.2,
      rw s.4 (write_turn t _ _ _ _ _ v.3 c.write_block-at.ensures),
    )

pub returns : goal.returns
returns c =
    let v = c.loop-place.invariant in
    let e = records_end c.args.words.now c.loop-place.place-iterator.next (rw (c.requires.0.0.depth_read, ← v.1) c.in-None.ensures.steps) in
    rw e at v.3
