-- `index_segment::listing::write_live` meets its contract. The invariant: the records of the slots so far are written.
use Prim.Native.Nat.{◌+◌, ◌/◌, ◌<◌}
use borrow.Author.Rules.{rules}
use native.Mathlib.Omega.{arith}
use mathlib.Core.Path.{◌≡◌, refl, ◌∙◌}
use lib.ListN.{length}
use Rattle.index_layout.specs.Blocks.{shared}
use Rattle.index_rules.specs.Listing.{words_of, live_record}
use Rattle.stores.proofs.Written.{written_none, written_append}
use Rattle.index_segment.proofs.Words.{slot_holds}
use Rattle.index_laws.proofs.Listing.{words_none, words_append, length_words}
use Rattle.index_segment.proofs.Records.{records_below, records_none, records_more, count_room}
use Rattle.index_segment.proofs.listing.write_live.Goals as goal

pub loop-key-init : goal.loop-key-init
loop-key-init c = (refl, rw (records_none, words_none) (written_none _ _))

pub write_slot-next-requires : goal.write_slot-next-requires
write_slot-next-requires c =
    let u = c.args in
    let a = u.segment.now in
    let L = u.block.local_depth in
    let bits = shared u.block in
    let here = c.loop-key in
    let slot = here.key-index in
    let k : slot < length a / 2 = omega (arith, c.slots-key-items.ensures.count) in
    let there = slot_holds a c.slots-key-items.result.now c.slots-key-items.ensures.pairs slot k in
    let so_far : here.next ≡ u.at + length (words_of (records_below a L bits slot)) = here.invariant.1.behind in
    λ t.
    omega (arith, count_room a L bits slot 64 (omega arith) (rw there.key_there t), length_words (records_below a L bits slot))

pub loop-key-preserved : goal.loop-key-preserved
loop-key-preserved c =
    let u = c.args in
    let a = u.segment.now in
    let L = u.block.local_depth in
    let bits = shared u.block in
    let here = c.loop-key in
    let slot = here.key-index in
    let call = c.write_slot-next in
    let k : slot < length a / 2 = omega (arith, c.slots-key-items.ensures.count) in
    let holds = slot_holds a c.slots-key-items.result.now c.slots-key-items.ensures.pairs slot k in (
      call.auto.list ∙ here.invariant.0,
      rw (records_more a L bits slot, words_append (records_below a L bits slot) (live_record a 0 L bits slot))
          (written_append (words_of (records_below a L bits slot)) (words_of (live_record a 0 L bits slot)) u.at u.list.now here.next
          here.list call.result call.new.list (search rules) here.invariant.1
          (call.ensures a slot holds)),
    )
