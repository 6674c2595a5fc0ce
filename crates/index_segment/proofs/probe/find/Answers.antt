-- `index_segment::probe::find` meets its contract. The invariants: no slot of the buckets so far has the key, and none of the
-- slots so far of the present bucket.
use Prim.Native.Nat.{◌<◌}
use borrow.Author.Rules.{rules}
use native.Mathlib.Omega.{arith}
use mathlib.Core.Path.{◌≡◌, refl, sym}
use Rattle.index_rules.specs.Slots.{hit}
use Rattle.index_laws.proofs.Keys.{window_each}
use Rattle.index_segment.proofs.Search.{no_slot_yet, no_bucket_yet, slot_passed, slot_hit, no_slot, bucket_passed, bucket_hit, slot_has, slot_has_not}
use Rattle.index_segment.proofs.probe.find.Goals as goal

pub search-init : goal.search-init
search-init c = (search rules, refl, no_bucket_yet _ _)

pub loop-j-init : goal.loop-j-init
loop-j-init c = (search rules, c.search.invariant.1, no_slot_yet _ _)

pub loop-j-preserved : goal.loop-j-preserved
loop-j-preserved c =
    let a = c.args in
    let j = c.loop-j.j in
    let k : j < 4 = search rules in
    let number = c.window_bucket-number.result in
    let bucket = c.bucket_at-bucket in
    let missing = slot_has_not a.segment.now bucket.result.words number j a.key bucket.ensures k c.if-bucket-j.false in
    (search rules, c.loop-j.invariant.1, slot_passed _ number j c.loop-j.invariant.2 missing)

pub search-preserved : goal.search-preserved
search-preserved c =
    let j = c.loop-j.j in
    let all : j ≡ 4 = omega arith in
    let called = c.window_bucket-number in
    let outer = c.search in
    let missing = no_slot _ called.result (rw all at c.loop-j.invariant.2) in (
      search rules,
      c.loop-j.invariant.1,
      bucket_passed _ c.args.key outer.b called.result called.ensures.number outer.invariant.2 missing,
    )

pub returns-after-search : goal.returns-after-search
unfolding hit
returns-after-search c =
    let b = c.search.b in
    let all : b ≡ 4 = omega arith in
    rw (c.search.invariant.1, window_each c.args.key) (sym (rw all at c.search.invariant.2))

pub returns-then-bucket-j : goal.returns-then-bucket-j
unfolding hit
returns-then-bucket-j c =
    let a = c.args in
    let j = c.loop-j.j in
    let k : j < 4 = search rules in
    let called = c.window_bucket-number in
    let bucket = c.bucket_at-bucket in
    let here = slot_has a.segment.now bucket.result.words called.result j a.key bucket.ensures k c.if-bucket-j.true in
    let first = slot_hit _ called.result j k c.loop-j.invariant.2 here in
    let outer = c.search in
    sym (bucket_hit _ a.key outer.b called.result called.ensures.number outer.invariant.2 _ (search rules) first)
