-- `index_segment::choice::choose` meets its contract. The invariant: no slot of the buckets so far has the key, and `empty` and
-- `usable` are the first empty and the first usable one of them.
use borrow.Author.Rules.{rules}
use native.Mathlib.Omega.{arith}
use mathlib.Core.Path.{◌≡◌, sym, ap, ◌∙◌}
use mathlib.Core.Option.{none}
use Rattle.index_rules.specs.Slots.{chosen}
use Rattle.stores.specs.Options.{option_of}
use Rattle.index_segment.proofs.Search.{no_bucket_yet, bucket_passed, bucket_hit, bucket_joined, option_or_joined, option_else_joined, choose_found, choose_else}
use Rattle.index_segment.proofs.choice.choose.Goals as goal

pub loop-b-init : goal.loop-b-init
loop-b-init c = (search rules, no_bucket_yet _ _, sym (no_bucket_yet _ _), sym (no_bucket_yet _ _))

pub returns-in-Some : goal.returns-in-Some
returns-in-Some c =
    let u = c.args in
    let here = c.loop-b in
    let number = c.window_bucket-number in
    let first = c.slot_with_key.ensures u.segment.now c.bucket_at-bucket.ensures in
    sym
    (choose_found u.segment.now u.block.local_depth _ u.key c.in-Some.slot
    (bucket_hit _ u.key here.b number.result number.ensures.number here.invariant.1 _ (search rules) (sym first ∙ ap option_of c.in-Some.is)))

pub loop-b-preserved : goal.loop-b-preserved
loop-b-preserved c =
    let u = c.args in
    let here = c.loop-b in
    let number = c.window_bucket-number in
    let bucket = c.bucket_at-bucket.ensures in
    let first = c.slot_with_key.ensures u.segment.now bucket in
    let missing = sym first ∙ ap option_of c.in_default.is in
    let next-empty = c.slot_with_key-in-loop-b.ensures u.segment.now bucket in (
      search rules,
      bucket_passed _ u.key here.b number.result number.ensures.number here.invariant.1 missing,
      rw (c.or-empty.ensures, option_or_joined, next-empty) (bucket_joined _ u.key here.b number.result _ number.ensures.number here.invariant.2),
      option_else_joined _ here.usable _ _ c.or_else-usable.ensures (λ post. search rules)
          ∙ bucket_joined _ u.key here.b number.result _ number.ensures.number here.invariant.3,
    )

pub returns-in-Some-or : goal.returns-in-Some-or
unfolding chosen
returns-in-Some-or c =
    let u = c.args in
    let here = c.loop-b in
    let all : here.b ≡ 4 = omega arith in
    let e = choose_else u.segment.now u.block.local_depth _ u.key _ _ (rw all at here.invariant.1) (rw all at here.invariant.2) (rw all at here.invariant.3) in
    sym (e ∙ ap (chosen none) (sym (option_or_joined here.empty here.usable) ∙ ap option_of (sym c.or.ensures ∙ c.in-Some-or.is)))

pub returns-in-None : goal.returns-in-None
unfolding chosen
returns-in-None c =
    let u = c.args in
    let here = c.loop-b in
    let all : here.b ≡ 4 = omega arith in
    let e = choose_else u.segment.now u.block.local_depth _ u.key _ _ (rw all at here.invariant.1) (rw all at here.invariant.2) (rw all at here.invariant.3) in
    sym (e ∙ ap (chosen none) (sym (option_or_joined here.empty here.usable) ∙ ap option_of (sym c.or.ensures ∙ c.in-None.is)))
