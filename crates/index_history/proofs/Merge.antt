-- A merge on a key but 0 keeps the map under every allowance; done, it frees the right half's segment.
use mathlib.Core.Path.{◌≡◌, refl, sym, ap, ◌∙◌}
use mathlib.Core.Bool.{false}
use mathlib.Core.List.{List, []}
use mathlib.Core.Option.{none}
use Prim.Native.Nat.{ℕ, ◌^◌, ◌<◌}
use borrow.Author.Tests.{eqb-true}
use lib.Dec.{eqb}
use Rattle.stores.specs.Store.{apply}
use Rattle.stores.specs.Lists.{any_below}
use Rattle.stores.proofs.Tests.{by_test}
use Rattle.stores.proofs.Lists.{any_at}
use Rattle.index_laws.proofs.Put.{free_found}
use Rattle.index_history.specs.Further.{FreeIn}
use Rattle.replies.specs.declared.Refusal.TheVariants.{NoBuddy, BothLive}
use Rattle.replies.specs.Replies.{done, tested}
use Rattle.index_rules.specs.Layout.{depth, segments, entry_at, segment_of, segment_address}
use Rattle.index_rules.specs.Keys.{index, block_bits}
use Rattle.index_rules.specs.Slots.{named}
use Rattle.index_rules.specs.Get.{key_entry}
use Rattle.index_rules.specs.Merge.{joined_depth, left_entry, right_entry, has_buddy, both_live, both_live_at, halves_tests, merge_tests, merging_of, right_of, key_merging, merge}
use Rattle.index_laws.proofs.Keys.{index_lt}
use Rattle.index_laws.proofs.Blocks.{Blocks, consistent_blocks}
use Rattle.index_laws.proofs.Joining.{TwoHalves, halves_same}
use Rattle.index_laws.proofs.Merge.{no_buddy, both_live_holds, both_pass, MergePassed, merge_passed, passed_halves, passed_left, passed_right}
use Rattle.runs.specs.Map.{Map, keeps, fed}
use Rattle.index_history.proofs.Invariant.{Shape, Inv, Recovered, shape_depth, shape_max_depth, shape_segments}
use Rattle.index_history.proofs.Recover.{inv_leaders_valid, recovered_agree, inv_key_tests, inv_directory_tests}
use Rattle.index_history.proofs.Kept.{Whole}
use Rattle.index_history.proofs.Plans.{PlanKept, refusal_kept}
use Rattle.index_history.proofs.Merging.{merging_kept, merged_shape, right_freed}

module _ {m : Map} {g d S : ℕ} {f : ℕ → ℕ} {a : List ℕ} (inv : Inv m g d S f a) (same : Recovered g f a) (key : ℕ) where
  abbrev i : ℕ
  i = index key g

  abbrev e : ℕ
  e = key_entry a key

  -- The directory as it stands is consistent.
  before : Blocks (depth a) (segments a) (entry_at a (depth a))
  before =
      rw (shape_depth inv.shape, shape_segments inv.shape) (consistent_blocks a g S (inv_leaders_valid inv) (recovered_agree inv same))

  -- The two halves, by the directory f.
  module _ (p : MergePassed a key) where
    two : TwoHalves g (joined_depth e) f i (segment_of (left_entry a i e)) (segment_of (right_entry a i e))
    two = halves_same (rw (shape_depth inv.shape) at (passed_halves p before)) f (λ j h. sym (same j h))

    left_low : segment_of (left_entry a i e) < S
    left_low = rw (shape_depth inv.shape, shape_segments inv.shape) at (passed_left p)

    right_low : segment_of (right_entry a i e) < S
    right_low = rw (shape_depth inv.shape, shape_segments inv.shape) at (passed_right p)

    one_side : both_live a (segment_address d (segment_of (left_entry a i e))) a (segment_address d (segment_of (right_entry a i e))) (joined_depth e)
        (block_bits g (joined_depth e) i) ≡ false
    one_side = rw (shape_depth inv.shape, shape_max_depth inv.shape) at p.apart

    stores_kept : PlanKept keeps m d S (record { due = key_merging a key; reply = done [] }) a
    unfolding merging_of
    stores_kept =
        rw (shape_depth inv.shape, shape_max_depth inv.shape)
        (merging_kept inv same (index_lt key g) two left_low right_low one_side)

    -- The array that all its stores leave, and what no entry of it names.
    abbrev merged : List ℕ
    merged = apply (key_merging a key) a

    shape_after : Shape g d S merged
    unfolding merging_of
    shape_after =
        rw (shape_depth inv.shape, shape_max_depth inv.shape)
        (merged_shape inv same (index_lt key g) two left_low right_low one_side)

    not_right : (j : ℕ) → j < 2 ^ g → segment_of (entry_at merged g j) ≡ segment_of (right_entry a i e) → ⊥
    unfolding merging_of
    not_right =
        rw (shape_depth inv.shape, shape_max_depth inv.shape)
        (right_freed inv same (index_lt key g) two left_low right_low one_side)

    unnamed_after : named merged (segment_of (right_entry a i e)) ≡ false
    unfolding named
    unnamed_after =
        rw (shape_depth shape_after)
        (by_test (any_below (λ j. eqb (segment_of (entry_at merged g j)) (segment_of (right_entry a i e))) (2 ^ g))
        (λ t.
        let r = any_at _ (2 ^ g) t in
        absurd (not_right r.0 r.1 (eqb-true (segment_of (entry_at merged g r.0)) (segment_of (right_entry a i e)) r.2)))
        (λ t. t))

    free_after : FreeIn (segment_of (right_entry a i e)) merged
    free_after =
        let low : segment_of (right_entry a i e) < segments merged = rw (shape_segments shape_after) right_low in
        let r = free_found merged (segment_of (right_entry a i e)) low unnamed_after in
        record { below = low; unnamed = unnamed_after; taken = r.0; found = r.1; not_behind = r.2 }

    pub right_free : FreeIn (right_of a key) merged
    right_free =
        let there : segment_of (right_entry a i e) ≡ right_of a key =
        ap (λ (x : ℕ). segment_of (right_entry a (index key x) (key_entry a key))) (sym (shape_depth inv.shape)) in
        rw there at free_after

  whole : Whole m d S a
  whole = record { g = g; f = f; inv = inv; recovered = same }

  -- The tests of merge behind those of put, which pass.
  tests_are : (key ≡ 0 → ⊥) → merge_tests a key ≡ halves_tests a (index key (depth a)) (key_entry a key)
  unfolding merge_tests
  tests_are nonzero = inv_key_tests inv key _ nonzero ∙ inv_directory_tests inv _ same

  pub merge_plan : (key ≡ 0 → ⊥) → PlanKept keeps m d S (merge a key) a
  unfolding merge tested fed
  merge_plan nonzero =
      by_test (has_buddy a (index key (depth a)) e)
      (λ t.
      by_test (both_live_at a (index key (depth a)) e)
      (λ u.
      rw (tests_are nonzero ∙ both_live_holds a (index key (depth a)) (key_entry a key) t u) (refusal_kept keeps BothLive refl refl refl whole))
      (λ u.
      let passed : merge_tests a key ≡ none = tests_are nonzero ∙ both_pass a (index key (depth a)) (key_entry a key) t u in
      rw passed (stores_kept (merge_passed a key passed))))
      (λ t. rw (tests_are nonzero ∙ no_buddy a (index key (depth a)) (key_entry a key) t) (refusal_kept keeps NoBuddy refl refl refl whole))
