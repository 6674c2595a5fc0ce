-- The stores of a merge for one slot, by what it holds on both sides; and the search for a slot that is live on both.
use Prim.Native.Nat.{ℕ, suc, ◌<◌}
use mathlib.Core.Path.{◌≡◌, refl}
use mathlib.Core.Bool.{Bool, true, false}
use mathlib.Core.List.{List, []}
use lib.ListN.{get_or}
use borrow.Author.Tests.{eq-eqb, ne_eqb}
use Rattle.stores.specs.Lists.{any_below}
use Rattle.stores.proofs.Lists.{any_true}
use Rattle.index_rules.specs.Layout.{key_at}
use Rattle.index_rules.specs.Merge.{live_left, live_right, both_live, merge_record, merge_slot}
use Rattle.index_layout.specs.declared.key.Block.{Block}
use Rattle.index_layout.specs.Blocks.{shared}
use Rattle.cells.specs.Cells.{record_stored, key_cleared}
use Rattle.index_segment.specs.Merge.{both_keys_live}
use Rattle.index_segment.proofs.Words.{pair, pair_key, pair_value}

module _ (M bits j own key value : ℕ) where
  -- The right segment's record is live.
  pub merged_moved : live_right M bits key ≡ true → merge_record 0 M bits j own key value ≡ record_stored 0 j key value
  unfolding merge_record
  merged_moved t = rw t

  module _ (t : live_right M bits key ≡ false) where
    -- The slot is empty in the left segment.
    pub merged_empty : own ≡ 0 → merge_record 0 M bits j own key value ≡ []
    unfolding merge_record
    merged_empty e = rw (t, eq-eqb own 0 e)

    -- Its record there is live.
    pub merged_own : (own ≡ 0 → ⊥) → live_left M bits own ≡ true → merge_record 0 M bits j own key value ≡ []
    unfolding merge_record
    merged_own n l = rw (t, ne_eqb own 0 n, l)

    -- Its record there is stale.
    pub merged_cleared : (own ≡ 0 → ⊥) → live_left M bits own ≡ false → merge_record 0 M bits j own key value ≡ key_cleared 0 j
    unfolding merge_record
    merged_cleared n l = rw (t, ne_eqb own 0 n, l)

-- The stores for slot j of two segments that are read as values, by their pairs.
pub slot_merged : (left right : List ℕ) (M bits j : ℕ)
    → merge_record 0 M bits j (get_or (pair left j) 0 0) (get_or (pair right j) 0 0) (get_or (pair right j) 1 0) ≡ merge_slot left 0 right 0 M bits j
unfolding merge_slot
slot_merged left right M bits j = rw (pair_key left j, pair_key right j, pair_value right j)

-- ---- The slots below n

-- Slot j is live on both sides, of two segments lent as parts.
abbrev pub both_at : (left right : List ℕ) (joined : Block) → (j : ℕ) → Bool
both_at left right joined j = both_keys_live joined (key_at left 0 j) (key_at right 0 j)

module _ (left right : List ℕ) (joined : Block) where
  pub both_none : any_below (both_at left right joined) 0 ≡ false
  unfolding any_below
  both_none = refl

  -- One more slot that is not live on both.
  pub both_next : (j : ℕ) → any_below (both_at left right joined) j ≡ false → both_keys_live joined (get_or (pair left j) 0 0) (get_or (pair right j) 0 0) ≡ false
      → any_below (both_at left right joined) (suc j) ≡ false
  unfolding any_below
  both_next j e t = rw (e, ← pair_key left j, ← pair_key right j, t)

  -- One that is, and none in all.
  pub both_found : (j : ℕ) → j < 64 → both_keys_live joined (get_or (pair left j) 0 0) (get_or (pair right j) 0 0) ≡ true
      → both_live left 0 right 0 joined.local_depth (shared joined) ≡ true
  unfolding both_live
  both_found j h t = any_true (both_at left right joined) 64 j h (rw (← pair_key left j, ← pair_key right j) t)

  pub both_absent : (j : ℕ) → j ≡ 64 → any_below (both_at left right joined) j ≡ false
      → both_live left 0 right 0 joined.local_depth (shared joined) ≡ false
  unfolding both_live
  both_absent j q e = rw q at e
