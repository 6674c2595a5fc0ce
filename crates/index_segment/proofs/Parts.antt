-- A segment lent as a part of the array, against the same segment in the whole.
use mathlib.Core.Path.{◌≡◌, ap, ◌∙◌}
use mathlib.Core.List.{List}
use Prim.Native.Nat.{ℕ, ◌+◌, ◌-◌, ◌*◌, ◌≤◌, ◌<◌}
use native.Mathlib.Nat.{zero-add}
use native.Mathlib.Omega.{arith}
use lib.ListN.{length, drop, length-drop}
use lib.Seq.{length-take-le, get_or-take, get_or-drop}
use Rattle.stores.specs.Store.{word}
use Rattle.stores.specs.Lists.{each}
use Rattle.stores.proofs.Lists.{each_same}
use Rattle.index_rules.specs.Layout.{key_at, value_at}
use Rattle.index_segment.specs.Slot.{segment_in}
use Rattle.index_rules.specs.Slots.{hit, choose}
use Rattle.index_rules.specs.Listing.{live_record}
use Rattle.index_laws.proofs.Slots.{hit_same, choose_same}

-- A part of 128 words by its start and its end.
pub span : (base : ℕ) → base + 128 - base ≡ 128
span base = omega arith

module _ (a : List ℕ) (base : ℕ) (fits : base + 128 ≤ length a) where
  pub part_length : length (segment_in a base) ≡ 128
  part_length = length-take-le 128 (drop base a) (rw length-drop (omega arith))

  -- ---- Words

  pub part_word : (i : ℕ) → i < 128 → word (segment_in a base) i ≡ word a (base + i)
  part_word i k = get_or-take 128 (drop base a) i 0 k ∙ get_or-drop base a i 0

  pub part_key : (j : ℕ) → j < 64 → key_at (segment_in a base) 0 j ≡ key_at a base j
  part_key j k = part_word (0 + 2 * j) (omega arith) ∙ ap (λ (i : ℕ). word a (base + i)) (zero-add (2 * j))

  pub part_value : (j : ℕ) → j < 64 → value_at (segment_in a base) 0 j ≡ value_at a base j
  part_value j k = part_word (0 + (2 * j + 1)) (omega arith) ∙ ap (λ (i : ℕ). word a (base + i)) (zero-add (2 * j + 1))

  -- ---- The search and the choice of a slot

  pub part_hit : (key : ℕ) → hit (segment_in a base) 0 key ≡ hit a base key
  part_hit key = hit_same (segment_in a base) a 0 base part_key key

  pub part_choose : (L bits key : ℕ) → choose (segment_in a base) 0 L bits key ≡ choose a base L bits key
  part_choose L bits key = choose_same (segment_in a base) a 0 base part_key key L bits

  -- ---- Live records

  pub part_records : (L bits : ℕ) → each (live_record (segment_in a base) 0 L bits) 64 ≡ each (live_record a base L bits) 64
  unfolding live_record
  part_records L bits = each_same _ _ 64 (λ j k. rw (part_key j k, part_value j k))
