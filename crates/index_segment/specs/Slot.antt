-- A segment as a part of the array, and a slot of it.
use Rattle.std.specs.Prelude.{ℕ, ◌≡◌, List, take, drop}
use Rattle.stores.specs.Store.{Store}
use Rattle.stores.specs.declared.Budget.{Budget}
use Rattle.stores.specs.Executed.{Executed}
use Rattle.index_rules.specs.Layout.{key_at, value_at}
use Rattle.index_rules.specs.Split.{copy_slot}
use Rattle.index_layout.specs.declared.key.Block.{Block}
use Rattle.index_layout.specs.Blocks.{shared}
use Rattle.cells.specs.declared.Record.{Record}

-- The words of the segment at `base` of the array.
abbrev pub segment_in : List ℕ → (base : ℕ) → List ℕ
segment_in a base = take 128 (drop base a)

-- Slot j of a segment holds this.
pub record SlotHolds (segment : List ℕ) (j : ℕ) (h : Record) : Type 0 where
  pub key_there : key_at segment 0 j ≡ h.key
  pub value_there : value_at segment 0 j ≡ h.value

-- The stores of the copy step for slot j of the block's segment, in the new one.
abbrev pub slot_copy : List ℕ → Block → (j : ℕ) → List Store
slot_copy segment block j = copy_slot segment 0 0 block.local_depth (shared block) j

-- These stores have come due in the new segment, for a slot that holds this in the old one.
abbrev pub SlotCopied : Record → Block → (j : ℕ) (b : Budget) (before : List ℕ) (b' : Budget) (after : List ℕ) → Type 0
SlotCopied held block j b before b' after =
    (segment : List ℕ) → SlotHolds segment j held → Executed (slot_copy segment block j) b before b' after
