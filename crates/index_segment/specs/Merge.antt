-- What the slots of a merge ask and store, by what a slot holds on both sides.
use Rattle.std.specs.Prelude.{ℕ, Bool, ◌&&◌, List}
use Rattle.stores.specs.Store.{Store}
use Rattle.index_rules.specs.Merge.{live_left, live_right, merge_record}
use Rattle.index_layout.specs.declared.key.Block.{Block}
use Rattle.index_layout.specs.Blocks.{shared}
use Rattle.index_segment.specs.declared.merge.Sides.{Sides}

-- The one key is live in the left half of the joined block, the other in the right half.
abbrev pub both_keys_live : Block → (leftKey key : ℕ) → Bool
both_keys_live joined leftKey key =
    live_left joined.local_depth (shared joined) leftKey && live_right joined.local_depth (shared joined) key

-- The stores for slot j of a left segment that is lent as a part.
abbrev pub sides_merged : Block → (j : ℕ) → Sides → List Store
sides_merged joined j s = merge_record 0 joined.local_depth (shared joined) j s.left_key s.right.key s.right.value
