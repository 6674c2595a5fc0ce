-- What the listing of one segment promises.
use Rattle.std.specs.Prelude.{ℕ, ◌≤◌, ◌≡◌, List, length}
use Rattle.stores.specs.Lists.{each}
use Rattle.index_rules.specs.Listing.{Record, live_record, words_of}
use Rattle.index_layout.specs.declared.key.Block.{Block}
use Rattle.index_layout.specs.Blocks.{shared}

-- The live records of a segment of local depth L with these block bits, slots rising.
abbrev pub live_records : List ℕ → (L bits : ℕ) → List Record
live_records segment L bits = each (live_record segment 0 L bits) 64

-- Those of the block's segment.
abbrev pub block_records : List ℕ → Block → List Record
block_records segment block = live_records segment block.local_depth (shared block)

-- What the listing writes for slot j of the block's segment.
abbrev pub slot_words : List ℕ → Block → (j : ℕ) → List ℕ
slot_words segment block j = words_of (live_record segment 0 block.local_depth (shared block) j)

-- The number of the live records, which is at most that of the slots.
pub record Counted (segment : List ℕ) (L bits count : ℕ) : Type 0 where
  pub exact : count ≡ length (live_records segment L bits)
  pub small : count ≤ 64
