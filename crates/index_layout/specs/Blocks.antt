-- The keys of a block.
use Rattle.std.specs.Prelude.{ℕ}
use Rattle.index_rules.specs.Keys.{first_bits}
use Rattle.index_layout.specs.declared.key.Block.{Block}

-- The first directory bits that the keys of a block share, as many as its local depth, as the index of the block.
abbrev pub shared : Block → ℕ
shared b = first_bits b.bits b.local_depth
