-- What a step through the blocks of a directory gives.
use Rattle.std.specs.Prelude.{Option, Some, None, ◌^◌, ◌≡◌, true}
use Rattle.index_rules.specs.ListBlock.{leads}
use Rattle.index.specs.declared.listing.BlockPlace.{BlockPlace}
use Rattle.index.specs.declared.blocks.Blocks.{Blocks}
use Rattle.index.specs.Blocks.{BlockRead}

-- A step from s has given the block that begins there, and left t at the index behind that block; or none, at the directory's end.
abbrev pub NextBlock : Blocks → Option BlockPlace → Blocks → Type 0
NextBlock s (Some b) t =
    (leads s.words.now s.next ≡ true) × BlockRead s.words.now s.next b × (t.words ≡ s.words) × (t.header ≡ s.header) × (t.next ≡ b.next)
NextBlock s None t = s.next ≡ 2 ^ s.header.depth
