-- `index_segment::choice::choose` meets its contract. The invariant: no slot of the buckets so far has the key, and `empty` and
-- `usable` are the first empty and the first usable one of them.
use Prim.Native.Nat.{◌-◌, ◌≤◌}
use mathlib.Core.Path.{◌≡◌}
use mathlib.Core.Option.{none}
use Rattle.stores.specs.Lists.{first_in}
use Rattle.index_layout.specs.Blocks.{shared}
use Rattle.stores.specs.Options.{option_of}
use Rattle.index_segment.specs.Bucket.{has, usable}
use Rattle.index_segment.proofs.Search.{window_before}
use Rattle.index_segment.proofs.choice.choose.Given as goal

abbrev pub invariant-loop-b : goal.invariant-loop-b
invariant-loop-b l =
    (l.b ≤ 4)
    × (first_in (has l.key l.segment) (window_before l.key l.b) ≡ none)
    × (option_of l.empty ≡ first_in (has 0 l.segment) (window_before l.key l.b))
    × (option_of l.usable ≡ first_in (usable l.block.local_depth (shared l.block) l.segment) (window_before l.key l.b))

abbrev pub decreases-loop-b : goal.decreases-loop-b
decreases-loop-b l = 4 - l.b
