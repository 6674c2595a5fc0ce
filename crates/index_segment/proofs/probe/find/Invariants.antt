-- `index_segment::probe::find` meets its contract. The invariants: no slot of the buckets so far has the key, and none of the
-- slots so far of the present bucket.
use Prim.Native.Nat.{◌-◌, ◌≤◌}
use mathlib.Core.Path.{◌≡◌}
use mathlib.Core.Option.{none}
use Rattle.stores.specs.Lists.{first_in}
use Rattle.std.specs.Prelude.{None}
use Rattle.index_segment.specs.Bucket.{has}
use Rattle.index_segment.proofs.Search.{slots_before, window_before}
use Rattle.index_segment.proofs.probe.find.Given as goal

abbrev pub invariant-loop-j : goal.invariant-loop-j
invariant-loop-j l =
    (l.j ≤ 4) × (l.found ≡ None) × (first_in (has l.key l.segment) (slots_before l.number l.j) ≡ none)

abbrev pub decreases-loop-j : goal.decreases-loop-j
decreases-loop-j l = 4 - l.j

abbrev pub invariant-search : goal.invariant-search
invariant-search l =
    (l.b ≤ 4) × (l.found ≡ None) × (first_in (has l.key l.segment) (window_before l.key l.b) ≡ none)

abbrev pub decreases-search : goal.decreases-search
decreases-search l = 4 - l.b
