-- `index_layout::key::block_bits` meets its contract.
use mathlib.Core.Path.{◌≡◌}
use Prim.Native.Nat.{◌-◌, ◌/◌, ◌%◌, ◌^◌, ◌≤◌, ◌<◌}
use Rattle.index_rules.specs.Keys.{first_bits, block_bits}
use Rattle.index_layout.proofs.key.block_bits.Given as goal

abbrev pub invariant-loop : goal.invariant-loop
invariant-loop l =
    (l.bits ≡ block_bits l.depth l.local_depth l.i / 2 ^ l.counter)
    × (first_bits l.reversed l.counter ≡ block_bits l.depth l.local_depth l.i % 2 ^ l.counter)
    × (l.reversed < 2 ^ l.counter)
    × (l.counter ≤ l.local_depth)

abbrev pub decreases-loop : goal.decreases-loop
decreases-loop l = l.local_depth - l.counter
