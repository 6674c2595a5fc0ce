-- The stores of the copy step for one slot.
use Prim.Native.Nat.{ℕ, ◌≤◌}
use native.Mathlib.Omega.{arith}
use mathlib.Core.Path.{◌≡◌}
use mathlib.Core.Bool.{true, false}
use mathlib.Core.List.{List}
use lib.ListN.{length}
use Rattle.stores.proofs.Tests.{by_test}
use Rattle.index_rules.specs.Split.{moves, copy_slot}
use Rattle.index_segment.specs.Slot.{SlotHolds}
use Rattle.cells.specs.declared.Record.{Record}
use Rattle.cells.specs.Cells.{record_stored, key_cleared}

module _ (a : List ℕ) (L bits j : ℕ) (h : Record) where
  pub copy_moved : SlotHolds a j h → moves a 0 L bits j ≡ true
      → copy_slot a 0 0 L bits j ≡ record_stored 0 j h.key h.value
  unfolding copy_slot
  copy_moved k t = rw (t, k.key_there, k.value_there)

  pub copy_cleared : moves a 0 L bits j ≡ false → copy_slot a 0 0 L bits j ≡ key_cleared 0 j
  unfolding copy_slot
  copy_cleared t = rw t

pub copy_short : (a : List ℕ) (L bits j : ℕ) → length (copy_slot a 0 0 L bits j) ≤ 2
unfolding copy_slot
copy_short a L bits j = by_test (moves a 0 L bits j) (λ t. rw t (omega arith)) (λ t. rw t (omega arith))
