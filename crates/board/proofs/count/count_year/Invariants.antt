-- The jobs at the places below `place` are counted.
use Prim.Native.Nat.{◌≤◌}
use Rattle.std.specs.Prelude.{Ok}
use Rattle.stores.specs.Lists.{each}
use Rattle.board.specs.Passes.{CountedBy}
use Rattle.board.proofs.Lookups.{place_turn}
use Rattle.board.proofs.count.count_year.Given as goal

abbrev pub invariant-loop-place : goal.invariant-loop-place
invariant-loop-place l = (l.place ≤ 49152) × CountedBy (Ok l.bytes) (each (place_turn l.words l.year) l.place)
