-- The lines of the jobs at the places below `place` are written.
use Prim.Native.Nat.{◌≤◌}
use Rattle.stores.specs.Lists.{each}
use Rattle.text.specs.Output.{Appended}
use Rattle.board.specs.Print.{lines_in}
use Rattle.board.proofs.Lookups.{place_turn}
use Rattle.board.proofs.write.write_year.Given as goal

abbrev pub invariant-loop-place : goal.invariant-loop-place
invariant-loop-place l = (l.place ≤ 49152) × Appended (lines_in (each (place_turn l.words l.year) l.place)) l.initial.output l.output
