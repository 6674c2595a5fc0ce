-- `index_directory::scan::scan` meets its contract.
use Prim.Native.Nat.{◌-◌, ◌≤◌}
use Rattle.index_rules.specs.Layout.{depth, segments}
use Rattle.index_directory.proofs.Blocks.{Scanned}
use Rattle.index_directory.proofs.scan.scan.Given as goal

abbrev pub invariant-loop-i : goal.invariant-loop-i
invariant-loop-i l = (l.i ≤ l.count) × Scanned l.words (depth l.words) (segments l.words) l.i l.step

abbrev pub decreases-loop-i : goal.decreases-loop-i
decreases-loop-i l = l.count - l.i
