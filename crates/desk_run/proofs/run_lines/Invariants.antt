-- Some lines have been run, and those that the iterator has left have not.
use Rattle.std.proofs.Common.{◌≡◌, length}
use Rattle.text.specs.Parts.{lines_of}
use Rattle.text.specs.Left.{lines_left}
use Rattle.desk_run.proofs.Runs.{LinesRan}
use Rattle.desk_run.proofs.run_lines.Given as goal

abbrev pub invariant-loop-line : goal.invariant-loop-line
invariant-loop-line l =
    (goal.iterator-loop-line).can_next l.line-iterator
    × (goal.iterator-loop-line).is_finite l.line-iterator
    × (length l.list ≡ length l.initial.list)
    × LinesRan (length l.initial.list) l.initial.words (lines_of l.script) l.initial.output (lines_left l.line-iterator) l.words l.output
