-- `desk_run::run_lines` meets its contract. The invariant: some lines have been run, and those that the iterator has left have not.
use Rattle.std.proofs.Common.{rules}
use Rattle.desk_run.proofs.Runs.{lines_more, lines_ended}
use Rattle.desk_run.proofs.run_lines.Goals as goal

pub loop-line-preserved : goal.loop-line-preserved
loop-line-preserved c =
    let so_far = rw c.in-Some.ensures.steps at c.loop-line.invariant.3 in
    (tt, tt, search rules, lines_more _ _ _ _ _ _ _ _ so_far _ _ _ c.loop-line.invariant.2 c.run_line.ensures)

pub returns : goal.returns
returns c = lines_ended _ _ _ _ _ _ (rw c.in-None.ensures.steps.0 at c.loop-line.invariant.3)
