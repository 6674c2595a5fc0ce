-- `desk_run::run_line` meets its contract.
use mathlib.Core.Path.{sym}
use Rattle.desk_run.proofs.Runs.{line_other, line_called}
use Rattle.desk_run.proofs.run_line.Goals as goal

pub returns-in_default : goal.returns-in_default
returns-in_default c = line_other _ _ _ _ _ (sym c.in_default.ensures) c.write_mark.ensures

pub returns : goal.returns
returns c =
    line_called _ _ _ _ _ _ _ _ _ _ (sym c.in-Some.ensures) c.perform-answer.ensures c.write_answer.ensures
