-- `desk_run::run` meets its contract.
use Rattle.std.proofs.Common.{length, ap, arith}
use Rattle.text.proofs.Lines.{lines_few}
use Rattle.desk_run.proofs.Runs.{output_too_long, output_lines}
use Rattle.desk_run.proofs.run.Goals as goal

pub returns-then-script-gt-MOST_BYTES : goal.returns-then-script-gt-MOST_BYTES
returns-then-script-gt-MOST_BYTES c =
    output_too_long _ _ _ _ c.if-script-gt-MOST_BYTES.true (rw (c.new-output.ensures.written, c.new-output.ensures.bytes) at c.write_mark.ensures.text)

pub run_lines-requires : goal.run_lines-requires
run_lines-requires c =
    omega (arith, lines_few c.args.script.now, c.if-script-gt-MOST_BYTES.false, c.new-output.ensures.written, ap length c.new-output.ensures.bytes)

pub returns : goal.returns
returns c = output_lines _ _ _ _ c.if-script-gt-MOST_BYTES.false (rw (c.new-output.ensures.written, c.new-output.ensures.bytes) at c.run_lines.ensures.text)
