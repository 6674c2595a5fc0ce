-- `text::output::Output::four_digits` meets its contract.
use Rattle.std.proofs.Common.{◌/◌, ◌%◌}
use Rattle.text.specs.Number.{two_digits}
use Rattle.text.proofs.Appended.{appended_append}
use Rattle.text.proofs.output.Output.four_digits.Goals as goal

pub returns : goal.returns
returns c =
    appended_append (two_digits (c.args.n / 100)) (two_digits (c.args.n % 100)) _ _ c.requires.room c.two_digits.ensures _ c.two_digits-2.ensures
