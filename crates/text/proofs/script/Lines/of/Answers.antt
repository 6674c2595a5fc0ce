-- `text::script::Lines::of` meets its contract.
use Rattle.std.proofs.Common.{ap}
use Rattle.text.specs.Parts.{nonempty, lines_of}
use Rattle.text.proofs.script.Lines.of.Goals as goal

pub returns : goal.returns
unfolding lines_of
returns c = ap nonempty c.of.ensures
