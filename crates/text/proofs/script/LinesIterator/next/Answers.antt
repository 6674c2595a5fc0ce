-- `text::script::Lines::next` meets its contract.
use Rattle.std.proofs.Common.{rules, tests}
use Rattle.text.proofs.Lines.{first_with_byte}
use Rattle.text.proofs.Progress.{progress_first}
use Rattle.text.proofs.script.LinesIterator.next.Goals as goal

pub returns-clause-steps : goal.returns-clause-steps
returns-clause-steps c = first_with_byte _ _ (λ x b q k. search (rules, tests)) _ _ _ c.find.ensures.ran

pub returns-clause-goes : goal.returns-clause-goes
returns-clause-goes c = progress_first (λ x. x.now) _ _ _ _ (returns-clause-steps c)
