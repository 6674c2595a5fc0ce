-- `text::parts::Parts::next` meets its contract.
use Rattle.std.proofs.Common.{eqb, rules, tests}
use Rattle.std.proofs.lemmas.Iterator.{YieldsList-from_slice}
use Rattle.std.proofs.lemmas.Iterator.Search.{position_from_yields_List}
use Rattle.text.proofs.FirstPart.{Found, part_alone, part_first}
use Rattle.text.proofs.Progress.{progress_first}
use Rattle.text.proofs.parts.PartsIterator.next.Goals as goal

pub returns-in_default-clause-steps : goal.returns-in_default-clause-steps
returns-in_default-clause-steps c =
    let found : Found c.args.self.now.by c.in_ok-text.text.now c.position.result =
    position_from_yields_List (λ x. eqb x c.args.self.now.by) _ _ c.position.result c.position.ensures.ran (YieldsList-from_slice c.in_ok-text.text.now cc) (λ x b q k. search (rules, tests)) in
    rw c.in_ok-text.was (part_alone _ _ (rw c.in_default.is at found))

pub returns-in_default-clause-goes : goal.returns-in_default-clause-goes
returns-in_default-clause-goes c =
    progress_first (λ x. x.now) _ _ _ _ (returns-in_default-clause-steps c)

pub returns-clause-steps : goal.returns-clause-steps
returns-clause-steps c =
    let found : Found c.args.self.now.by c.in_ok-text.text.now c.position.result =
    position_from_yields_List (λ x. eqb x c.args.self.now.by) _ _ c.position.result c.position.ensures.ran (YieldsList-from_slice c.in_ok-text.text.now cc) (λ x b q k. search (rules, tests)) in
    rw c.in_ok-text.was (part_first _ _ _ (rw c.in-Some.is at found))

pub returns-clause-goes : goal.returns-clause-goes
returns-clause-goes c =
    progress_first (λ x. x.now) _ _ _ _ (returns-clause-steps c)
