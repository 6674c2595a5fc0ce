-- `index_segment::choice::slot_with_key` meets its contract.
use borrow.Author.Rules.{rules}
use lib.Dec.{eqb}
use Rattle.index_segment.proofs.choice.slot_with_key.Goals as goal

pub returns : goal.returns
returns c = c.first_slot.ensures (λ k. eqb k c.args.key) (λ k t r. search rules)
