-- `index::slot::clear_slot` meets its contract.
use Rattle.replies.proofs.Answers.{answered_stores}
use Rattle.index.proofs.slot.clear_slot.Goals as goal

pub returns : goal.returns
returns c = answered_stores _ _ _ _ _ _ (rw c.new-budget.ensures at c.clear_key.ensures) c.after_stores.ensures
