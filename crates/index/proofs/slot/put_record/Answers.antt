-- `index::slot::put_record` meets its contract.
use Rattle.replies.proofs.Answers.{answered_stores}
use Rattle.index.proofs.slot.put_record.Goals as goal

pub returns : goal.returns
returns c = answered_stores _ _ _ _ _ _ (rw c.new-budget.ensures at c.store_record.ensures) c.after_stores.ensures
