-- `index::remove` meets its contract.
use mathlib.Core.Path.{ap}
use Rattle.replies.specs.Replies.{said_by}
use Rattle.index.proofs.Places.{chosen_hit, chosen_inside, not_chosen}
use Rattle.index.proofs.Calls.{remove_refused, remove_absent, remove_done}
use Rattle.index.proofs.remove.Goals as goal

pub returns-in-Err : goal.returns-in-Err
returns-in-Err c = remove_refused _ _ _ _ _ c.in-Err.ensures (ap said_by c.without_store.ensures.0, c.without_store.ensures.1)

pub returns-in_default : goal.returns-in_default
returns-in_default c =
    let x = c.in-Ok.ensures in
    remove_absent _ _ _ _ _ x (not_chosen x.2 c.choose_at.result c.choose_at.ensures c.in_default.not-Found)
    (ap said_by c.without_store-in_default.ensures.0, c.without_store-in_default.ensures.1)

pub clear_slot-requires : goal.clear_slot-requires
clear_slot-requires c = let x = c.in-Ok.ensures in ((chosen_inside x.2 c.in-Found.ensures).0, x.2)

pub returns : goal.returns
returns c =
    let x = c.in-Ok.ensures in
    remove_done _ _ _ _ _ x _ (chosen_hit x.2 c.in-Found.ensures) _ c.clear_slot.ensures
