-- `index::merge` meets its contract.
use mathlib.Core.Path.{ap}
use Rattle.replies.specs.Replies.{said_by}
use Rattle.index.proofs.Merges.{merge_refused, halves_below, merge_not_made, merge_done}
use Rattle.index.proofs.merge.Goals as goal

pub returns-in-Err : goal.returns-in-Err
returns-in-Err c = merge_refused _ _ _ _ _ c.in-Err.ensures (ap said_by c.without_store.ensures.0, c.without_store.ensures.1)

pub merge-requires : goal.merge-requires
merge-requires c =
    let x = c.in-Ok.ensures in
    (x.2, halves_below x.2 x.0 x.1)

pub returns-in-Ok-merge_halves : goal.returns-in-Ok-merge_halves
returns-in-Ok-merge_halves c = merge_done _ _ _ _ _ c.in-Ok.ensures _ _ c.in-Ok-merge_halves.ensures c.after_stores.ensures

pub returns-in-Err-merge_halves : goal.returns-in-Err-merge_halves
returns-in-Err-merge_halves c =
    merge_not_made _ _ _ _ _ c.in-Ok.ensures _ _ c.in-Err-merge_halves.ensures
    (ap said_by c.without_store-in-Err-merge_halves.ensures.0, c.without_store-in-Err-merge_halves.ensures.1)
