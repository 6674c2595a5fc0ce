-- `index::list_reply` meets its contract.
use Rattle.std.proofs.lemmas.Result.{err_from_is_err_and}
use Rattle.index_laws.proofs.Listing.{listing_passed}
use Rattle.index.proofs.Listings.{list_refused, list_short, list_done}
use Rattle.index.proofs.list_reply.Goals as goal

pub returns-in_err-header : goal.returns-in_err-header
returns-in_err-header c =
    let p = err_from_is_err_and c.from_residual.result c.from_residual.ensures.1 in
    rw (p.1, p.2) (list_refused _ _ _ c.in_err-header.ensures)

pub count_records-count-requires : goal.count_records-count-requires
count_records-count-requires c =
    let h = c.in_ok-header.ensures in
    (h.0, (listing_passed _ _ h.1).leaders)

pub returns-then-list-count : goal.returns-then-list-count
returns-then-list-count c =
    list_short _ _ c.in_ok-header.ensures.1 (rw c.count_records-count.ensures.0 at c.if-list-count.true)

pub write_records-requires : goal.write_records-requires
write_records-requires c =
    let h = c.in_ok-header.ensures in
    ((h.0, (listing_passed _ _ h.1).leaders), rw c.count_records-count.ensures.0 at c.if-list-count.false)

pub returns : goal.returns
returns c =
    let n = c.count_records-count.ensures.0 in
    list_done _ _ c.in_ok-header.ensures.1 (rw n at c.if-list-count.false) _ n _ _ c.write_records.ensures
