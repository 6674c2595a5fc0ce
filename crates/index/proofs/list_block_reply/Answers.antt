-- `index::list_block_reply` meets its contract.
use native.Mathlib.Omega.{arith}
use mathlib.Core.Path.{ap, ◌∙◌}
use mathlib.Core.List.{List}
use lib.ListN.{length}
use Rattle.std.proofs.lemmas.Result.{err_from_is_err_and}
use Rattle.index_rules.specs.Listing.{Record}
use Rattle.index_laws.proofs.Listing.{listing_passed}
use Rattle.index_layout.proofs.Shapes.{bounds}
use Rattle.index.proofs.Listings.{place_inside, place_records_holds, following_read, block_refused, block_no_leader, block_short, block_done, block_found, block_not_found}
use Rattle.index.proofs.list_block_reply.Goals as goal

pub returns-in_err-header : goal.returns-in_err-header
returns-in_err-header c =
    let p = err_from_is_err_and c.from_residual.result c.from_residual.ensures.1 in
    rw (p.1, p.2) (block_refused _ _ _ _ c.in_err-header.ensures)

pub returns-in_err-place : goal.returns-in_err-place
returns-in_err-place c =
    let p = err_from_is_err_and c.from_residual-in_err-place.result c.from_residual-in_err-place.ensures.1 in
    let n = block_not_found _ _ _ c.find_block.ensures _ c.in_err-place.ensures.value in
    rw (p.1, p.2, n.1) (block_no_leader _ _ c.in_ok-header.ensures.1 _ n.0)

pub count_block-records-requires : goal.count_block-records-requires
count_block-records-requires c =
    let h = c.in_ok-header.ensures in
    let f = block_found _ _ _ c.find_block.ensures _ c.in_ok-place.ensures.value in
    place_inside h.0 (listing_passed _ _ h.1).leaders _ f.0 _ f.1

pub returns-then-list-records : goal.returns-then-list-records
returns-then-list-records c =
    let f = block_found _ _ _ c.find_block.ensures _ c.in_ok-place.ensures.value in
    let n = c.count_block-records.ensures.0 ∙ ap (λ (rs : List Record). length rs) (place_records_holds _ _ _ f.1) in
    block_short _ _ c.in_ok-header.ensures.1 _ f.0 (rw n at c.if-list-records.true)

pub write_block-requires : goal.write_block-requires
write_block-requires c =
    let h = c.in_ok-header.ensures in
    let f = block_found _ _ _ c.find_block.ensures _ c.in_ok-place.ensures.value in
    (place_inside h.0 (listing_passed _ _ h.1).leaders _ f.0 _ f.1, omega (arith, c.count_block-records.ensures.0, c.if-list-records.false))

pub following-requires : goal.following-requires
following-requires c = (bounds c.in_ok-header.ensures.0).depth_high

pub returns : goal.returns
returns c =
    let h = c.in_ok-header.ensures in
    let f = block_found _ _ _ c.find_block.ensures _ c.in_ok-place.ensures.value in
    let led = place_records_holds _ _ _ f.1 in
    let n = c.count_block-records.ensures.0 ∙ ap (λ (rs : List Record). length rs) led in
    block_done _ _ h.1 _ f.0 (rw n at c.if-list-records.false) _ _ n (c.following.ensures ∙ following_read h.0 _ _ f.1)
    _ _ (rw led at c.write_block.ensures)
