-- `index::listing::header_to_list` meets its contract.
use mathlib.Core.Path.{sym, ◌∙◌}
use Rattle.std.proofs.lemmas.Result.{err_from_is_err_and}
use Rattle.index_layout.proofs.Answers.{header_valid, header_not_valid, header_refused}
use Rattle.index.proofs.Listings.{front_no_store, front_directory}
use Rattle.index.proofs.listing.header_to_list.Goals as goal

pub returns-in_err-header : goal.returns-in_err-header
returns-in_err-header c =
    let p = err_from_is_err_and c.from_residual.result c.from_residual.ensures.1 in
    let e = c.read_header.ensures in
    let q = c.in_err-header.was in
    rw (p.1, p.2, header_refused _ _ e _ q) (front_no_store _ (header_not_valid _ _ e _ q))

pub scan-requires : goal.scan-requires
scan-requires c = header_valid _ _ c.read_header.ensures _ c.in_ok-header.was

pub returns-in_err-scan : goal.returns-in_err-scan
returns-in_err-scan c =
    let p = err_from_is_err_and c.from_residual-in_err-scan.result c.from_residual-in_err-scan.ensures.1 in
    let d = header_valid _ _ c.read_header.ensures _ c.in_ok-header.was in
    rw (p.1, p.2) (front_directory _ d.valid ∙ sym c.in_err-scan.ensures)

pub returns : goal.returns
returns c =
    let d = header_valid _ _ c.read_header.ensures _ c.in_ok-header.was in
    (d, front_directory _ d.valid ∙ sym c.in_ok-scan.ensures)
