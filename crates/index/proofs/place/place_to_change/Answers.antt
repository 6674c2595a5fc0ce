-- `index::place::place_to_change` meets its contract.
use mathlib.Core.Path.{sym, ◌∙◌}
use Rattle.std.proofs.lemmas.Result.{err_from_is_err_and}
use Rattle.index_layout.proofs.Answers.{header_valid, header_not_valid, header_refused}
use Rattle.index.proofs.Places.{change_no_store, change_no_key, change_directory_decides, change_entry}
use Rattle.index.proofs.place.place_to_change.Goals as goal

pub returns-in_err-header : goal.returns-in_err-header
returns-in_err-header c =
    let p = err_from_is_err_and c.from_residual.result c.from_residual.ensures.1 in
    let e = c.read_header.ensures in
    let q = c.in_err-header.was in
    rw (p.1, p.2, header_refused _ _ e _ q) (change_no_store _ _ (header_not_valid _ _ e _ q))

pub returns-then-key-eq0 : goal.returns-then-key-eq0
returns-then-key-eq0 c =
    change_no_key _ _ (header_valid _ _ c.read_header.ensures _ c.in_ok-header.was).valid c.if-key-eq0.true

pub place_of-placed-requires : goal.place_of-placed-requires
place_of-placed-requires c = header_valid _ _ c.read_header.ensures _ c.in_ok-header.was

pub scan-requires : goal.scan-requires
scan-requires c = header_valid _ _ c.read_header.ensures _ c.in_ok-header.was

pub returns-in_err-scan : goal.returns-in_err-scan
returns-in_err-scan c =
    let p = err_from_is_err_and c.from_residual-in_err-scan.result c.from_residual-in_err-scan.ensures.1 in
    let d = header_valid _ _ c.read_header.ensures _ c.in_ok-header.was in
    rw (p.1, p.2) (change_directory_decides _ _ d.valid c.if-key-eq0.false ∙ sym c.in_err-scan.ensures)

pub returns : goal.returns
returns c =
    let d = header_valid _ _ c.read_header.ensures _ c.in_ok-header.was in
    rw (change_entry _ _ (change_directory_decides _ _ d.valid c.if-key-eq0.false ∙ sym c.in_ok-scan.ensures))
    c.place_of-placed.ensures
