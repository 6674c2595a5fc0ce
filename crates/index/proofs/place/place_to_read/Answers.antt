-- `index::place::place_to_read` meets its contract.
use Rattle.std.proofs.lemmas.Result.{err_from_is_err_and}
use Rattle.index_layout.proofs.Answers.{header_valid, header_not_valid, header_refused}
use Rattle.index.proofs.Places.{read_no_store, read_no_key, read_entry_decides}
use Rattle.index.proofs.place.place_to_read.Goals as goal

pub returns-in_err-header : goal.returns-in_err-header
returns-in_err-header c =
    let p = err_from_is_err_and c.from_residual.result c.from_residual.ensures.1 in
    let e = c.read_header.ensures in
    let q = c.in_err-header.was in
    rw (p.1, p.2, header_refused _ _ e _ q) (read_no_store _ _ (header_not_valid _ _ e _ q))

pub returns-then-key-eq0 : goal.returns-then-key-eq0
returns-then-key-eq0 c =
    read_no_key _ _ (header_valid _ _ c.read_header.ensures _ c.in_ok-header.was).valid c.if-key-eq0.true

pub place_of-requires : goal.place_of-requires
place_of-requires c = header_valid _ _ c.read_header.ensures _ c.in_ok-header.was

pub returns : goal.returns
returns c =
    let d = header_valid _ _ c.read_header.ensures _ c.in_ok-header.was in
    rw (read_entry_decides _ _ d.valid c.if-key-eq0.false) c.place_of.ensures
