-- `index_structure::split::split` meets its contract.
use Rattle.std.proofs.lemmas.Result.{err_from_is_err_and}
use Rattle.index_structure.proofs.Found.{found, found_none}
use Rattle.index_structure.proofs.Splits.{no_segment, can_split, split_made}
use Rattle.index_structure.proofs.split.split.Goals as goal

pub returns-in_err-new_segment : goal.returns-in_err-new_segment
returns-in_err-new_segment c =
    let p = err_from_is_err_and c.from_residual.result c.from_residual.ensures.1 in
    let f = found_none _ _ c.in_err-new_segment.ensures.value in
    rw (p.1, p.2, f.1) (no_segment c.requires c.if-place-header.false _ c.free_segment.ensures f.0 c.args.allowance)

pub split_into-requires : goal.split_into-requires
split_into-requires c =
    can_split c.requires c.if-place-header.false _ c.free_segment.ensures (found _ _ c.in_ok-new_segment.ensures.value)

pub returns : goal.returns
returns c =
    split_made c.requires c.if-place-header.false _ c.free_segment.ensures (found _ _ c.in_ok-new_segment.ensures.value)
    c.split_into.ensures
