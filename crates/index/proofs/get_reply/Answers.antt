-- `index::get_reply` meets its contract.
use native.Mathlib.Omega.{arith}
use Rattle.std.proofs.lemmas.Result.{err_from_is_err_and}
use Rattle.index_layout.proofs.Places.{place_bounds}
use Rattle.index.proofs.Places.{found_inside}
use Rattle.index.proofs.Calls.{get_refused, get_absent, get_found}
use Rattle.index.proofs.get_reply.Goals as goal

pub returns-in_err-place : goal.returns-in_err-place
returns-in_err-place c =
    let p = err_from_is_err_and c.from_residual.result c.from_residual.ensures.1 in
    rw (p.1, p.2) (get_refused _ _ _ c.in_err-place.ensures)

pub find_at-requires : goal.find_at-requires
find_at-requires c = (place_bounds c.in_ok-place.ensures.2).whole

pub returns-in_default : goal.returns-in_default
returns-in_default c = get_absent _ _ _ c.in_ok-place.ensures c.in_default.ensures

pub value_at-requires : goal.value_at-requires
value_at-requires c = omega (arith, found_inside c.in_ok-place.ensures.2 c.in-Some.ensures)

pub returns : goal.returns
returns c = rw c.value_at.ensures (get_found _ _ _ c.in_ok-place.ensures _ c.in-Some.ensures)
