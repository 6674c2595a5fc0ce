-- `board::count::count_year` meets its contract. The invariant: the jobs at the places below `place` are counted.
use Rattle.std.proofs.Common.{◌≡◌, add-one, arith}
use Rattle.std.proofs.lemmas.Result.{err_from_is_err_and}
use Rattle.board.proofs.Lookups.{year_places, counted_start, counted_turn, counted_stops}
use Rattle.board.proofs.Found.{job_short, places_short}
use Rattle.board.proofs.count.count_year.Goals as goal

pub loop-place-init : goal.loop-place-init
loop-place-init c = (omega arith, counted_start _)

pub returns-in_err-bytes : goal.returns-in_err-bytes
returns-in_err-bytes c =
    let p = err_from_is_err_and c.from_residual.result c.from_residual.ensures.1 in
    rw (p.1, p.2, year_places c.args.words.now c.args.year)
    (counted_stops _ _ _ _ 49152 c.loop-place-test.true c.loop-place.invariant.1
    (rw (c.at.ensures.0, c.at.ensures.1, c.at.ensures.2) at c.in_err-bytes.ensures))

pub overflow_add-bytes : goal.overflow_add-bytes
overflow_add-bytes c =
    omega (
      arith,
      c.loop-place.invariant.0,
      c.loop-place.invariant.1.1,
      places_short c.args.words.now c.args.year c.loop-place.place c.loop-place.invariant.0,
      c.in_ok-bytes.ensures.1,
      job_short c.args.words.now c.at.result.year c.at.result.month c.at.result.number (omega arith) (omega arith),
    )

pub loop-place-preserved : goal.loop-place-preserved
loop-place-preserved c = (
  omega (arith, c.loop-place-test.true),
  rw (add-one c.loop-place.place)
      (counted_turn _ _ _ _ c.loop-place.invariant.1 (rw (c.at.ensures.0, c.at.ensures.1, c.at.ensures.2) at c.in_ok-bytes.ensures)),
)

pub returns : goal.returns
returns c =
    let all : c.loop-place.place ≡ 49152 = omega (arith, c.loop-place-test.false, c.loop-place.invariant.0) in
    rw (year_places _ _) (rw all at c.loop-place.invariant.1)
