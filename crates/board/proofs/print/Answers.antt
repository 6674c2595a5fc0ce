-- `board::print` meets its contract.
use mathlib.Core.Path.{sym, ◌∙◌}
use native.Mathlib.Omega.{arith}
use Rattle.board.proofs.Jobs.{year_bounds}
use Rattle.board.proofs.Printing.{printed_bad_year, printed_refused, printed_short, printed_done}
use Rattle.board.proofs.print.Goals as goal

pub returns-then-not-valid_year : goal.returns-then-not-valid_year
returns-then-not-valid_year c =
    printed_bad_year _ _ _ _ (sym c.valid_year.ensures ∙ c.if-not-valid_year.true) c.without_store.ensures

pub count_year-requires : goal.count_year-requires
count_year-requires c = (year_bounds _ (sym c.valid_year.ensures ∙ c.if-not-valid_year.false)).1

pub returns-in-Err : goal.returns-in-Err
returns-in-Err c =
    printed_refused _ _ _ _ _ (sym c.valid_year.ensures ∙ c.if-not-valid_year.false) c.in-Err.ensures c.without_store-in-Err.ensures

pub returns-then-buffer-bytes : goal.returns-then-buffer-bytes
returns-then-buffer-bytes c =
    printed_short _ _ _ _ _ (sym c.valid_year.ensures ∙ c.if-not-valid_year.false) c.in-Ok.ensures c.if-buffer-bytes.true c.without_store-then-buffer-bytes.ensures

pub write_year-written-requires-clause-low : goal.write_year-written-requires-clause-low
write_year-written-requires-clause-low c = (year_bounds _ (sym c.valid_year.ensures ∙ c.if-not-valid_year.false)).1

pub write_year-written-requires-clause-room : goal.write_year-written-requires-clause-room
write_year-written-requires-clause-room c = omega (arith, c.in-Ok.ensures.1)

pub returns : goal.returns
returns c =
    printed_done _ _ _ _ _ _ _ (sym c.valid_year.ensures ∙ c.if-not-valid_year.false) c.in-Ok.ensures c.if-buffer-bytes.false c.write_year-written.ensures
    c.without_store-2.ensures
