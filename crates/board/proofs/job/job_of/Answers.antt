-- `board::job::job_of` meets its contract.
use mathlib.Core.Path.{sym, refl, ◌∙◌}
use Rattle.board.proofs.Jobs.{year_bounds, month_bounds, number_bound, bad_year, bad_month, bad_number, tests_pass}
use Rattle.board.proofs.job.job_of.Goals as goal

pub returns-then-not-valid_year : goal.returns-then-not-valid_year
returns-then-not-valid_year c = bad_year _ _ _ (sym c.valid_year.ensures ∙ c.if-not-valid_year.true)

pub returns-then-not-valid_month : goal.returns-then-not-valid_month
returns-then-not-valid_month c =
    bad_month _ _ _ (sym c.valid_year.ensures ∙ c.if-not-valid_year.false) (sym c.valid_month.ensures ∙ c.if-not-valid_month.true)

pub returns-then-not-valid_number : goal.returns-then-not-valid_number
returns-then-not-valid_number c =
    bad_number _ _ _ (sym c.valid_year.ensures ∙ c.if-not-valid_year.false)
    (sym c.valid_month.ensures ∙ c.if-not-valid_month.false)
    (sym c.valid_number.ensures ∙ c.if-not-valid_number.true)

pub invariant_of-result : goal.invariant_of-result
invariant_of-result c =
    let year = year_bounds _ (sym c.valid_year.ensures ∙ c.if-not-valid_year.false) in
    let month = month_bounds _ (sym c.valid_month.ensures ∙ c.if-not-valid_month.false) in
    record { in_year = (year.1, month.0, month.1, number_bound _ (sym c.valid_number.ensures ∙ c.if-not-valid_number.false)) }

pub returns : goal.returns
returns c = (
  tests_pass _ _ _ (sym c.valid_year.ensures ∙ c.if-not-valid_year.false)
      (sym c.valid_month.ensures ∙ c.if-not-valid_month.false)
      (sym c.valid_number.ensures ∙ c.if-not-valid_number.false),
  refl,
  refl,
  refl,
)
