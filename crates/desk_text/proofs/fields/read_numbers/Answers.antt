-- `desk_text::fields::read_numbers` meets its contract: a number is taken, and another, and another.
use Rattle.std.proofs.Common.{ap, ◌∙◌}
use Rattle.std.proofs.Math.Option.{some}
use Rattle.desk_text.specs.Line.{both}
use Rattle.desk_text.proofs.Held.{none_left, number_first, no_number_first, field_first, in_front, none_behind_it, uncalled, four_uncalled}
use Rattle.desk_text.proofs.fields.read_numbers.Goals as goal

pub returns-in_default : goal.returns-in_default
returns-in_default c = none_left _ c.in_default.ensures.steps.0

pub returns-in_err-first : goal.returns-in_err-first
returns-in_err-first c =
    rw c.from_residual.ensures (uncalled _ (no_number_first _ _ _ c.in-Some.ensures.steps c.in_err-first.ensures))

pub returns-in_default-next : goal.returns-in_default-next
returns-in_default-next c =
    number_first _ _ _ _ c.in-Some.ensures.steps c.in_ok-first.ensures ∙ in_front _ _ _ (none_left _ c.in_default-next.ensures.steps.0)

pub returns-in_err-second : goal.returns-in_err-second
returns-in_err-second c =
    rw c.from_residual-in_err-second.ensures
    (uncalled _
    (number_first _ _ _ _ c.in-Some.ensures.steps c.in_ok-first.ensures
    ∙ none_behind_it _ _ (no_number_first _ _ _ c.in-Some-next.ensures.steps c.in_err-second.ensures)))

pub returns-in_default-next-2 : goal.returns-in_default-next-2
returns-in_default-next-2 c =
    number_first _ _ _ _ c.in-Some.ensures.steps c.in_ok-first.ensures
    ∙ in_front _ _ _
    (number_first _ _ _ _ c.in-Some-next.ensures.steps c.in_ok-second.ensures ∙ in_front _ _ _ (none_left _ c.in_default-next-2.ensures.steps.0))

pub returns-in_err-third : goal.returns-in_err-third
returns-in_err-third c =
    rw c.from_residual-in_err-third.ensures
    (uncalled _
    (number_first _ _ _ _ c.in-Some.ensures.steps c.in_ok-first.ensures
    ∙ none_behind_it _ _
    (number_first _ _ _ _ c.in-Some-next.ensures.steps c.in_ok-second.ensures
    ∙ none_behind_it _ _ (no_number_first _ _ _ c.in-Some-next-2.ensures.steps c.in_err-third.ensures))))

pub returns-in-None : goal.returns-in-None
returns-in-None c =
    number_first _ _ _ _ c.in-Some.ensures.steps c.in_ok-first.ensures
    ∙ in_front _ _ _
    (number_first _ _ _ _ c.in-Some-next.ensures.steps c.in_ok-second.ensures
    ∙ in_front _ _ _
    (number_first _ _ _ _ c.in-Some-next-2.ensures.steps c.in_ok-third.ensures ∙ in_front _ _ _ (none_left _ c.in-None.ensures.steps.0)))

pub returns-in-Some-next-3 : goal.returns-in-Some-next-3
returns-in-Some-next-3 c =
    four_uncalled _ _ _ _ _ _
    (number_first _ _ _ _ c.in-Some.ensures.steps c.in_ok-first.ensures
    ∙ ap (both (some c.in_ok-first.first))
    (number_first _ _ _ _ c.in-Some-next.ensures.steps c.in_ok-second.ensures
    ∙ ap (both (some c.in_ok-second.second))
    (number_first _ _ _ _ c.in-Some-next-2.ensures.steps c.in_ok-third.ensures
    ∙ ap (both (some c.in_ok-third.third)) (field_first _ _ _ c.in-Some-next-3.ensures.steps))))
