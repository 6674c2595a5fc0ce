-- `desk_text::line::read_call` meets its contract: the numbers are taken one after the other, and the call is made of them.
use Rattle.std.proofs.Common.{◌≡◌, [], ◌∷◌, ◌∙◌, arith}
use Rattle.desk_text.specs.Line.{call_with}
use Rattle.desk_text.proofs.Reading.{called_after, taken, stopped, made, never, no_letter}
use Rattle.desk_text.proofs.Made.{only_three, only_two, only_one, only_no_number}
use Rattle.desk_text.proofs.line.read_call.Goals as goal

pub returns-in_err-first-in-70 : goal.returns-in_err-first-in-70
returns-in_err-first-in-70 c =
    rw c.from_residual.ensures
    (called_after _ _ ∙ stopped (call_with c.args.letter) _ c.in_err-first-in-70.ensures (only_three _ c.in-70.is [] (λ n. absurd (omega arith))))

pub returns-in_err-second-in-70 : goal.returns-in_err-second-in-70
returns-in_err-second-in-70 c =
    let first = c.in_ok-first-in-70.first in
    rw c.from_residual-in_err-second-in-70.ensures
    (called_after _ _ ∙ taken (call_with c.args.letter) _ _ first c.in_ok-first-in-70.ensures
    ∙ stopped (λ ns. call_with c.args.letter (first ∷ ns)) _ c.in_err-second-in-70.ensures (only_three _ c.in-70.is (first ∷ []) (λ n. absurd (omega arith))))

pub returns-in_err-allowance-in-70 : goal.returns-in_err-allowance-in-70
returns-in_err-allowance-in-70 c =
    let first = c.in_ok-first-in-70.first in
    let second = c.in_ok-second-in-70.second in
    rw c.from_residual-in_err-allowance-in-70.ensures
    (called_after _ _ ∙ taken (call_with c.args.letter) _ _ first c.in_ok-first-in-70.ensures
    ∙ taken (λ ns. call_with c.args.letter (first ∷ ns)) _ _ second c.in_ok-second-in-70.ensures
    ∙ stopped (λ ns. call_with c.args.letter (first ∷ second ∷ ns)) _ c.in_err-allowance-in-70.ensures (only_three _ c.in-70.is (first ∷ second ∷ []) (λ n. absurd (omega arith))))

pub returns-in_err-key-in-82 : goal.returns-in_err-key-in-82
returns-in_err-key-in-82 c =
    let letter : c.args.letter ≡ 82 = omega arith in
    rw c.from_residual-in_err-key-in-82.ensures
    (called_after _ _ ∙ stopped (call_with c.args.letter) _ c.in_err-key-in-82.ensures (only_two _ letter [] (λ n. absurd (omega arith))))

pub returns-in_err-allowance-in-82 : goal.returns-in_err-allowance-in-82
returns-in_err-allowance-in-82 c =
    let letter : c.args.letter ≡ 82 = omega arith in
    let key = c.in_ok-key-in-82.key in
    rw c.from_residual-in_err-allowance-in-82.ensures
    (called_after _ _ ∙ taken (call_with c.args.letter) _ _ key c.in_ok-key-in-82.ensures
    ∙ stopped (λ ns. call_with c.args.letter (key ∷ ns)) _ c.in_err-allowance-in-82.ensures (only_two _ letter (key ∷ []) (λ n. absurd (omega arith))))

pub returns-in_err-only-in-71 : goal.returns-in_err-only-in-71
returns-in_err-only-in-71 c =
    rw c.from_residual-in_err-only-in-71.ensures
    (called_after _ _ ∙ stopped (call_with c.args.letter) _ c.in_err-only-in-71.ensures (only_one _ c.in-71.is [] (λ n. absurd (omega arith))))

pub returns-in_ok-allowance-in-70 : goal.returns-in_ok-allowance-in-70
returns-in_ok-allowance-in-70 c =
    let first = c.in_ok-first-in-70.first in
    let second = c.in_ok-second-in-70.second in
    let allowance = c.in_ok-allowance-in-70.allowance in
    made _ _ (λ ns. call_with c.args.letter (first ∷ second ∷ allowance ∷ ns)) _ _
    (called_after _ _ ∙ taken (call_with c.args.letter) _ _ first c.in_ok-first-in-70.ensures
    ∙ taken (λ ns. call_with c.args.letter (first ∷ ns)) _ _ second c.in_ok-second-in-70.ensures
    ∙ taken (λ ns. call_with c.args.letter (first ∷ second ∷ ns)) _ _ allowance c.in_ok-allowance-in-70.ensures)
    c.call_of.ensures (λ n ns. only_three _ c.in-70.is _ (λ e. absurd (omega arith)))

pub returns-in_ok-allowance-in-82 : goal.returns-in_ok-allowance-in-82
returns-in_ok-allowance-in-82 c =
    let letter : c.args.letter ≡ 82 = omega arith in
    let key = c.in_ok-key-in-82.key in
    let allowance = c.in_ok-allowance-in-82.allowance in
    made _ _ (λ ns. call_with c.args.letter (key ∷ allowance ∷ ns)) _ _
    (called_after _ _ ∙ taken (call_with c.args.letter) _ _ key c.in_ok-key-in-82.ensures
    ∙ taken (λ ns. call_with c.args.letter (key ∷ ns)) _ _ allowance c.in_ok-allowance-in-82.ensures)
    c.call_of-in-82.ensures (λ n ns. only_two _ letter _ (λ e. absurd (omega arith)))

pub returns-in_ok-only-in-71 : goal.returns-in_ok-only-in-71
returns-in_ok-only-in-71 c =
    let only = c.in_ok-only-in-71.only in
    made _ _ (λ ns. call_with c.args.letter (only ∷ ns)) _ _
    (called_after _ _ ∙ taken (call_with c.args.letter) _ _ only c.in_ok-only-in-71.ensures)
    c.call_of-in-71.ensures (λ n ns. only_one _ c.in-71.is _ (λ e. absurd (omega arith)))

pub returns-in-76 : goal.returns-in-76
returns-in-76 c =
    let letter : c.args.letter ≡ 76 = omega arith in
    made _ _ (call_with c.args.letter) _ _ (called_after _ _) c.call_of-in-76.ensures (λ n ns. only_no_number _ letter _ (λ e. absurd (omega arith)))

pub returns-in_default : goal.returns-in_default
returns-in_default c =
    called_after _ _
    ∙ never _ _ (no_letter c.args.letter (λ e. absurd (grind arith)) (λ e. absurd (grind arith)) (λ e. absurd (omega arith)) (λ e. absurd (grind arith)) (λ e. absurd (grind arith)) (λ e. absurd (omega arith)))
