-- `desk_text::line::call_of` meets its contract: each letter has a call with so many numbers, and with no others.
use Rattle.std.proofs.Common.{◌≡◌, [], get_or, refl, arith, sym}
use Rattle.desk_text.specs.Line.{call_with}
use Rattle.desk_text.proofs.Reading.{format_large, format_called, put_large, put_called, remove_large, remove_called, mend_large, mend_called}
use Rattle.desk_text.proofs.Made.{no_numbers, one_number, two_numbers, three_numbers, other_count}
use Rattle.desk_text.proofs.line.call_of.Goals as goal

pub returns-in_err-to_allowance-in-70-len3 : goal.returns-in_err-to_allowance-in-70-len3
returns-in_err-to_allowance-in-70-len3 c =
    let letter : c.args.letter ≡ 70 = omega arith in
    rw (c.from_residual.ensures, letter, three_numbers _ c.in-70-len3.len_at_least c.in-70-len3.len_below) (sym (format_large _ _ _ [] c.in_err-to_allowance-in-70-len3.ensures))

pub returns-in_err-to_allowance-in-80-len3 : goal.returns-in_err-to_allowance-in-80-len3
returns-in_err-to_allowance-in-80-len3 c =
    let letter : c.args.letter ≡ 80 = omega arith in
    rw (c.from_residual-in_err-to_allowance-in-80-len3.ensures, letter, three_numbers _ c.in-80-len3.len_at_least c.in-80-len3.len_below) (sym (put_large _ _ _ [] c.in_err-to_allowance-in-80-len3.ensures))

pub returns-in_err-to_allowance-in-82-len2 : goal.returns-in_err-to_allowance-in-82-len2
returns-in_err-to_allowance-in-82-len2 c =
    let letter : c.args.letter ≡ 82 = omega arith in
    rw (c.from_residual-in_err-to_allowance-in-82-len2.ensures, letter, two_numbers _ c.in-82-len2.len_at_least c.in-82-len2.len_below) (sym (remove_large _ _ [] c.in_err-to_allowance-in-82-len2.ensures))

pub returns-in_err-to_allowance-in-77-len1 : goal.returns-in_err-to_allowance-in-77-len1
returns-in_err-to_allowance-in-77-len1 c =
    let letter : c.args.letter ≡ 77 = omega arith in
    rw (c.from_residual-in_err-to_allowance-in-77-len1.ensures, letter, one_number _ c.in-77-len1.len_at_least c.in-77-len1.len_below) (sym (mend_large (get_or c.args.numbers.now 0 0) [] (omega (arith, c.in_err-to_allowance-in-77-len1.ensures))))

pub returns-in_default : goal.returns-in_default
returns-in_default c =
    other_count _ _ (λ l n. absurd (omega arith)) (λ l n. absurd (omega arith)) (λ l n. absurd (omega arith)) (λ l n. absurd (omega arith)) (λ l n. absurd (omega arith)) (λ l n. absurd (omega arith))

pub returns-in_default-2 : goal.returns-in_default-2
returns-in_default-2 c =
    other_count _ _ (λ l n. absurd (omega arith)) (λ l n. absurd (omega arith)) (λ l n. absurd (omega arith)) (λ l n. absurd (omega arith)) (λ l n. absurd (omega arith)) (λ l n. absurd (omega arith))

pub returns-in_default-3 : goal.returns-in_default-3
returns-in_default-3 c =
    other_count _ _ (λ l n. absurd (omega arith)) (λ l n. absurd (omega arith)) (λ l n. absurd (omega arith)) (λ l n. absurd (omega arith)) (λ l n. absurd (omega arith)) (λ l n. absurd (omega arith))

pub returns-in_default-4 : goal.returns-in_default-4
returns-in_default-4 c =
    other_count _ _ (λ l n. absurd (omega arith)) (λ l n. absurd (omega arith)) (λ l n. absurd (omega arith)) (λ l n. absurd (omega arith)) (λ l n. absurd (omega arith)) (λ l n. absurd (omega arith))

pub returns-in_default-5 : goal.returns-in_default-5
returns-in_default-5 c =
    other_count _ _ (λ l n. absurd (omega arith)) (λ l n. absurd (omega arith)) (λ l n. absurd (omega arith)) (λ l n. absurd (omega arith)) (λ l n. absurd (omega arith)) (λ l n. absurd (omega arith))

pub returns-in_default-6 : goal.returns-in_default-6
returns-in_default-6 c =
    other_count _ _ (λ l n. absurd (omega arith)) (λ l n. absurd (omega arith)) (λ l n. absurd (omega arith)) (λ l n. absurd (omega arith)) (λ l n. absurd (omega arith)) (λ l n. absurd (omega arith))

pub returns-in_default-7 : goal.returns-in_default-7
returns-in_default-7 c =
    other_count _ _ (λ l n. absurd (omega arith)) (λ l n. absurd (omega arith)) (λ l n. absurd (omega arith)) (λ l n. absurd (omega arith)) (λ l n. absurd (omega arith)) (λ l n. absurd (omega arith))

pub returns-in_default-8 : goal.returns-in_default-8
returns-in_default-8 c =
    other_count _ _ (λ l n. absurd (omega arith)) (λ l n. absurd (omega arith)) (λ l n. absurd (omega arith)) (λ l n. absurd (omega arith)) (λ l n. absurd (omega arith)) (λ l n. absurd (omega arith))

pub returns-in_default-9 : goal.returns-in_default-9
returns-in_default-9 c =
    other_count _ _ (λ l n. absurd (omega arith)) (λ l n. absurd (omega arith)) (λ l n. absurd (omega arith)) (λ l n. absurd (omega arith)) (λ l n. absurd (omega arith)) (λ l n. absurd (omega arith))

pub returns-in_default-10 : goal.returns-in_default-10
returns-in_default-10 c =
    other_count _ _ (λ l n. absurd (omega arith)) (λ l n. absurd (omega arith)) (λ l n. absurd (omega arith)) (λ l n. absurd (omega arith)) (λ l n. absurd (omega arith)) (λ l n. absurd (omega arith))

pub returns-in_default-11 : goal.returns-in_default-11
returns-in_default-11 c =
    other_count _ _ (λ l n. absurd (omega arith)) (λ l n. absurd (omega arith)) (λ l n. absurd (omega arith)) (λ l n. absurd (omega arith)) (λ l n. absurd (omega arith)) (λ l n. absurd (omega arith))

pub returns-in_default-12 : goal.returns-in_default-12
returns-in_default-12 c =
    other_count _ _ (λ l n. absurd (omega arith)) (λ l n. absurd (omega arith)) (λ l n. absurd (omega arith)) (λ l n. absurd (omega arith)) (λ l n. absurd (omega arith)) (λ l n. absurd (omega arith))

pub returns-in_ok-to_allowance-in-70-len3 : goal.returns-in_ok-to_allowance-in-70-len3
returns-in_ok-to_allowance-in-70-len3 c =
    let letter : c.args.letter ≡ 70 = omega arith in
    let same : c.in_ok-to_allowance-in-70-len3.field-0 ≡ get_or c.args.numbers.now 2 0 = c.in_ok-to_allowance-in-70-len3.ensures.0 in
    rw (letter, same, three_numbers _ c.in-70-len3.len_at_least c.in-70-len3.len_below) (sym (format_called _ _ _ c.in_ok-to_allowance-in-70-len3.ensures.1))

pub returns-in_ok-to_allowance-in-80-len3 : goal.returns-in_ok-to_allowance-in-80-len3
returns-in_ok-to_allowance-in-80-len3 c =
    let letter : c.args.letter ≡ 80 = omega arith in
    let same : c.in_ok-to_allowance-in-80-len3.field-0 ≡ get_or c.args.numbers.now 2 0 = c.in_ok-to_allowance-in-80-len3.ensures.0 in
    rw (letter, same, three_numbers _ c.in-80-len3.len_at_least c.in-80-len3.len_below) (sym (put_called _ _ _ c.in_ok-to_allowance-in-80-len3.ensures.1))

pub returns-in_ok-to_allowance-in-82-len2 : goal.returns-in_ok-to_allowance-in-82-len2
returns-in_ok-to_allowance-in-82-len2 c =
    let letter : c.args.letter ≡ 82 = omega arith in
    let same : c.in_ok-to_allowance-in-82-len2.field-0 ≡ get_or c.args.numbers.now 1 0 = c.in_ok-to_allowance-in-82-len2.ensures.0 in
    rw (letter, same, two_numbers _ c.in-82-len2.len_at_least c.in-82-len2.len_below) (sym (remove_called _ _ c.in_ok-to_allowance-in-82-len2.ensures.1))

pub returns-in_ok-to_allowance-in-77-len1 : goal.returns-in_ok-to_allowance-in-77-len1
returns-in_ok-to_allowance-in-77-len1 c =
    let letter : c.args.letter ≡ 77 = omega arith in
    let same : c.in_ok-to_allowance-in-77-len1.field-0 ≡ get_or c.args.numbers.now 0 0 = omega (arith, c.in_ok-to_allowance-in-77-len1.ensures.0) in
    rw (letter, same, one_number _ c.in-77-len1.len_at_least c.in-77-len1.len_below) (sym (mend_called (get_or c.args.numbers.now 0 0) (omega (arith, c.in_ok-to_allowance-in-77-len1.ensures.1))))

pub returns-in-71-len1 : goal.returns-in-71-len1
unfolding call_with
returns-in-71-len1 c =
    let letter : c.args.letter ≡ 71 = omega arith in
    rw (letter, one_number _ c.in-71-len1.len_at_least c.in-71-len1.len_below) refl

pub returns-in-76-empty : goal.returns-in-76-empty
unfolding call_with
returns-in-76-empty c =
    let letter : c.args.letter ≡ 76 = omega arith in
    rw (letter, no_numbers c.args.numbers.now (omega arith)) refl
