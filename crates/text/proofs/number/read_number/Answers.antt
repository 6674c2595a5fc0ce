-- `text::number::read_number` meets its contract. The invariant: what is still to be read behind `value` is the field's number.
use Rattle.std.proofs.Common.{◌≡◌, ◌<◌, ◌≤◌, rules, suc, length, get_or, drop, sym, ◌∙◌, add-one, arith, drop-cons}
use lib.Seq.{drop-length}
use Rattle.text.proofs.Digits.{number_from, number_next, number_stops, number_read, number_of_none, number_of_many}
use Rattle.text.proofs.number.read_number.Goals as goal
use Rattle.text.proofs.number.read_number.Goals.{then-is_empty-via-then-is_empty, then-is_empty-via-else-is_empty+then-field-gt-MOST_DIGITS}

pub returns-then-is_empty : goal.returns-then-is_empty
returns-then-is_empty c =
    elim c.then-is_empty.branch [
      | then-is_empty-via-then-is_empty w ↦ sym (number_of_none _ (search rules))
      | then-is_empty-via-else-is_empty+then-field-gt-MOST_DIGITS w ↦ sym (number_of_many _ w.if-field-gt-MOST_DIGITS.true)
    ]

pub returns-in_err-value : goal.returns-in_err-value
returns-in_err-value c =
    let here = c.loop-byte in
    let field = c.args.field.now in
    let some_byte : 1 ≤ length field = search rules in
    let inside : here.byte-index < length field = omega arith in
    let stop = number_stops here.value (get_or field here.byte-index 0) (drop (suc here.byte-index) field) (sym c.in_err-value.ensures) in
    rw c.from_residual.ensures (sym (number_read field some_byte (omega arith) ∙ here.invariant ∙ rw (drop-cons field here.byte-index 0 inside) stop))

pub loop-byte-preserved : goal.loop-byte-preserved
loop-byte-preserved c =
    let here = c.loop-byte in
    let field = c.args.field.now in
    let some_byte : 1 ≤ length field = search rules in
    let inside : here.byte-index < length field = omega arith in
    let next = number_next here.value (get_or field here.byte-index 0) (drop (suc here.byte-index) field) _ (sym c.in_ok-value.ensures) in
    here.invariant ∙ rw (add-one here.byte-index, drop-cons field here.byte-index 0 inside) next

pub returns : goal.returns
unfolding number_from
returns c =
    let here = c.loop-byte in
    let field = c.args.field.now in
    let some_byte : 1 ≤ length field = search rules in
    let all : here.byte-index ≡ length field = omega arith in
    sym (number_read field some_byte (omega arith) ∙ here.invariant ∙ rw (all, drop-length field))
