-- What is still to be read behind `value` is the field's number.
use Rattle.std.proofs.Common.{◌≡◌, drop}
use Rattle.text.proofs.Digits.{number_from}
use Rattle.text.proofs.number.read_number.Given as goal

abbrev pub invariant-loop-byte : goal.invariant-loop-byte
invariant-loop-byte l =
    number_from 0 l.field ≡ number_from l.value (drop l.byte-index l.field)
