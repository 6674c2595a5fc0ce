-- Document 01, 'The desk program': the lines that are calls.
use Rattle.std.specs.Prelude.{ℕ, ◌^◌, List, [], ◌∷◌, eqb, ltb, Some, None}
use Rattle.std.proofs.Math.Option.{Option, none, some}
use Rattle.stores.specs.Lists.{pick}
use Rattle.index_rules.specs.declared.Call.{Call}
use Rattle.index_rules.specs.declared.Call.TheVariants.{Format, Get, Put, Remove, Mend, List as ListCall}
use Rattle.desk_text.specs.declared.line.Called.{Called}
use Rattle.text.specs.Parts.{fields_of}
use Rattle.text.specs.Number.{number}

-- The letter of a format, F.
abbrev pub letter_format : ℕ
letter_format = 70

-- The letter of a put, P.
abbrev pub letter_put : ℕ
letter_put = 80

-- The letter of a get, G.
abbrev pub letter_get : ℕ
letter_get = 71

-- The letter of a remove, R.
abbrev pub letter_remove : ℕ
letter_remove = 82

-- The letter of a mend, M.
abbrev pub letter_mend : ℕ
letter_mend = 77

-- The letter of a list, L.
abbrev pub letter_list : ℕ
letter_list = 76

-- A line that is a call: its letter, with which its answer begins, and the call.
pub record Spoken : Type 0 where
  pub letter : ℕ
  pub call : Call

-- The call with its letter.
abbrev pub spoken : ℕ → Call → Spoken
spoken letter call = record { letter = letter; call = call }

-- A number in front of numbers, where all of them are there.
unfoldable pub both : Option ℕ → Option (List ℕ) → Option (List ℕ)
both none ns = none
both (some n) none = none
both (some n) (some ns) = some (n ∷ ns)

-- The numbers that fields spell, where each is one.
unfoldable pub numbers_of : List (List ℕ) → Option (List ℕ)
numbers_of [] = some []
numbers_of (field ∷ fields) = both (number field) (numbers_of fields)

-- A call with an allowance, which is below 2^32.
unfoldable pub allowed : (allowance : ℕ) → Spoken → Option Spoken
allowed allowance line = pick (ltb allowance (2 ^ 32)) (some line) none

-- The call of a letter with these numbers: F D S allowance, P key value allowance, G key, R key allowance, M allowance, L.
unfoldable pub call_with : (letter : ℕ) → List ℕ → Option Spoken
call_with c [] = pick (eqb c letter_list) (some (spoken c ListCall)) none
call_with c (x ∷ []) = pick (eqb c letter_get) (some (spoken c (Get x))) (pick (eqb c letter_mend) (allowed x (spoken c (Mend x))) none)
call_with c (x ∷ y ∷ []) = pick (eqb c letter_remove) (allowed y (spoken c (Remove x y))) none
call_with c (x ∷ y ∷ z ∷ []) = pick (eqb c letter_format) (allowed z (spoken c (Format x y z))) (pick (eqb c letter_put) (allowed z (spoken c (Put x y z))) none)
call_with c (x ∷ y ∷ z ∷ w ∷ ns) = none

-- The same where some field may be no number.
unfoldable pub called_with : (letter : ℕ) → Option (List ℕ) → Option Spoken
called_with c none = none
called_with c (some ns) = call_with c ns

-- The call of a line's fields: the first is the letter alone, each of the others a number.
unfoldable pub call_of_fields : List (List ℕ) → Option Spoken
call_of_fields [] = none
call_of_fields ([] ∷ fields) = none
call_of_fields ((c ∷ []) ∷ fields) = called_with c (numbers_of fields)
call_of_fields ((c ∷ d ∷ cs) ∷ fields) = none

-- The call that a line is, if it is one.
unfoldable pub call_of : List ℕ → Option Spoken
call_of line = call_of_fields (fields_of line)

-- What the code's reading of a line says.
abbrev pub line_said : Rattle.std.specs.Prelude.Option Called → Option Spoken
line_said (Some called) = some (spoken called.letter called.call)
line_said None = none
