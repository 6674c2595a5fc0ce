-- What the code takes of a line's fields, one after the other, and the letter and numbers that it reads of a line.
use Rattle.std.specs.Prelude.{ℕ, ◌^◌, ◌<◌, ◌≤◌, ◌≡◌, ◌⊎◌, List, [], ◌∷◌, Some, None}
use Rattle.std.proofs.Math.Option.{Option, none, some}
use Rattle.text.specs.declared.parts.Parts.{Parts}
use Rattle.text.specs.Left.{parts_left}
use Rattle.text.specs.Number.{number}
use Rattle.desk_text.specs.declared.fields.Numbers.{Numbers}
use Rattle.desk_text.specs.declared.fields.Numbers.TheVariants.{Empty, One, Two, Three}
use Rattle.desk_text.specs.declared.fields.Fields.{Fields}
use Rattle.desk_text.specs.Line.{Spoken, numbers_of, call_with, called_with, call_of}

-- The first of the fields has been taken as a number, n, and the later ones are left; or there is none, or it is none.
abbrev pub NumberTaken : (fields : List (List ℕ)) → Option ℕ → (later : List (List ℕ)) → Type 0
NumberTaken fields none later =
    (fields ≡ []) ⊎ ((field : List ℕ) × (others : List (List ℕ)) × (fields ≡ field ∷ others) × (number field ≡ none))
NumberTaken fields (some n) later = (field : List ℕ) × (fields ≡ field ∷ later) × (number field ≡ some n)

-- A number is an allowance where it is below 2^32.
abbrev pub AllowanceOf : ℕ → Option ℕ → Type 0
AllowanceOf n none = 2 ^ 32 ≤ n
AllowanceOf n (some allowance) = (allowance ≡ n) × (n < 2 ^ 32)

-- A line that is a call, where no field is left behind the call's own.
abbrev pub if_last : Spoken → (later : List (List ℕ)) → Option Spoken
if_last line [] = some line
if_last line (field ∷ later) = none

-- The fields of the letter's call have been taken, and the later ones are left; or the letter has no call with the fields.
abbrev pub CallTaken : (letter : ℕ) (fields : List (List ℕ)) → Option Spoken → (later : List (List ℕ)) → Type 0
CallTaken letter fields none later = called_with letter (numbers_of fields) ≡ none
CallTaken letter fields (some line) later = called_with letter (numbers_of fields) ≡ if_last line later

-- The line's letter has been taken, and the fields behind it are left; or the line is no call.
abbrev pub LetterTaken : (line : List ℕ) → Rattle.std.specs.Prelude.Option (ℕ × Parts) → Type 0
LetterTaken line (Some taken) = call_of line ≡ called_with taken.0 (numbers_of (parts_left taken.1))
LetterTaken line None = call_of line ≡ none

-- The numbers that are there.
abbrev pub numbers_held : Numbers → List ℕ
numbers_held Empty = []
numbers_held (One x) = x ∷ []
numbers_held (Two x y) = x ∷ y ∷ []
numbers_held (Three x y z) = x ∷ y ∷ z ∷ []

-- The fields are these numbers; or no letter has a call with them.
abbrev pub NumbersRead : (fields : List (List ℕ)) → Rattle.std.specs.Prelude.Option Numbers → Type 0
NumbersRead fields (Some ns) = numbers_of fields ≡ some (numbers_held ns)
NumbersRead fields None = (letter : ℕ) → called_with letter (numbers_of fields) ≡ none

-- The call of the letter with the numbers, where the line has that form.
abbrev pub fields_call : Rattle.std.specs.Prelude.Option Fields → Option Spoken
fields_call (Some f) = call_with f.letter (numbers_held f.numbers)
fields_call None = none
