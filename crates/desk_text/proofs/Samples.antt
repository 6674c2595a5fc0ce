-- Calls and answers as text: a table that antt computes from the definitions.
use Prim.Native.Nat.{ℕ}
use mathlib.Core.Path.{◌≡◌, refl}
use mathlib.Core.List.{List, [], ◌∷◌}
use mathlib.Core.Option.{Option, none, some}
use Rattle.index_rules.specs.declared.Call.TheVariants.{Format, Get, Put, Remove, Mend, List as ListCall}
use Rattle.replies.specs.Replies.{done, absent, refused}
use Rattle.text.specs.Parts.{started_by, parts, nonempty, lines_of, fields_of}
use Rattle.text.specs.Number.{is_digit, all_digits, value_from, number, spelled, decimal}
use Rattle.desk_text.specs.Line.{Spoken, spoken, both, numbers_of, allowed, call_with, called_with, call_of_fields, call_of}
use Rattle.desk_text.specs.Output.{values_text, answer_line}

-- A line, and the call that it is, or none.
pub record Line : Type 0 where
  pub text : List ℕ
  pub call : Option Spoken

abbrev calls : List ℕ → Option Spoken → Line
calls text call = record { text = text; call = call }

-- The calls that the lines are, and those that they are to be.
pub calls_read : List Line → List (Option Spoken)
calls_read [] = []
calls_read (l ∷ ls) = call_of l.text ∷ calls_read ls

pub calls_meant : List Line → List (Option Spoken)
calls_meant [] = []
calls_meant (l ∷ ls) = l.call ∷ calls_meant ls

pub lines : List Line
lines =
    -- the lines of the six calls
    calls (70 ∷ 9 ∷ 50 ∷ 9 ∷ 50 ∷ 9 ∷ 49 ∷ 48 ∷ 48 ∷ []) (some (spoken 70 (Format 2 2 100)))
    ∷ calls (70 ∷ 9 ∷ 50 ∷ 9 ∷ 52 ∷ 9 ∷ 49 ∷ 48 ∷ 48 ∷ []) (some (spoken 70 (Format 2 4 100)))
    ∷ calls (80 ∷ 9 ∷ 55 ∷ 9 ∷ 55 ∷ 48 ∷ 9 ∷ 49 ∷ 48 ∷ 48 ∷ []) (some (spoken 80 (Put 7 70 100)))
    ∷ calls (71 ∷ 9 ∷ 55 ∷ []) (some (spoken 71 (Get 7)))
    ∷ calls (82 ∷ 9 ∷ 55 ∷ 9 ∷ 49 ∷ 48 ∷ 48 ∷ []) (some (spoken 82 (Remove 7 100)))
    ∷ calls (77 ∷ 9 ∷ 53 ∷ []) (some (spoken 77 (Mend 5)))
    ∷ calls (76 ∷ []) (some (spoken 76 ListCall))
    ∷ calls (80 ∷ 9 ∷ 48 ∷ 48 ∷ 9 ∷ 49 ∷ 56 ∷ 52 ∷ 52 ∷ 54 ∷ 55 ∷ 52 ∷ 52 ∷ 48 ∷ 55 ∷ 51 ∷ 55 ∷ 48 ∷ 57 ∷ 53 ∷ 53 ∷ 49 ∷ 54 ∷ 49 ∷ 53 ∷ 9 ∷ 48 ∷ 48 ∷ 48 ∷ []) (some (spoken 80 (Put 0 18446744073709551615 0)))
    -- a tab too many at the end, in the middle or in front; a letter in lower case; numbers too few or too many
    ∷ calls [] none
    ∷ calls (76 ∷ 9 ∷ []) none
    ∷ calls (71 ∷ 9 ∷ 55 ∷ 9 ∷ []) none
    ∷ calls (70 ∷ 9 ∷ 50 ∷ 9 ∷ 50 ∷ 9 ∷ 49 ∷ 48 ∷ 48 ∷ 9 ∷ []) none
    ∷ calls (80 ∷ 9 ∷ 55 ∷ 9 ∷ 9 ∷ 55 ∷ 48 ∷ 9 ∷ 49 ∷ 48 ∷ 48 ∷ []) none
    ∷ calls (71 ∷ 9 ∷ 9 ∷ 55 ∷ []) none
    ∷ calls (9 ∷ 71 ∷ 9 ∷ 55 ∷ []) none
    ∷ calls (9 ∷ 76 ∷ []) none
    ∷ calls (103 ∷ 9 ∷ 55 ∷ []) none
    ∷ calls (71 ∷ []) none
    ∷ calls (71 ∷ 71 ∷ 9 ∷ 55 ∷ []) none
    ∷ calls (71 ∷ 55 ∷ []) none
    ∷ calls (71 ∷ 32 ∷ 55 ∷ []) none
    ∷ calls (88 ∷ 9 ∷ 55 ∷ []) none
    ∷ calls (71 ∷ 9 ∷ 55 ∷ 9 ∷ 56 ∷ []) none
    ∷ calls (76 ∷ 9 ∷ 49 ∷ []) none
    ∷ calls (82 ∷ 9 ∷ 55 ∷ []) none
    ∷ calls (77 ∷ []) none
    ∷ calls (70 ∷ 9 ∷ 50 ∷ 9 ∷ 50 ∷ []) none
    ∷ calls (80 ∷ 9 ∷ 55 ∷ 9 ∷ 55 ∷ 48 ∷ 9 ∷ 49 ∷ 48 ∷ 48 ∷ 9 ∷ 53 ∷ []) none
    -- an allowance is below 2^32, a key is not
    ∷ calls (77 ∷ 9 ∷ 52 ∷ 50 ∷ 57 ∷ 52 ∷ 57 ∷ 54 ∷ 55 ∷ 50 ∷ 57 ∷ 53 ∷ []) (some (spoken 77 (Mend 4294967295)))
    ∷ calls (77 ∷ 9 ∷ 52 ∷ 50 ∷ 57 ∷ 52 ∷ 57 ∷ 54 ∷ 55 ∷ 50 ∷ 57 ∷ 54 ∷ []) none
    ∷ calls (82 ∷ 9 ∷ 55 ∷ 9 ∷ 52 ∷ 50 ∷ 57 ∷ 52 ∷ 57 ∷ 54 ∷ 55 ∷ 50 ∷ 57 ∷ 53 ∷ []) (some (spoken 82 (Remove 7 4294967295)))
    ∷ calls (82 ∷ 9 ∷ 55 ∷ 9 ∷ 52 ∷ 50 ∷ 57 ∷ 52 ∷ 57 ∷ 54 ∷ 55 ∷ 50 ∷ 57 ∷ 54 ∷ []) none
    ∷ calls (70 ∷ 9 ∷ 49 ∷ 9 ∷ 49 ∷ 9 ∷ 52 ∷ 50 ∷ 57 ∷ 52 ∷ 57 ∷ 54 ∷ 55 ∷ 50 ∷ 57 ∷ 54 ∷ []) none
    ∷ calls (80 ∷ 9 ∷ 49 ∷ 9 ∷ 49 ∷ 9 ∷ 52 ∷ 50 ∷ 57 ∷ 52 ∷ 57 ∷ 54 ∷ 55 ∷ 50 ∷ 57 ∷ 53 ∷ []) (some (spoken 80 (Put 1 1 4294967295)))
    ∷ calls (80 ∷ 9 ∷ 49 ∷ 9 ∷ 49 ∷ 9 ∷ 52 ∷ 50 ∷ 57 ∷ 52 ∷ 57 ∷ 54 ∷ 55 ∷ 50 ∷ 57 ∷ 54 ∷ []) none
    ∷ calls (71 ∷ 9 ∷ 52 ∷ 50 ∷ 57 ∷ 52 ∷ 57 ∷ 54 ∷ 55 ∷ 50 ∷ 57 ∷ 54 ∷ []) (some (spoken 71 (Get 4294967296)))
    -- a carriage return is no digit
    ∷ calls (71 ∷ 9 ∷ 55 ∷ 13 ∷ []) none
    ∷ calls (76 ∷ 13 ∷ []) none
    ∷ []

pub lines_read : calls_read lines ≡ calls_meant lines
unfolding calls_read calls_meant lines started_by parts nonempty lines_of fields_of is_digit all_digits value_from number both numbers_of allowed call_with called_with call_of_fields call_of
lines_read = refl

-- The lines of answers: those of document 01's example, a refusal of two digits, and a mend.
pub answer_lines : ◌≡◌ {A = List (List ℕ)}
    (answer_line 70 (done []) 67
    ∷ answer_line 80 (done []) 2
    ∷ answer_line 71 (done (70 ∷ [])) 0
    ∷ answer_line 80 (refused 7) 0
    ∷ answer_line 82 (done []) 1
    ∷ answer_line 71 absent 0
    ∷ answer_line 76 (done (0 ∷ [])) 0
    ∷ answer_line 76 (refused 10) 0
    ∷ answer_line 82 absent 0
    ∷ answer_line 77 (done []) 4294967295
    ∷ answer_line 71 (done (18446744073709551615 ∷ [])) 0 ∷ [])
    ((70 ∷ 9 ∷ 48 ∷ 9 ∷ 54 ∷ 55 ∷ 10 ∷ [])
    ∷ (80 ∷ 9 ∷ 48 ∷ 9 ∷ 50 ∷ 10 ∷ [])
    ∷ (71 ∷ 9 ∷ 48 ∷ 9 ∷ 48 ∷ 9 ∷ 55 ∷ 48 ∷ 10 ∷ [])
    ∷ (80 ∷ 9 ∷ 55 ∷ 9 ∷ 48 ∷ 10 ∷ [])
    ∷ (82 ∷ 9 ∷ 48 ∷ 9 ∷ 49 ∷ 10 ∷ [])
    ∷ (71 ∷ 9 ∷ 45 ∷ 9 ∷ 48 ∷ 10 ∷ [])
    ∷ (76 ∷ 9 ∷ 48 ∷ 9 ∷ 48 ∷ 9 ∷ 48 ∷ 10 ∷ [])
    ∷ (76 ∷ 9 ∷ 49 ∷ 48 ∷ 9 ∷ 48 ∷ 10 ∷ [])
    ∷ (82 ∷ 9 ∷ 45 ∷ 9 ∷ 48 ∷ 10 ∷ [])
    ∷ (77 ∷ 9 ∷ 48 ∷ 9 ∷ 52 ∷ 50 ∷ 57 ∷ 52 ∷ 57 ∷ 54 ∷ 55 ∷ 50 ∷ 57 ∷ 53 ∷ 10 ∷ [])
    ∷ (71 ∷ 9 ∷ 48 ∷ 9 ∷ 48 ∷ 9 ∷ 49 ∷ 56 ∷ 52 ∷ 52 ∷ 54 ∷ 55 ∷ 52 ∷ 52 ∷ 48 ∷ 55 ∷ 51 ∷ 55 ∷ 48 ∷ 57 ∷ 53 ∷ 53 ∷ 49 ∷ 54 ∷ 49 ∷ 53 ∷ 10 ∷ []) ∷ [])
unfolding spelled decimal values_text answer_line
answer_lines = refl
