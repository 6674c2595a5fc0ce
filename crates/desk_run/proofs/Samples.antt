-- Document 01's example of the desk program: its eight lines on 4,160 words, all 0, with a list array of 512 words. antt computes
-- what they write, byte for byte, from the definitions; and states in which the desk's own numbers are seen.
use Prim.Native.Nat.{ℕ, suc, ◌+◌, ◌*◌}
use mathlib.Core.Path.{◌≡◌, refl}
use mathlib.Core.List.{List, [], ◌∷◌, ◌++◌}
use lib.ListN.{replicate}
use Rattle.stores.specs.Lists.{each}
use Rattle.stores.specs.Store.{Store, store, apply}
use Rattle.index_rules.proofs.Table.{computed}
use Rattle.text.specs.Parts.{started_by, parts, nonempty, lines_of, fields_of}
use Rattle.text.specs.Number.{is_digit, all_digits, value_from, number, spelled, decimal}
use Rattle.desk_text.specs.Line.{both, numbers_of, allowed, call_with, called_with, call_of_fields, call_of}
use Rattle.desk_text.specs.Output.{values_text, answer_line}
use Rattle.desk_run.specs.Run.{list_words, ran_call, ran_lines, ran, desk_output}

-- A line of the document to a line.
pub example : List ℕ
example =
    70 ∷ 9 ∷ 50 ∷ 9 ∷ 50 ∷ 9 ∷ 49 ∷ 48 ∷ 48 ∷ 10
    ∷ 80 ∷ 9 ∷ 55 ∷ 9 ∷ 55 ∷ 48 ∷ 9 ∷ 49 ∷ 48 ∷ 48 ∷ 10
    ∷ 71 ∷ 9 ∷ 55 ∷ 10
    ∷ 80 ∷ 9 ∷ 55 ∷ 9 ∷ 55 ∷ 49 ∷ 9 ∷ 48 ∷ 10
    ∷ 71 ∷ 9 ∷ 55 ∷ 10
    ∷ 82 ∷ 9 ∷ 55 ∷ 9 ∷ 49 ∷ 48 ∷ 48 ∷ 10
    ∷ 71 ∷ 9 ∷ 55 ∷ 10
    ∷ 76 ∷ 10
    ∷ []

pub written : List ℕ
written =
    70 ∷ 9 ∷ 48 ∷ 9 ∷ 54 ∷ 55 ∷ 10
    ∷ 80 ∷ 9 ∷ 48 ∷ 9 ∷ 50 ∷ 10
    ∷ 71 ∷ 9 ∷ 48 ∷ 9 ∷ 48 ∷ 9 ∷ 55 ∷ 48 ∷ 10
    ∷ 80 ∷ 9 ∷ 55 ∷ 9 ∷ 48 ∷ 10
    ∷ 71 ∷ 9 ∷ 48 ∷ 9 ∷ 48 ∷ 9 ∷ 55 ∷ 48 ∷ 10
    ∷ 82 ∷ 9 ∷ 48 ∷ 9 ∷ 49 ∷ 10
    ∷ 71 ∷ 9 ∷ 45 ∷ 9 ∷ 48 ∷ 10
    ∷ 76 ∷ 9 ∷ 48 ∷ 9 ∷ 48 ∷ 9 ∷ 48 ∷ 10
    ∷ []

pub example_writes : desk_output example ≡ written
unfolding example written computed started_by parts nonempty lines_of fields_of is_digit all_digits value_from number spelled decimal both numbers_of allowed call_with called_with call_of_fields call_of values_text answer_line ran_call ran_lines ran
example_writes = refl

-- ---- The desk's own numbers

-- An index of D = 2, S = 4 in which all 256 slots have live records: in the block at index b, whose two bits are `r`, the keys 64 to 319.
pub in_block : (b r : ℕ) → List Store
in_block b r =
    store (4 + b) (b + 0x200000000)
    ∷ each (λ m. each (λ c. store (8 + 128 * b + 2 * (16 * m + c)) (64 * suc m + 16 * r + c) ∷ []) 16) 4

pub all_slots : List ℕ
all_slots = apply (store 0 0x5041474600040202 ∷ in_block 0 0 ++ in_block 1 2 ++ in_block 2 1 ++ in_block 3 3) (replicate 520 0)

-- Its list takes 512 words: the line `L`, and the answer with 256 records.
pub list_of_512_words : (ran list_words all_slots (76 ∷ [])).text ≡ 76 ∷ 9 ∷ 48 ∷ 9 ∷ 48 ∷ 9 ∷ 50 ∷ 53 ∷ 54 ∷ 10 ∷ []
unfolding computed in_block all_slots started_by parts nonempty lines_of fields_of is_digit all_digits value_from number spelled decimal both numbers_of allowed call_with called_with call_of_fields call_of values_text answer_line ran_call ran_lines ran
list_of_512_words = refl

-- A script of 16,384 line feeds has no line; one of 16,385 is too long: the line `!`.
pub most_bytes_holds : ◌≡◌ {A = List (List ℕ)} ((ran 0 [] (replicate 16384 10)).text ∷ (ran 0 [] (replicate 16385 10)).text ∷ []) ([] ∷ (33 ∷ 10 ∷ []) ∷ [])
unfolding started_by parts nonempty lines_of ran_lines ran
most_bytes_holds = refl
