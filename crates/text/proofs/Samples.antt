-- Numbers and lines of a text: a table that antt computes from the definitions.
use Prim.Native.Nat.{ℕ}
use mathlib.Core.Path.{◌≡◌, refl}
use mathlib.Core.Bool.{Bool, true, ◌&&◌}
use mathlib.Core.List.{List, [], ◌∷◌}
use mathlib.Core.Option.{Option, none, some}
use Rattle.stores.specs.Lists.{numbers_same, lists_same, if_any}
use Rattle.text.specs.Parts.{started_by, parts, nonempty, lines_of}
use Rattle.text.specs.Number.{is_digit, all_digits, value_from, number, spelled, decimal}

pub data Row : Type 0 where
  -- the number that a field spells
  spells : List ℕ → Option ℕ → Row
  -- the lines of a script
  lines : List ℕ → List (List ℕ) → Row
  -- the digits of a number
  writes : ℕ → List ℕ → Row

passes : Row → Bool
passes (spells field n) = numbers_same (if_any (number field)) (if_any n)
passes (lines script ls) = lists_same (lines_of script) ls
passes (writes n digits) = numbers_same (decimal n) digits

-- Every row of the table passes.
unfoldable pub all_pass : List Row → Bool
unfolding numbers_same lists_same passes
all_pass [] = true
all_pass (r ∷ rs) = passes r && all_pass rs

pub samples : List Row
samples =
    -- numbers: leading zeros, the largest, and what is none
    spells (48 ∷ []) (some 0)
    ∷ spells (48 ∷ 48 ∷ 48 ∷ 48 ∷ 48 ∷ 48 ∷ 48 ∷ 48 ∷ 48 ∷ 48 ∷ 48 ∷ 48 ∷ 48 ∷ 48 ∷ 48 ∷ 48 ∷ 48 ∷ 48 ∷ 48 ∷ 55 ∷ []) (some 7)
    ∷ spells (49 ∷ 56 ∷ 52 ∷ 52 ∷ 54 ∷ 55 ∷ 52 ∷ 52 ∷ 48 ∷ 55 ∷ 51 ∷ 55 ∷ 48 ∷ 57 ∷ 53 ∷ 53 ∷ 49 ∷ 54 ∷ 49 ∷ 53 ∷ []) (some 18446744073709551615)
    ∷ spells (49 ∷ 56 ∷ 52 ∷ 52 ∷ 54 ∷ 55 ∷ 52 ∷ 52 ∷ 48 ∷ 55 ∷ 51 ∷ 55 ∷ 48 ∷ 57 ∷ 53 ∷ 53 ∷ 49 ∷ 54 ∷ 49 ∷ 54 ∷ []) none
    ∷ spells (57 ∷ 57 ∷ 57 ∷ 57 ∷ 57 ∷ 57 ∷ 57 ∷ 57 ∷ 57 ∷ 57 ∷ 57 ∷ 57 ∷ 57 ∷ 57 ∷ 57 ∷ 57 ∷ 57 ∷ 57 ∷ 57 ∷ 57 ∷ []) none
    ∷ spells (48 ∷ 48 ∷ 48 ∷ 48 ∷ 48 ∷ 48 ∷ 48 ∷ 48 ∷ 48 ∷ 48 ∷ 48 ∷ 48 ∷ 48 ∷ 48 ∷ 48 ∷ 48 ∷ 48 ∷ 48 ∷ 48 ∷ 48 ∷ 55 ∷ []) none
    ∷ spells [] none
    ∷ spells (43 ∷ 49 ∷ []) none
    ∷ spells (32 ∷ 49 ∷ []) none
    ∷ spells (49 ∷ 32 ∷ []) none
    ∷ spells (45 ∷ 49 ∷ []) none
    ∷ spells (49 ∷ 97 ∷ []) none
    ∷ spells (47 ∷ []) none
    ∷ spells (58 ∷ []) none
    -- lines: empty ones are skipped, the last may lack its line feed
    ∷ lines [] []
    ∷ lines (10 ∷ 10 ∷ []) []
    ∷ lines (76 ∷ 10 ∷ []) ((76 ∷ []) ∷ [])
    ∷ lines (10 ∷ 76 ∷ 10 ∷ 10 ∷ 71 ∷ 9 ∷ 55 ∷ []) ((76 ∷ []) ∷ (71 ∷ 9 ∷ 55 ∷ []) ∷ [])
    ∷ lines (76 ∷ 13 ∷ 10 ∷ 32 ∷ 10 ∷ []) ((76 ∷ 13 ∷ []) ∷ (32 ∷ []) ∷ [])
    -- digits: no leading zeros, and 0 is one digit
    ∷ writes 0 (48 ∷ [])
    ∷ writes 10 (49 ∷ 48 ∷ [])
    ∷ writes 18446744073709551615 (49 ∷ 56 ∷ 52 ∷ 52 ∷ 54 ∷ 55 ∷ 52 ∷ 52 ∷ 48 ∷ 55 ∷ 51 ∷ 55 ∷ 48 ∷ 57 ∷ 53 ∷ 53 ∷ 49 ∷ 54 ∷ 49 ∷ 53 ∷ [])
    ∷ []

pub samples_pass : all_pass samples ≡ true
unfolding all_pass samples started_by parts nonempty lines_of is_digit all_digits value_from number spelled decimal
samples_pass = refl
