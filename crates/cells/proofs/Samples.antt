-- Where the key and the value of a cell stand, what the search finds, and the stores into a cell. antt computes each from the definitions.
-- This file imports no proof.
use Prim.Native.Nat.{ℕ}
use mathlib.Core.Path.{◌≡◌, refl}
use mathlib.Core.Bool.{Bool, true, ◌&&◌}
use mathlib.Core.List.{List, [], ◌∷◌}
use mathlib.Core.Option.{none, some}
use Rattle.stores.specs.Lists.{first_in, numbers_same, if_any}
use Rattle.stores.specs.Store.{apply, exec}
use Rattle.replies.specs.Replies.{done, absent, following_same, said_same}
use Rattle.cells.specs.Cells.{key_address, value_address, first_hit, is_empty, first_empty, value_at_hit, value_stored, record_stored, key_cleared}

-- A row of five cells from word 1 on: keys 7, 0, 1073741831 (7 in its lowest 30 bits), 7 and 0; the values 70 to 74.
row : List ℕ
row = 9 ∷ 7 ∷ 70 ∷ 0 ∷ 71 ∷ 1073741831 ∷ 72 ∷ 7 ∷ 73 ∷ 0 ∷ 74 ∷ []

addresses : Bool
addresses = numbers_same (key_address 1 0 ∷ value_address 1 0 ∷ key_address 1 3 ∷ value_address 1 3 ∷ []) (1 ∷ 2 ∷ 7 ∷ 8 ∷ [])

-- The cells in which a key is looked for, and the first that has it: in the order of the list, behind empty cells too.
finds : (cells : List ℕ) → (key : ℕ) → (hit : List ℕ) → Bool
finds cells key hit = numbers_same (if_any (first_hit row 1 cells key)) hit

searched : Bool
searched =
    finds (0 ∷ 1 ∷ 2 ∷ 3 ∷ []) 7 (0 ∷ [])
    && (finds (3 ∷ 0 ∷ []) 7 (3 ∷ [])
    && (finds (4 ∷ 1 ∷ 0 ∷ []) 7 (0 ∷ [])
    && (finds (1 ∷ 2 ∷ 4 ∷ []) 7 []
    && (finds (0 ∷ 2 ∷ []) 1073741831 (2 ∷ [])
    && (finds [] 7 []
    && (numbers_same (if_any (first_empty row 1 (0 ∷ 4 ∷ 1 ∷ []))) (4 ∷ [])
    && numbers_same (if_any (first_empty row 1 (0 ∷ 2 ∷ 3 ∷ []))) []))))))

told : Bool
told = said_same (value_at_hit row 1 (some 3)) (done (73 ∷ [])) && said_same (value_at_hit row 1 none) absent

-- A new value, and a key cleared, by one store; a new record by two, of which the value's is the first.
stored : Bool
stored =
    numbers_same (apply (value_stored 1 0 5) (9 ∷ 7 ∷ 70 ∷ [])) (9 ∷ 7 ∷ 5 ∷ [])
    && (numbers_same (apply (key_cleared 1 0) (9 ∷ 7 ∷ 70 ∷ [])) (9 ∷ 0 ∷ 70 ∷ [])
    && (numbers_same (exec (record_stored 1 0 6 5) 1 (9 ∷ 0 ∷ 70 ∷ [])) (9 ∷ 0 ∷ 5 ∷ [])
    && numbers_same (exec (record_stored 1 0 6 5) 2 (9 ∷ 0 ∷ 70 ∷ [])) (9 ∷ 6 ∷ 5 ∷ [])))

pub sample : Bool
sample = addresses && (searched && (told && stored))

pub sample_passes : sample ≡ true
unfolding sample addresses finds searched told stored row first_in numbers_same following_same said_same apply exec first_hit is_empty value_at_hit
sample_passes = refl
