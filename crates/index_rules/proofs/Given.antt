-- Document 01's table of refusals by its rows, and those that document 02 adds: which of format, get, put, remove, merge, mend, list and list of one
-- block give each number. antt computes them from the definition, which goes by the calls. 11 to 13 are the board's, and 17 to 20
-- those of later wishes: no call of the index gives them.
use Prim.Native.Nat.{ℕ}
use mathlib.Core.Path.{◌≡◌, refl}
use mathlib.Core.Bool.{Bool, true, false}
use mathlib.Core.List.{List, [], ◌∷◌}
use Rattle.index_rules.specs.declared.Call.TheVariants.{Format, Get, Put, Remove, Merge, Mend, List as ListCall, ListBlock}
use Rattle.index_rules.specs.Given.{refusals_of, has, gives}

-- Whether each call gives the number n.
givers : (n : ℕ) → List Bool
givers n =
    gives (Format 0 0 0) n ∷ gives (Get 0) n ∷ gives (Put 0 0 0) n ∷ gives (Remove 0 0) n ∷ gives (Merge 0 0) n ∷ gives (Mend 0) n ∷ gives ListCall n
    ∷ gives (ListBlock 0) n ∷ []

pub table : List (List Bool)
table =
    givers 1 ∷ givers 2 ∷ givers 3 ∷ givers 4 ∷ givers 5 ∷ givers 6 ∷ givers 7 ∷ givers 8 ∷ givers 9 ∷ givers 10 ∷ givers 11 ∷ givers 12
    ∷ givers 13 ∷ givers 14 ∷ givers 15 ∷ givers 16 ∷ givers 17 ∷ givers 18 ∷ givers 19 ∷ givers 20 ∷ []

pub table_is : table
    ≡ (false ∷ true ∷ true ∷ true ∷ true ∷ true ∷ true ∷ true ∷ [])
    ∷ (false ∷ true ∷ true ∷ true ∷ true ∷ false ∷ false ∷ false ∷ [])
    ∷ (false ∷ true ∷ true ∷ true ∷ true ∷ true ∷ true ∷ true ∷ [])
    ∷ (false ∷ false ∷ true ∷ true ∷ true ∷ false ∷ true ∷ true ∷ [])
    ∷ (false ∷ false ∷ true ∷ false ∷ false ∷ false ∷ false ∷ false ∷ [])
    ∷ (false ∷ false ∷ true ∷ false ∷ false ∷ false ∷ false ∷ false ∷ [])
    ∷ (true ∷ false ∷ true ∷ true ∷ true ∷ true ∷ false ∷ false ∷ [])
    ∷ (true ∷ false ∷ false ∷ false ∷ false ∷ false ∷ false ∷ false ∷ [])
    ∷ (true ∷ false ∷ false ∷ false ∷ false ∷ false ∷ false ∷ false ∷ [])
    ∷ (false ∷ false ∷ false ∷ false ∷ false ∷ false ∷ true ∷ true ∷ [])
    ∷ (false ∷ false ∷ false ∷ false ∷ false ∷ false ∷ false ∷ false ∷ [])
    ∷ (false ∷ false ∷ false ∷ false ∷ false ∷ false ∷ false ∷ false ∷ [])
    ∷ (false ∷ false ∷ false ∷ false ∷ false ∷ false ∷ false ∷ false ∷ [])
    ∷ (false ∷ false ∷ false ∷ false ∷ true ∷ false ∷ false ∷ false ∷ [])
    ∷ (false ∷ false ∷ false ∷ false ∷ true ∷ false ∷ false ∷ false ∷ [])
    ∷ (false ∷ false ∷ false ∷ false ∷ false ∷ false ∷ false ∷ true ∷ [])
    ∷ (false ∷ false ∷ false ∷ false ∷ false ∷ false ∷ false ∷ false ∷ [])
    ∷ (false ∷ false ∷ false ∷ false ∷ false ∷ false ∷ false ∷ false ∷ [])
    ∷ (false ∷ false ∷ false ∷ false ∷ false ∷ false ∷ false ∷ false ∷ [])
    ∷ (false ∷ false ∷ false ∷ false ∷ false ∷ false ∷ false ∷ false ∷ [])
    ∷ []
unfolding table givers gives refusals_of has
table_is = refl
