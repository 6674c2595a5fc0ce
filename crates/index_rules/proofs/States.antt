-- Document 01, 'Known index states', a to j, those with word 0 and with key 1031 as document 02's wish 4 makes them: one table, one
-- test, one proof. antt computes the test of each row.
use Prim.Native.Nat.{ℕ, ◌+◌, ◌*◌}
use mathlib.Core.Path.{◌≡◌, refl}
use mathlib.Core.Bool.{true}
use mathlib.Core.List.{List, [], ◌∷◌, ◌++◌}
use Rattle.stores.specs.Lists.{each}
use Rattle.stores.specs.Store.{Store, store}
use Rattle.index_rules.specs.declared.Call.{Call}
use Rattle.index_rules.specs.declared.Call.TheVariants.{Format, Put, Mend}
use Rattle.replies.specs.Replies.{Said, done, absent, refused}
use Rattle.index_rules.proofs.Table.{Names, Lookup, Row, buckets, indexed, state, all_pass}

-- ---- What the rows are made of. All use D = 2 and, where not given, an allowance of 10,000; a page's value is ten times its key.

-- A format with S segments.
abbrev pub F : (S : ℕ) → Call
F S = Format 2 S 10000

-- A put of a page.
abbrev pub P : (key : ℕ) → Call
P key = Put key (10 * key) 10000

-- n puts, of the keys `first`, `first + step` and so on.
abbrev pub fill : (first step n : ℕ) → List Call
fill first step n = each (λ i. P (first + step * i) ∷ []) n

-- Word w stands at address i.
abbrev pub stands : (i w : ℕ) → Store
stands i w = store i w

-- An entry names segment s, with local depth L.
abbrev pub names : (s L : ℕ) → Names
names s L = record { segment = s; depth = L }

-- A page is found with its value; a key is absent.
abbrev pub page : (key : ℕ) → Lookup
page key = record { key = key; said = done (10 * key ∷ []) }

abbrev pub missing : (key : ℕ) → Lookup
missing key = record { key = key; said = absent }

-- n pages, of the keys `first`, `first + step` and so on.
abbrev pub pages : (first step n : ℕ) → List Lookup
pages first step n = each (λ i. page (first + step * i) ∷ []) n

-- A row: the words lent, the calls before, the call, what it says, the stores made, and what is to be seen afterwards.
abbrev pub row : (lent : ℕ) → List Call → Call → Said → (made : ℕ) → List Store → List Names → List Lookup → Row
row lent before call said made words entries lookups = state lent before [] call said made words entries lookups

-- The sixteen keys of states e to h, and those of state i, put into an index of S segments.
abbrev pub sixteen : (S : ℕ) → List Call
sixteen S = F S ∷ fill 7 16 16

abbrev pub sixteen_apart : (S : ℕ) → List Call
sixteen_apart S = F S ∷ fill 7 64 16

-- The put that splits in states e to h, and one that does in state i, with an allowance.
abbrev pub P263 : (allowance : ℕ) → Call
P263 allowance = Put 263 2630 allowance

abbrev pub P1030 : (allowance : ℕ) → Call
P1030 allowance = Put 1030 10300 allowance

pub known_states : List Row
unfolding each
known_states =
    -- a: word 0 after format; 519 words are too short, 520 are enough
    row 520 [] (F 4) (done []) 67 (stands 0 0x5041474600040200 ∷ []) (names 0 0 ∷ []) []
    ∷ row 519 [] (F 4) (refused 9) 0 (stands 0 0 ∷ []) [] []
    -- b: value, then key
    ∷ row 520 (F 4 ∷ []) (P 7) (done []) 2 (stands 65 70 ∷ stands 64 7 ∷ []) [] (page 7 ∷ [])
    ∷ row 520 (F 4 ∷ []) (Put 7 70 1) (refused 7) 1 (stands 65 70 ∷ stands 64 0 ∷ []) [] (missing 7 ∷ [])
    -- c, d: the window of key 15; four indices at depth 2
    ∷ buckets 15 (15 ∷ 0 ∷ 1 ∷ 2 ∷ [])
    ∷ indexed 2 7 0
    ∷ indexed 2 39 1
    ∷ indexed 2 23 2
    ∷ indexed 2 55 3
    -- e: sixteen keys fill slots 28 to 43; then 3 + 72 + 2 + 2 stores
    ∷ row 520 (F 4 ∷ fill 7 16 15) (P 247) (done []) 2 (each (λ i. stands (64 + 2 * i) (7 + 16 * i) ∷ []) 16) (names 0 0 ∷ []) (pages 7 16 16)
    ∷ row 520 (sixteen 4) (P263 3) (refused 7) 3 (stands 0 0x5041474600040201 ∷ stands 194 0 ∷ []) (names 0 0 ∷ names 0 0 ∷ []) (missing 263 ∷ [])
    ∷ row 520 (sixteen 4) (P263 75) (refused 7) 75 (each (λ i. stands (194 + 4 * i) (23 + 32 * i) ∷ []) 8) (names 0 0 ∷ names 0 0 ∷ []) (missing 263 ∷ [])
    ∷ row 520 (sixteen 4) (P263 77) (refused 7) 77 (stands 66 23 ∷ []) (names 0 1 ∷ names 1 1 ∷ []) (missing 263 ∷ pages 7 16 16)
    ∷ row 520 (sixteen 4) (P263 10000) (done []) 79 (stands 66 263 ∷ stands 67 2630 ∷ []) (names 0 1 ∷ names 1 1 ∷ []) (pages 7 16 17)
    ∷ row 520 (sixteen 4) (P263 79) (done []) 79 (stands 66 263 ∷ []) [] (page 263 ∷ [])
    -- f: the last store is the key's
    ∷ row 520 (sixteen 4) (P263 78) (refused 7) 78 (stands 66 23 ∷ stands 67 2630 ∷ []) [] (missing 263 ∷ [])
    -- g: a split cut between its entries; put gives 4; mend makes 1 store, and rolls the split back
    ∷ row 520 (sixteen 4) (P263 76) (refused 7) 76 [] (names 0 0 ∷ names 1 1 ∷ []) []
    ∷ row 520 (sixteen 4 ++ (P263 76 ∷ [])) (P 263) (refused 4) 0 [] (names 0 0 ∷ names 1 1 ∷ []) []
    ∷ row 520 (sixteen 4 ++ (P263 76 ∷ [])) (Mend 10000) (done []) 1 [] (names 0 0 ∷ names 0 0 ∷ []) (missing 263 ∷ pages 7 16 16)
    -- h: no free segment
    ∷ row 136 (sixteen 1) (P 263) (refused 6) 0 (stands 0 0x5041474600010200 ∷ []) (names 0 0 ∷ []) (missing 263 ∷ pages 7 16 16)
    -- i: 1031 folds to 1030, whose window has empty slots
    ∷ row 520 (sixteen_apart 4) (P 1031) (done []) 2 (stands 56 1031 ∷ stands 57 10310 ∷ []) (names 0 0 ∷ []) (page 1031 ∷ pages 7 64 16)
    ∷ row 392 (sixteen_apart 3) (P 1031) (done []) 2 (stands 56 1031 ∷ []) (names 0 0 ∷ []) (page 1031 ∷ pages 7 64 16)
    ∷ row 264 (sixteen_apart 2) (P 1031) (done []) 2 (stands 56 1031 ∷ []) (names 0 0 ∷ []) (page 1031 ∷ pages 7 64 16)
    -- and 1030 folds to 1031: too deep after two splits; with too few segments 6; cut off before either is due
    ∷ row 520 (sixteen_apart 4) (P 1030) (refused 5) 140 (stands 0 0x5041474600040202 ∷ []) (names 0 2 ∷ names 2 2 ∷ names 1 1 ∷ names 1 1 ∷ []) (missing 1030 ∷ pages 7 64 16)
    ∷ row 520 (sixteen_apart 4) (P1030 139) (refused 7) 139 [] [] []
    ∷ row 520 (sixteen_apart 4) (P1030 140) (refused 5) 140 [] [] []
    ∷ row 392 (sixteen_apart 3) (P 1030) (refused 5) 140 [] [] (missing 1030 ∷ pages 7 64 16)
    ∷ row 264 (sixteen_apart 2) (P 1030) (refused 6) 69 [] (names 0 1 ∷ names 1 1 ∷ []) (missing 1030 ∷ pages 7 64 16)
    ∷ row 264 (sixteen_apart 2) (P1030 68) (refused 7) 68 [] [] []
    ∷ row 264 (sixteen_apart 2) (P1030 69) (refused 6) 69 [] [] []
    -- j: three bad shapes
    ∷ row 520 [] (Format 1 4 10000) (refused 8) 0 (stands 0 0 ∷ []) [] []
    ∷ row 520 [] (Format 13 4 10000) (refused 8) 0 (stands 0 0 ∷ []) [] []
    ∷ row 520 [] (F 5) (refused 8) 0 (stands 0 0 ∷ []) [] []
    ∷ []

pub known_states_holds : all_pass known_states ≡ true
unfolding all_pass known_states
known_states_holds = refl
