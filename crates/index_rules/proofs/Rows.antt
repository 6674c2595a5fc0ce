-- One small row for each definition that an edit of the gate changes and no known state sees, by the test of the known states, which
-- antt computes; and what rows about damaged arrays are made of.
use Prim.Native.Nat.{ℕ, ◌+◌, ◌*◌}
use mathlib.Core.Option.{some}
use mathlib.Core.Path.{◌≡◌, refl}
use mathlib.Core.Bool.{true}
use mathlib.Core.List.{List, [], ◌∷◌, ◌++◌}
use lib.ListN.{length, replicate}
use Rattle.stores.specs.Store.{Store, store}
use Rattle.replies.specs.Replies.{Said, done, listed}
use Rattle.index_rules.specs.declared.Call.{Call}
use Rattle.index_rules.specs.declared.Call.TheVariants.{Put, Merge, List as ListCall, ListBlock}
use Rattle.index_rules.proofs.Table.{Names, Lookup, Row, state, listing, all_pass}
use Rattle.index_rules.proofs.States.{F, P, stands, names, page, missing, row}

-- ---- Damage to an index of D = 2, S = 4

-- Word 0 with these G, D and S; and with present depth G.
abbrev pub word₀ : (G D S : ℕ) → Store
word₀ G D S = store 0 (0x5041474600000000 + 0x10000 * S + 0x100 * D + G)

abbrev pub present : (G : ℕ) → Store
present G = word₀ G 2 4

-- Entry i of the directory of depth 1, which starts at word 2, names segment s with local depth L.
abbrev pub entry₁ : (i s L : ℕ) → Store
entry₁ i s L = store (2 + i) (s + 0x100000000 * L)

-- Two blocks of depth 1, which name segments 0 and 1.
abbrev pub two_blocks : List Store
two_blocks = present 1 ∷ entry₁ 0 0 1 ∷ entry₁ 1 1 1 ∷ []

-- The page of a key in slot j of segment 0, which starts at word 8.
abbrev pub slot : (j key : ℕ) → List Store
slot j key = store (8 + 2 * j) key ∷ store (9 + 2 * j) (10 * key) ∷ []

-- The same in segment 1, which starts at word 136.
abbrev right_slot : (j key : ℕ) → List Store
right_slot j key = store (136 + 2 * j) key ∷ store (137 + 2 * j) (10 * key) ∷ []

-- A call on an index with damage.
abbrev pub damaged : List Store → Call → Said → (made : ℕ) → List Store → List Names → List Lookup → Row
damaged damage call said made words entries lookups =
    state 520 (F 4 ∷ []) damage call said made words entries lookups

-- A listing into words that are 5 each: it is to leave `words` in front, and behind them as many words as they were, `behind`.
abbrev pub listed_by : Call → List Call → List Store → Said → (words : List ℕ) → (behind : ℕ) → Row
listed_by call before damage said words behind =
    listing 528 before damage call (replicate (length words + behind) 5) said (words ++ replicate behind 5)

-- ---- The rows

-- Page 7 on the left; pages 23 and 16391 on the right, the second by the first directory bit of its folded key.
abbrev three_pages : List Store
three_pages = two_blocks ++ slot 28 7 ++ right_slot 28 23 ++ right_slot 29 16391

pub gate_rows : List Row
gate_rows =
    -- a put looks at no value: 0 is one as any other
    row 520 (F 4 ∷ []) (Put 7 0 2) (done []) 2 (stands 64 7 ∷ stands 65 0 ∷ []) [] (record { key = 7; said = done (0 ∷ []) } ∷ [])
    -- a new key takes an empty slot behind a stale one
    ∷ damaged (two_blocks ++ slot 28 23) (P 7) (done []) 2 (stands 64 23 ∷ stands 65 230 ∷ stands 66 7 ∷ stands 67 70 ∷ []) [] (page 7 ∷ [])
    -- blocks are listed from the left, records that are live by their folded keys
    ∷ listed_by ListCall (F 4 ∷ []) three_pages (done (3 ∷ [])) (7 ∷ 70 ∷ 23 ∷ 230 ∷ 16391 ∷ 163910 ∷ []) 1
    -- the right block follows the left one, and is the last
    ∷ listed_by (ListBlock 0) (F 4 ∷ []) three_pages (listed 1 (some 1)) (7 ∷ 70 ∷ []) 1
    -- a merge clears a stale key of the left segment
    ∷ damaged (two_blocks ++ slot 28 23) (Merge 7 10000) (done []) 3 (stands 64 0 ∷ stands 65 230 ∷ []) (names 0 0 ∷ names 0 0 ∷ []) (missing 23 ∷ [])
    ∷ []

pub gate_rows_holds : all_pass gate_rows ≡ true
unfolding all_pass gate_rows
gate_rows_holds = refl
