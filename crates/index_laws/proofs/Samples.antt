-- Further states, by the test of the known states, which antt computes: damaged arrays, cuts, stale records, the slot for a new
-- key, listings, and what else the sentences of documents 01 and 02 say and the table of known states does not show.
use Prim.Native.Nat.{ℕ, ◌+◌, ◌*◌}
use mathlib.Core.Path.{◌≡◌, refl}
use mathlib.Core.Bool.{Bool, true, false}
use mathlib.Core.List.{List, [], ◌∷◌, ◌++◌}
use Rattle.stores.specs.Lists.{each}
use Rattle.stores.specs.Store.{Store, store}
use Rattle.index_rules.specs.declared.Call.{Call}
use Rattle.index_rules.specs.declared.Call.TheVariants.{Format, Get, Put, Remove, Merge, Mend, List as ListCall, ListBlock}
use Rattle.index_rules.specs.Step.{lists}
use Rattle.replies.specs.Replies.{Said, done, absent, refused}
use Rattle.index_rules.proofs.Table.{Row, buckets, indexed, state, all_pass}
use Rattle.index_rules.proofs.States.{F, P, fill, stands, names, page, missing, pages, row, sixteen, P263}
use Rattle.index_rules.proofs.Rows.{word₀, present, entry₁, slot, two_blocks, damaged, listed_by}

-- ---- Damage to an index of D = 2, S = 4

-- Entry i of the directory of depth 2, which starts at word 4, names segment s with local depth L.
abbrev pub entry₂ : (i s L : ℕ) → Store
entry₂ i s L = store (4 + i) (s + 0x100000000 * L)

-- Four entries of depth 2.
abbrev pub four : (s₀ L₀ s₁ L₁ s₂ L₂ s₃ L₃ : ℕ) → List Store
four s₀ L₀ s₁ L₁ s₂ L₂ s₃ L₃ = present 2 ∷ entry₂ 0 s₀ L₀ ∷ entry₂ 1 s₁ L₁ ∷ entry₂ 2 s₂ L₂ ∷ entry₂ 3 s₃ L₃ ∷ []

-- Word 0 with the mark of before document 02's wish 4, and page 7.
abbrev pub old_store : List Store
old_store = store 0 0x5041474500040200 ∷ slot 28 7

-- n slots of segment 0 from 28 on with the pages of the keys `from`, `from` + `by` and so on.
abbrev pub slots : (from by n : ℕ) → List Store
slots from by n = each (λ i. slot (28 + i) (from + by * i)) n

-- Slots 28 to 43 with sixteen keys whose first directory bit is 0.
abbrev full_left : List Store
full_left = slots 7 32 16

-- Two blocks, in which n slots of segment 0 from 28 on have the keys `from`, `from` + 32 and so on.
abbrev left_slots : (from n : ℕ) → List Store
left_slots from n = two_blocks ++ slots from 32 n

-- With keys of the right block, which are stale in segment 0.
abbrev stale_left : (n : ℕ) → List Store
stale_left n = left_slots 23 n

-- Known state e: the split has moved eight pages to segment 1 and left their records in slots 29, 31, .. 43 of segment 0, where
-- 263 took the first; slots 44 to 47 are empty.
abbrev pub moved : List Call
moved = sixteen 4 ++ (P263 10000 ∷ [])

-- Sixteen pages in the window of key 7. The last eight, 16391 and on, have bit 14 and not bit 4: of their folded keys the first
-- directory bit is 1, of the keys as they stand it would be 0.
abbrev sheets : List Call
sheets = F 4 ∷ fill 7 32 8 ++ fill 16391 32 8

-- ---- Listings

-- A list.
abbrev listed : List Call → List Store → Said → (words : List ℕ) → (behind : ℕ) → Row
listed = listed_by ListCall

-- A list that is refused, into `room` words.
abbrev unlisted : List Call → List Store → (n room : ℕ) → Row
unlisted before damage n room = listed before damage (refused n) [] room

-- The words of n pages, of the keys `first`, `first + by` and so on.
abbrev pub page_words : (first by n : ℕ) → List ℕ
page_words first by n = each (λ i. (first + by * i) ∷ 10 * (first + by * i) ∷ []) n

-- An index of D = 3, S = 4 with blocks of depth 3, 3, 2 and 1, from the left, made by three splits: they name segments 0, 3, 2
-- and 1. Sixteen pages stand in the first, then two, one and two.
abbrev pub three_depths : List Call
three_depths = Format 3 4 10000 ∷ fill 7 128 8 ++ fill 1030 128 8 ++ (P 2053 ∷ P 67 ∷ P 449 ∷ P 37 ∷ P 146 ∷ P 25 ∷ [])

-- In an index of D = 3: entry i of the directory of depth 3, which starts at word 8, and the page of a key in slot j of segment s.
abbrev pub entry₃ : (i s L : ℕ) → Store
entry₃ i s L = store (8 + i) (s + 0x100000000 * L)

abbrev slot_of : (s j key : ℕ) → List Store
slot_of s j key = store (16 + 128 * s + 2 * j) key ∷ store (17 + 128 * s + 2 * j) (10 * key) ∷ []

-- Blocks of depth 1, 2, 3 and 3, from the left, that name segments 2, 0, 3 and 1. In segment 2 slot 12 has a key of the right half:
-- it is stale there.
abbrev pub mixed_orders : List Store
mixed_orders =
    word₀ 3 3 4 ∷ entry₃ 0 2 1 ∷ entry₃ 1 2 1 ∷ entry₃ 2 2 1 ∷ entry₃ 3 2 1 ∷ entry₃ 4 0 2 ∷ entry₃ 5 0 2 ∷ entry₃ 6 3 3
    ∷ entry₃ 7 1 3
    ∷ slot_of 2 4 1025 ++ slot_of 2 12 19 ++ slot_of 2 20 5 ++ slot_of 0 0 80 ++ slot_of 0 63 31 ++ slot_of 3 8 306 ++ slot_of 3 9 50 ++ slot_of 1 1 112

pub samples : List Row
unfolding each
samples =
    -- the search goes on behind an empty slot
    row 520 (F 4 ∷ P 7 ∷ P 23 ∷ Remove 7 10000 ∷ []) (Get 23) (done (230 ∷ [])) 0 [] [] (missing 7 ∷ [])
    -- a record outside its key's window is not found: a put makes a second one
    ∷ damaged (slot 0 7) (P 7) (done []) 2 (stands 8 7 ∷ stands 64 7 ∷ stands 65 70 ∷ []) [] (page 7 ∷ [])
    ∷ damaged (slot 44 7) (Get 7) absent 0 [] [] []
    -- keys are compared whole: 2^30 + 7 is not 7, and 2^30 is not 0
    ∷ row 520 (F 4 ∷ P 7 ∷ []) (P 1073741831) (done []) 2 (stands 64 7 ∷ stands 66 1073741831 ∷ stands 67 10737418310 ∷ []) [] (page 7 ∷ page 1073741831 ∷ [])
    ∷ listed (F 4 ∷ P 1073741824 ∷ []) [] (done (1 ∷ [])) (1073741824 ∷ 10737418240 ∷ []) 2
    -- the window goes on from bucket 15 to bucket 0
    ∷ row 520 (F 4 ∷ fill 15 16 4) (P 79) (done []) 2 (stands 8 79 ∷ stands 9 790 ∷ []) [] (pages 15 16 5)
    -- a put of a key that is there stores its value, and a remove clears the key word alone
    ∷ row 520 (F 4 ∷ P 7 ∷ []) (Put 7 71 1) (done []) 1 (stands 64 7 ∷ stands 65 71 ∷ []) [] []
    ∷ row 520 (F 4 ∷ P 7 ∷ []) (Remove 7 1) (done []) 1 (stands 64 0 ∷ stands 65 70 ∷ []) [] (missing 7 ∷ [])
    -- with no store allowed: a store that is due is cut off, what needs none is done or absent
    ∷ row 520 (F 4 ∷ P 7 ∷ []) (Put 7 70 0) (refused 7) 0 [] [] (page 7 ∷ [])
    ∷ row 520 (F 4 ∷ P 7 ∷ []) (Remove 7 0) (refused 7) 0 [] [] (page 7 ∷ [])
    ∷ row 520 (F 4 ∷ P 7 ∷ []) (Remove 23 0) absent 0 [] [] (page 7 ∷ [])
    ∷ row 520 (F 4 ∷ P 7 ∷ []) (Mend 0) (done []) 0 [] [] (page 7 ∷ [])
    -- a format cut before its last store leaves no index; a whole one takes any array
    ∷ row 520 [] (Format 2 4 66) (refused 7) 66 (stands 0 0 ∷ []) [] (record { key = 7; said = refused 1 } ∷ [])
    ∷ state 520 [] (store 0 5 ∷ store 1 5 ∷ store 64 7 ∷ []) (F 4) (done []) 67 (stands 1 0 ∷ stands 64 0 ∷ []) (names 0 0 ∷ []) (missing 7 ∷ [])
    -- the copy step stores value, then key
    ∷ row 520 (sixteen 4) (P263 33) (refused 7) 33 (stands 195 230 ∷ stands 194 0 ∷ []) [] []
    ∷ row 520 (sixteen 4) (P263 34) (refused 7) 34 (stands 195 230 ∷ stands 194 23 ∷ []) [] []
    -- a split leaves a stale record where it is, and clears its slot in the new segment
    ∷ damaged (present 1 ∷ entry₁ 0 0 1 ∷ entry₁ 1 1 1 ∷ slot 0 48 ++ (store 264 9 ∷ full_left)) (P 519) (done []) 81 (stands 8 48 ∷ stands 264 0 ∷ [])
    (names 0 2 ∷ names 2 2 ∷ names 1 1 ∷ names 1 1 ∷ [])
    (pages 7 32 17)
    -- a new key takes an empty slot also where only the last one of its window is empty; and where none is, the first stale one
    ∷ damaged (stale_left 15) (P 7) (done []) 2 (stands 64 23 ∷ stands 94 7 ∷ stands 95 70 ∷ []) [] (page 7 ∷ [])
    ∷ damaged (stale_left 16) (P 7) (done []) 2 (stands 64 7 ∷ stands 65 70 ∷ stands 66 55 ∷ []) [] (page 7 ∷ [])
    ∷ row 520 moved (P 519) (done []) 2 (stands 70 519 ∷ stands 74 87 ∷ []) [] (page 519 ∷ page 55 ∷ [])
    -- an empty slot beside a stale one of its bucket; and one in a later bucket, slot 44, before the stale ones of the key's own
    ∷ row 520 (moved ++ (Remove 103 10000 ∷ [])) (P 8) (done []) 2 (stands 74 87 ∷ stands 76 8 ∷ []) [] (page 8 ∷ page 87 ∷ missing 103 ∷ [])
    ∷ row 520 moved (P 8) (done []) 2 (stands 74 87 ∷ stands 96 8 ∷ stands 97 80 ∷ []) [] (page 8 ∷ page 87 ∷ [])
    -- the put that splits, of a key for the new segment: none of its slots is stale, and the first empty one is 28
    ∷ row 520 (sixteen 4) (P 279) (done []) 79 (stands 192 279 ∷ stands 193 2790 ∷ stands 66 23 ∷ []) (names 0 1 ∷ names 1 1 ∷ []) (pages 7 16 16 ++ (page 279 ∷ []))
    -- what the bench operators look for: after four puts with empty slots in their windows, the records of the moved pages 55, 87, ..
    -- 247 still stand where the pages were before the split; a fifth put finds no empty slot and takes the first of them in its window
    ∷ row 520 (moved ++ fill 8 32 3) (P 104) (done []) 2 (each (λ i. stands (70 + 4 * i) (55 + 32 * i) ∷ stands (71 + 4 * i) (550 + 320 * i) ∷ []) 7) []
    (pages 55 32 7 ++ pages 8 32 4)
    ∷ row 520 (moved ++ fill 8 32 4) (P 136) (done []) 2 (stands 70 55 ∷ stands 74 136 ∷ stands 78 119 ∷ []) [] (pages 55 32 7 ++ pages 8 32 5)
    -- the free segment is the smallest that no entry names
    ∷ damaged (present 1 ∷ entry₁ 0 0 1 ∷ entry₁ 1 2 1 ∷ full_left) (P 519) (done []) 81 [] (names 0 2 ∷ names 1 2 ∷ names 2 1 ∷ names 2 1 ∷ []) []
    -- mending gives each entry its leader's word, also where the entry to its left was wrong
    ∷ damaged (four 0 0 1 1 1 1 1 1) (Mend 10000) (done []) 3 [] (names 0 0 ∷ names 0 0 ∷ names 0 0 ∷ names 0 0 ∷ []) []
    ∷ damaged (four 0 0 1 1 1 1 1 1) (Mend 2) (refused 7) 2 [] (names 0 0 ∷ names 0 0 ∷ names 0 0 ∷ names 1 1 ∷ []) []
    -- 3 before 4: the scan goes to the end; a get looks at its own entry alone
    ∷ damaged (four 0 1 1 1 9 1 9 1) (P 7) (refused 3) 0 [] [] (missing 7 ∷ record { key = 23; said = refused 3 } ∷ [])
    ∷ damaged (four 0 1 1 1 9 1 9 1) (Remove 7 10000) (refused 3) 0 [] [] []
    ∷ damaged (four 0 1 1 1 9 1 9 1) (Mend 10000) (refused 3) 0 [] [] []
    ∷ unlisted (F 4 ∷ []) (four 0 1 1 1 9 1 9 1) 3 2
    -- 4 where the leaders are valid and an entry differs from its leader; 2 before 4
    ∷ damaged (four 0 1 1 1 2 1 2 1) (P 7) (refused 4) 0 [] [] []
    ∷ damaged (four 0 1 1 1 2 1 2 1) (Remove 7 10000) (refused 4) 0 [] [] []
    ∷ unlisted (F 4 ∷ []) (four 0 1 1 1 2 1 2 1) 4 2
    ∷ damaged (four 0 1 1 1 2 1 2 1) (P 0) (refused 2) 0 [] [] []
    ∷ damaged (four 0 1 1 1 2 1 2 1) (Remove 0 10000) (refused 2) 0 [] [] []
    -- a leader that is too deep, and one whose index is no multiple of its width
    ∷ damaged (store 1 0x100000000 ∷ []) (P 7) (refused 3) 0 [] [] (record { key = 7; said = refused 3 } ∷ [])
    ∷ damaged (four 0 2 1 1 1 1 2 2) (P 7) (refused 3) 0 [] [] []
    -- an entry that names segment S, the first that there is not; and one whose segment number or local depth has a high bit alone
    ∷ damaged (four 0 1 0 1 4 1 4 1) (P 7) (refused 3) 0 [] [] (missing 7 ∷ record { key = 23; said = refused 3 } ∷ [])
    ∷ damaged (store 1 0x10000 ∷ []) (P 7) (refused 3) 0 [] [] (record { key = 7; said = refused 3 } ∷ [])
    ∷ damaged (store 1 0x10000000000 ∷ []) (P 7) (refused 3) 0 [] [] (record { key = 7; said = refused 3 } ∷ [])
    -- 1 before 2: no mark; G above D; S above 2^D; D above 12; an array too short by one word; an array of no words
    ∷ damaged (store 0 0 ∷ []) (P 0) (refused 1) 0 [] [] (record { key = 0; said = refused 1 } ∷ [])
    ∷ damaged (word₀ 3 2 4 ∷ []) (P 7) (refused 1) 0 [] [] []
    ∷ damaged (word₀ 0 2 5 ∷ []) (Mend 10000) (refused 1) 0 [] [] []
    ∷ unlisted (F 4 ∷ []) (word₀ 0 13 4 ∷ []) 1 2
    -- S = 0; and G, D and S with a bit above those that a valid word 0 has
    ∷ damaged (word₀ 0 2 0 ∷ []) (P 7) (refused 1) 0 [] [] (record { key = 7; said = refused 1 } ∷ [])
    ∷ row 520 [] (F 0) (refused 8) 0 (stands 0 0 ∷ []) [] []
    ∷ damaged (word₀ 16 2 4 ∷ []) (P 7) (refused 1) 0 [] [] []
    ∷ damaged (word₀ 0 18 4 ∷ []) (P 7) (refused 1) 0 [] [] []
    ∷ damaged (word₀ 0 2 8196 ∷ []) (P 7) (refused 1) 0 [] [] []
    ∷ state 519 [] (word₀ 0 2 4 ∷ []) (Remove 7 10000) (refused 1) 0 [] [] []
    ∷ row 0 [] (P 7) (refused 1) 0 [] [] []
    ∷ row 0 [] (F 4) (refused 9) 0 [] [] []
    -- the old mark: 1 from every call but format, which makes a new store of it
    ∷ damaged old_store (Get 7) (refused 1) 0 [] [] []
    ∷ damaged old_store (P 7) (refused 1) 0 [] [] []
    ∷ damaged old_store (Remove 7 10000) (refused 1) 0 [] [] []
    ∷ damaged old_store (Mend 10000) (refused 1) 0 [] [] []
    ∷ unlisted (F 4 ∷ []) old_store 1 2
    ∷ damaged old_store (F 4) (done []) 67 (present 0 ∷ stands 64 0 ∷ []) (names 0 0 ∷ []) (missing 7 ∷ [])
    -- the folded key: 1031 and 1030 fold to one another, a key below 1,024 to itself, the largest to one with its ten highest bits
    ∷ buckets 1031 (6 ∷ 7 ∷ 8 ∷ 9 ∷ [])
    ∷ buckets 1030 (7 ∷ 8 ∷ 9 ∷ 10 ∷ [])
    ∷ buckets 1023 (15 ∷ 0 ∷ 1 ∷ 2 ∷ [])
    ∷ buckets 18446744073709551615 (0 ∷ 1 ∷ 2 ∷ 3 ∷ [])
    ∷ indexed 12 1023 4032
    ∷ indexed 12 18446744073709551615 0
    -- directory bits 0 and 1 are bits 4 and 5, each with the bit ten above
    ∷ indexed 2 16384 2
    ∷ indexed 2 32768 1
    ∷ indexed 2 16400 0
    -- seventeen sheets in steps of 1,024: the slots hold the keys themselves
    ∷ row 520 (F 4 ∷ fill 1024 1024 16) (P 17408) (done []) 2 (stands 8 16384 ∷ stands 16 1024 ∷ stands 18 17408 ∷ stands 128 15360 ∷ []) (names 0 0 ∷ []) (pages 1024 1024 17)
    -- stored keys are live by their folded keys: in the search for a slot, of which the window has none but stale ones
    ∷ damaged (left_slots 16391 16) (P 7) (done []) 2 (stands 64 7 ∷ stands 65 70 ∷ stands 66 16423 ∷ []) [] (page 7 ∷ [])
    -- in a split, which moves the last eight, and in the listing behind it
    ∷ row 520 sheets (P263 10000) (done []) 79 (stands 208 16391 ∷ stands 209 163910 ∷ stands 192 0 ∷ stands 80 263 ∷ []) (names 0 1 ∷ names 1 1 ∷ [])
    (page 263 ∷ pages 7 32 8 ++ pages 16391 32 8)
    ∷ listed (sheets ++ (P263 10000 ∷ [])) [] (done (17 ∷ [])) (page_words 7 32 9 ++ page_words 16391 32 8) 2
    -- a get of key 0
    ∷ row 520 (F 4 ∷ []) (Get 0) (refused 2) 0 [] [] []
    -- a list has every live record once, no stale one, needs two words for each, and leaves the words behind them
    ∷ listed (F 4 ∷ []) [] (done (0 ∷ [])) [] 0
    ∷ listed (F 4 ∷ []) [] (done (0 ∷ [])) [] 3
    ∷ listed (sixteen 4) [] (done (16 ∷ [])) (page_words 7 16 16) 0
    ∷ unlisted (sixteen 4) [] 10 31
    -- by rising slot number, which is not that of the keys: 263 stands in slot 29, between 7 and 39
    ∷ listed moved [] (done (17 ∷ [])) (7 ∷ 70 ∷ 263 ∷ 2630 ∷ page_words 39 32 7 ++ page_words 23 32 8) 2
    ∷ unlisted moved [] 10 33
    -- block by block from the left, which is not the order of the segment numbers
    ∷ listed three_depths [] (done (21 ∷ []))
    (page_words 7 128 8 ++ page_words 1030 128 8 ++ (449 ∷ 4490 ∷ 67 ∷ 670 ∷ 37 ∷ 370 ∷ 146 ∷ 1460 ∷ 25 ∷ 250 ∷ []))
    1
    ∷ listed (Format 3 4 10000 ∷ []) mixed_orders (done (7 ∷ []))
    (1025 ∷ 10250 ∷ 5 ∷ 50 ∷ 80 ∷ 800 ∷ 31 ∷ 310 ∷ 306 ∷ 3060 ∷ 50 ∷ 500 ∷ 112 ∷ 1120 ∷ [])
    2
    ∷ unlisted (Format 3 4 10000 ∷ []) mixed_orders 10 13
    ∷ []

pub samples_pass : all_pass samples ≡ true
unfolding all_pass samples
samples_pass = refl

-- Which calls list, by the order of document 01 and the wishes: format, get, put, remove, merge, mend, list, list of one block.
pub listing_calls : ◌≡◌ {A = List Bool}
    (lists (Format 2 4 0) ∷ lists (Get 7) ∷ lists (Put 7 70 0) ∷ lists (Remove 7 0) ∷ lists (Merge 7 0) ∷ lists (Mend 0) ∷ lists ListCall
    ∷ lists (ListBlock 0) ∷ [])
    (false ∷ false ∷ false ∷ false ∷ false ∷ false ∷ true ∷ true ∷ [])
listing_calls = refl
