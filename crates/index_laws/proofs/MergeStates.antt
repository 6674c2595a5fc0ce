-- States of merges (document 02, wish 6), by the test of the known states, which antt computes.
use Prim.Native.Nat.{ℕ, ◌+◌, ◌*◌}
use mathlib.Core.Path.{◌≡◌, refl}
use mathlib.Core.Bool.{true}
use mathlib.Core.List.{List, [], ◌∷◌, ◌++◌}
use Rattle.stores.specs.Lists.{each}
use Rattle.stores.specs.Store.{Store, store}
use Rattle.index_rules.specs.declared.Call.{Call}
use Rattle.index_rules.specs.declared.Call.TheVariants.{Remove, Merge, Mend}
use Rattle.replies.specs.Replies.{Said, done, refused}
use Rattle.index_rules.proofs.Table.{Names, Lookup, Row, behind, all_pass}
use Rattle.index_rules.proofs.States.{F, P, stands, names, page, missing, pages, row}
use Rattle.index_rules.proofs.Rows.{present, entry₁, slot, damaged}
use Rattle.index_laws.proofs.Samples.{four, old_store, moved}

-- A merge with all its stores allowed.
abbrev M : (key : ℕ) → Call
M key = Merge key 10000

-- The page of a key in slot j of segment s, where D = 2.
abbrev slot_in : (s j key : ℕ) → List Store
slot_in s j key = store (8 + 128 * s + 2 * j) key ∷ store (9 + 128 * s + 2 * j) (10 * key) ∷ []

-- Known state e behind a remove of 263: segment 0 has pages of the left block in slots 28, 30, .. 42 and stale records in slots 31, 33, .. 43;
-- slot 29 is empty. Segment 1 has pages 23, 55, .. 247 in slots 29, 31, .. 43.
abbrev pub room_made : List Store
room_made =
    present 1 ∷ entry₁ 0 0 1 ∷ entry₁ 1 1 1 ∷ slot 28 7 ++ (store 66 0 ∷ store 67 2630 ∷ each (λ i. slot (30 + i) (39 + 16 * i)) 14)
    ++ each (λ i. slot_in 1 (29 + 2 * i) (23 + 32 * i)) 8

-- A merge on key 7 there, with an allowance; and a call behind it.
abbrev cut_at : (allowance : ℕ) → Said → (made : ℕ) → List Store → List Names → Row
cut_at allowance said made words entries = damaged room_made (Merge 7 allowance) said made words entries (missing 263 ∷ pages 7 16 16)

abbrev behind_cut : (allowance : ℕ) → Call → Said → (made : ℕ) → List Names → List Lookup → Row
behind_cut allowance call said made entries lookups =
    behind 520 (F 4 ∷ []) room_made (Merge 7 allowance ∷ []) call said made [] entries lookups

-- Two blocks of depth 1 in a directory of depth 2, with one page in the right one.
abbrev wide : List Store
wide = four 0 1 0 1 1 1 1 1 ++ slot_in 1 28 23

abbrev wide_cut : (allowance made : ℕ) → List Names → Row
wide_cut allowance made entries = behind 520 (F 4 ∷ []) wide (Merge 7 allowance ∷ []) (Mend 10000) (done []) made [] entries (page 23 ∷ [])

-- A block of depth 1, and two of depth 2 beside it.
abbrev pub deeper : List Store
deeper = four 0 1 0 1 1 2 2 2 ++ slot_in 0 28 7 ++ slot_in 1 28 23 ++ slot_in 2 29 55

-- Two blocks with stale records on both sides: in segment 0 keys 23 and 55 of the right block, in segment 1 key 39 of the left one. Slot 28
-- is live on the left, 30 and 32 on the right, 29 and 31 on no side.
abbrev stale : List Store
stale =
    present 1 ∷ entry₁ 0 0 1 ∷ entry₁ 1 1 1
    ∷ slot_in 0 28 7 ++ slot_in 0 29 23 ++ slot_in 0 30 55 ++ slot_in 1 28 71 ++ slot_in 1 30 87 ++ slot_in 1 31 39 ++ slot_in 1 32 119

-- Both halves name segment 0: 7 is live in the left one, 39 in the right one, 23 in neither.
abbrev one_segment : List Store
one_segment = four 0 2 0 2 1 2 2 2 ++ slot_in 0 28 7 ++ slot_in 0 29 39 ++ slot_in 0 30 23

pub merge_states : List Row
unfolding each
merge_states =
    -- behind state e slot 29 is live on both sides: 263 on the left, 23 on the right
    row 520 moved (M 7) (refused 15) 0 [] (names 0 1 ∷ names 1 1 ∷ []) (pages 7 16 17)
    -- a remove of 263 makes room: eight live records of the right, two stores each, and two entries; or one of 23, with seven
    ∷ row 520 (moved ++ (Remove 263 10000 ∷ [])) (Mend 10000) (done []) 0 room_made [] []
    ∷ row 520 (moved ++ (Remove 263 10000 ∷ [])) (M 7) (done []) 18 (stands 66 23 ∷ stands 67 230 ∷ [])
    (names 0 0 ∷ names 0 0 ∷ []) (missing 263 ∷ pages 7 16 16)
    ∷ row 520 (moved ++ (Remove 23 10000 ∷ [])) (M 7) (done []) 16 (stands 66 263 ∷ stands 67 2630 ∷ []) (names 0 0 ∷ names 0 0 ∷ [])
    (missing 23 ∷ page 7 ∷ pages 39 16 15)
    -- the key is on the left, on the right, or not stored
    ∷ cut_at 10000 (done []) 18 (stands 66 23 ∷ stands 67 230 ∷ []) (names 0 0 ∷ names 0 0 ∷ [])
    ∷ damaged room_made (M 23) (done []) 18 (stands 66 23 ∷ stands 67 230 ∷ []) (names 0 0 ∷ names 0 0 ∷ []) (missing 263 ∷ pages 7 16 16)
    ∷ damaged room_made (M 1) (done []) 18 (stands 66 23 ∷ []) (names 0 0 ∷ names 0 0 ∷ []) (pages 7 16 16)
    -- value, then key; the store of the first entry is the seventeenth
    ∷ cut_at 0 (refused 7) 0 (stands 66 0 ∷ stands 67 2630 ∷ []) (names 0 1 ∷ names 1 1 ∷ [])
    ∷ cut_at 1 (refused 7) 1 (stands 66 0 ∷ stands 67 230 ∷ []) (names 0 1 ∷ names 1 1 ∷ [])
    ∷ cut_at 2 (refused 7) 2 (stands 66 23 ∷ stands 67 230 ∷ []) (names 0 1 ∷ names 1 1 ∷ [])
    ∷ cut_at 15 (refused 7) 15 [] (names 0 1 ∷ names 1 1 ∷ [])
    ∷ cut_at 16 (refused 7) 16 [] (names 0 1 ∷ names 1 1 ∷ [])
    ∷ cut_at 17 (refused 7) 17 [] (names 0 0 ∷ names 1 1 ∷ [])
    ∷ cut_at 18 (done []) 18 [] (names 0 0 ∷ names 0 0 ∷ [])
    -- the mend behind each: before the first entry it has nothing to do, from it on it finishes the merge
    ∷ behind_cut 15 (Mend 0) (done []) 0 (names 0 1 ∷ names 1 1 ∷ []) (missing 263 ∷ pages 7 16 16)
    ∷ behind_cut 16 (Mend 0) (done []) 0 (names 0 1 ∷ names 1 1 ∷ []) (missing 263 ∷ pages 7 16 16)
    ∷ behind_cut 17 (Mend 0) (refused 7) 0 (names 0 0 ∷ names 1 1 ∷ []) (missing 263 ∷ pages 7 16 16)
    ∷ behind_cut 17 (Mend 1) (done []) 1 (names 0 0 ∷ names 0 0 ∷ []) (missing 263 ∷ pages 7 16 16)
    ∷ behind_cut 18 (Mend 0) (done []) 0 (names 0 0 ∷ names 0 0 ∷ []) (missing 263 ∷ pages 7 16 16)
    -- until then put, remove and merge say 4; a merge cut before its first entry can be made again
    ∷ behind_cut 17 (P 263) (refused 4) 0 [] []
    ∷ behind_cut 17 (Remove 7 10000) (refused 4) 0 [] []
    ∷ behind_cut 17 (M 7) (refused 4) 0 [] []
    ∷ behind_cut 16 (M 7) (done []) 18 (names 0 0 ∷ names 0 0 ∷ []) (missing 263 ∷ pages 7 16 16)
    -- the directory keeps its depth, and the put that splits again takes segment 1: 72 + 2 + 2 stores
    ∷ behind_cut 18 (P 263) (done []) 76 (names 0 1 ∷ names 1 1 ∷ []) (pages 7 16 17)
    -- 14 where L is 0, in a directory of depth 0 and of depth 1
    ∷ row 520 (F 4 ∷ []) (M 7) (refused 14) 0 [] (names 0 0 ∷ []) []
    ∷ behind_cut 18 (M 7) (refused 14) 0 (names 0 0 ∷ names 0 0 ∷ []) []
    -- 14 where the buddy is deeper, also with a slot live on both sides; the two deeper blocks merge, by the key of either
    ∷ damaged deeper (M 7) (refused 14) 0 [] (names 0 1 ∷ names 0 1 ∷ names 1 2 ∷ names 2 2 ∷ []) []
    ∷ damaged deeper (M 23) (done []) 4 (stands 194 55 ∷ stands 195 550 ∷ [])
    (names 0 1 ∷ names 0 1 ∷ names 1 1 ∷ names 1 1 ∷ []) (page 7 ∷ page 23 ∷ page 55 ∷ [])
    ∷ damaged deeper (M 55) (done []) 4 (stands 194 55 ∷ stands 195 550 ∷ [])
    (names 0 1 ∷ names 0 1 ∷ names 1 1 ∷ names 1 1 ∷ []) (page 7 ∷ page 23 ∷ page 55 ∷ [])
    -- a slot that is live on one side alone is no hindrance; the last slot, live on both sides, is
    ∷ damaged (present 1 ∷ entry₁ 0 0 1 ∷ entry₁ 1 1 1 ∷ slot_in 0 28 7) (M 7) (done []) 2 (stands 64 7 ∷ []) (names 0 0 ∷ names 0 0 ∷ []) (page 7 ∷ [])
    ∷ damaged (present 1 ∷ entry₁ 0 0 1 ∷ entry₁ 1 1 1 ∷ slot_in 1 28 23) (M 7) (done []) 4 (stands 64 23 ∷ stands 65 230 ∷ [])
    (names 0 0 ∷ names 0 0 ∷ []) (page 23 ∷ [])
    ∷ damaged (present 1 ∷ entry₁ 0 0 1 ∷ entry₁ 1 1 1 ∷ slot_in 0 63 15 ++ slot_in 1 63 31) (M 7) (refused 15) 0 [] [] (page 15 ∷ page 31 ∷ [])
    -- a live record of the right in the last slot
    ∷ damaged (present 1 ∷ entry₁ 0 0 1 ∷ entry₁ 1 1 1 ∷ slot_in 1 63 31) (M 7) (done []) 4 (stands 134 31 ∷ stands 135 310 ∷ [])
    (names 0 0 ∷ names 0 0 ∷ []) (page 31 ∷ [])
    -- stale keys of the left go where no live record takes their slot, those of the right do not come along: 23, 55, 71 and 39 stay absent
    ∷ damaged stale (M 7) (done []) 7
    (stands 64 7 ∷ stands 66 0 ∷ stands 68 87 ∷ stands 69 870 ∷ stands 70 0 ∷ stands 71 0 ∷ stands 72 119 ∷ stands 73 1190 ∷ []) (names 0 0 ∷ names 0 0 ∷ [])
    (page 7 ∷ page 87 ∷ page 119 ∷ missing 23 ∷ missing 55 ∷ missing 71 ∷ missing 39 ∷ [])
    ∷ damaged stale (Merge 7 1) (refused 7) 1 (stands 66 0 ∷ stands 67 230 ∷ stands 69 550 ∷ []) [] []
    -- four entries, from left to right, and the mend behind each cut
    ∷ damaged wide (Merge 7 3) (refused 7) 3 [] (names 0 0 ∷ names 0 1 ∷ names 1 1 ∷ names 1 1 ∷ []) (page 23 ∷ [])
    ∷ damaged wide (Merge 7 5) (refused 7) 5 [] (names 0 0 ∷ names 0 0 ∷ names 0 0 ∷ names 1 1 ∷ []) (page 23 ∷ [])
    ∷ damaged wide (M 7) (done []) 6 [] (names 0 0 ∷ names 0 0 ∷ names 0 0 ∷ names 0 0 ∷ []) (page 23 ∷ [])
    ∷ wide_cut 2 0 (names 0 1 ∷ names 0 1 ∷ names 1 1 ∷ names 1 1 ∷ [])
    ∷ wide_cut 3 3 (names 0 0 ∷ names 0 0 ∷ names 0 0 ∷ names 0 0 ∷ [])
    ∷ wide_cut 4 2 (names 0 0 ∷ names 0 0 ∷ names 0 0 ∷ names 0 0 ∷ [])
    ∷ wide_cut 5 1 (names 0 0 ∷ names 0 0 ∷ names 0 0 ∷ names 0 0 ∷ [])
    -- the left segment stays, whatever the numbers are: segment 3 takes the records of segment 1
    ∷ damaged (present 1 ∷ entry₁ 0 3 1 ∷ entry₁ 1 1 1 ∷ slot_in 1 28 23) (M 23) (done []) 4 (stands 448 23 ∷ stands 449 230 ∷ stands 192 23 ∷ [])
    (names 3 0 ∷ names 3 0 ∷ []) (page 23 ∷ [])
    -- one segment on both sides, in a damaged array: value and key are stored where they stand, the stale key is cleared
    ∷ damaged one_segment (M 7) (done []) 5 (stands 64 7 ∷ stands 66 39 ∷ stands 67 390 ∷ stands 68 0 ∷ [])
    (names 0 1 ∷ names 0 1 ∷ names 1 2 ∷ names 2 2 ∷ []) (page 7 ∷ page 39 ∷ [])
    ∷ damaged one_segment (Merge 39 2) (refused 7) 2 (stands 68 23 ∷ []) (names 0 2 ∷ names 0 2 ∷ []) []
    -- 1, 2, 3 and 4 come first, in that order: 4 also where L is 0
    ∷ damaged (store 0 0 ∷ []) (M 0) (refused 1) 0 [] [] []
    ∷ damaged old_store (M 7) (refused 1) 0 [] [] []
    ∷ damaged (four 0 0 1 1 1 1 1 1) (M 0) (refused 2) 0 [] [] []
    ∷ damaged (four 0 1 0 1 9 1 9 1) (M 7) (refused 3) 0 [] [] []
    ∷ damaged (four 0 0 1 1 1 1 1 1) (M 7) (refused 4) 0 [] [] []
    ∷ []

pub merge_states_holds : all_pass merge_states ≡ true
unfolding all_pass merge_states
merge_states_holds = refl
