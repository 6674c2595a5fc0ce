-- States of listings of one block (document 02, wish 7), by the test of the known states, which antt computes.
use Prim.Native.Nat.{ℕ, ◌+◌}
use mathlib.Core.Path.{◌≡◌, refl}
use mathlib.Core.Bool.{true}
use mathlib.Core.List.{List, [], ◌∷◌, ◌++◌}
use mathlib.Core.Option.{Option, none, some}
use Rattle.stores.specs.Lists.{each}
use Rattle.stores.specs.Store.{Store, store}
use Rattle.replies.specs.Replies.{listed, refused}
use Rattle.index_rules.specs.declared.Call.{Call}
use Rattle.index_rules.specs.declared.Call.TheVariants.{Format, ListBlock}
use Rattle.index_rules.proofs.Table.{Row, all_pass}
use Rattle.index_rules.proofs.States.{F, P263, sixteen}
use Rattle.index_rules.proofs.Rows.{two_blocks, slot, listed_by}
use Rattle.index_laws.proofs.Compared.{Compared, gathers, all_agree}
use Rattle.index_laws.proofs.Samples.{entry₃, old_store, moved, page_words, three_depths, mixed_orders}

-- The block at index i lists these words, and this follows; `behind` words more are lent, which stay.
abbrev lists : List Call → List Store → (i count : ℕ) → Option ℕ → (words : List ℕ) → (behind : ℕ) → Row
lists before damage i count f words behind = listed_by (ListBlock i) before damage (listed count f) words behind

-- The call with index i and `room` words is refused with n.
abbrev refuses : List Call → List Store → (i room n : ℕ) → Row
refuses before damage i room n = listed_by (ListBlock i) before damage (refused n) [] room

-- An index of D = 3, S = 4 with blocks of depth 1, 2, 3 and 3, from the left; and further damage to it.
abbrev three : List Call
three = Format 3 4 10000 ∷ []

abbrev mixed_with : List Store → List Store
mixed_with damage = mixed_orders ++ damage

-- Two blocks of depth 1: page 7 in the left one, none in the right one.
abbrev empty_right : List Store
empty_right = two_blocks ++ slot 28 7

-- One block, in which every slot has a live record.
abbrev all_live_holds : List Store
all_live_holds = each (λ j. slot j (j + 1)) 64

-- One page in the left block, two in the right one.
abbrev two_right : List Store
two_right = empty_right ++ (store 192 23 ∷ store 193 230 ∷ store 194 55 ∷ store 195 550 ∷ [])

-- The words of the blocks of `mixed_orders`.
abbrev mixed_parts : List (List ℕ)
mixed_parts = (1025 ∷ 10250 ∷ 5 ∷ 50 ∷ []) ∷ (80 ∷ 800 ∷ 31 ∷ 310 ∷ []) ∷ (306 ∷ 3060 ∷ 50 ∷ 500 ∷ []) ∷ (112 ∷ 1120 ∷ []) ∷ []

pub list_block_states : List Row
unfolding each
list_block_states =
    -- blocks of three depths, each with what follows it; a stale record is not listed
    lists three mixed_orders 0 2 (some 4) (1025 ∷ 10250 ∷ 5 ∷ 50 ∷ []) 3
    ∷ lists three mixed_orders 4 2 (some 6) (80 ∷ 800 ∷ 31 ∷ 310 ∷ []) 124
    ∷ lists three mixed_orders 6 2 (some 7) (306 ∷ 3060 ∷ 50 ∷ 500 ∷ []) 1
    -- the last block
    ∷ lists three mixed_orders 7 1 none (112 ∷ 1120 ∷ []) 126
    -- a list array just right, and one word short: 10 by the block's records, whatever the index has
    ∷ lists three mixed_orders 0 2 (some 4) (1025 ∷ 10250 ∷ 5 ∷ 50 ∷ []) 0
    ∷ refuses three mixed_orders 0 3 10
    ∷ lists three mixed_orders 7 1 none (112 ∷ 1120 ∷ []) 0
    ∷ refuses three mixed_orders 7 1 10
    -- 16 for an index inside a block, 2^G, one behind it, and the largest
    ∷ refuses three mixed_orders 1 128 16
    ∷ refuses three mixed_orders 3 128 16
    ∷ refuses three mixed_orders 5 128 16
    ∷ refuses three mixed_orders 8 128 16
    ∷ refuses three mixed_orders 9 128 16
    ∷ refuses three mixed_orders 18446744073709551615 128 16
    -- 16 comes before 10
    ∷ refuses three mixed_orders 1 0 16
    ∷ refuses three mixed_orders 8 0 16
    -- blocks of depth 3, 3, 2 and 1 that splits have made: the first has sixteen pages
    ∷ lists three_depths [] 0 16 (some 1) (page_words 7 128 8 ++ page_words 1030 128 8) 0
    ∷ lists three_depths [] 1 2 (some 2) (449 ∷ 4490 ∷ 67 ∷ 670 ∷ []) 124
    ∷ lists three_depths [] 2 1 (some 4) (37 ∷ 370 ∷ []) 0
    ∷ lists three_depths [] 4 2 none (146 ∷ 1460 ∷ 25 ∷ 250 ∷ []) 0
    ∷ refuses three_depths [] 0 31 10
    ∷ refuses three_depths [] 3 128 16
    -- behind known state e, whose records have moved: nine pages left, eight right
    ∷ lists moved [] 0 9 (some 1) (7 ∷ 70 ∷ 263 ∷ 2630 ∷ page_words 39 32 7) 2
    ∷ lists moved [] 1 8 none (page_words 23 32 8) 0
    ∷ refuses moved [] 1 15 10
    -- an empty block has room in no words; one in which every slot is live takes all of 128
    ∷ lists (F 4 ∷ []) empty_right 0 1 (some 1) (7 ∷ 70 ∷ []) 0
    ∷ lists (F 4 ∷ []) empty_right 1 0 none [] 0
    ∷ lists (F 4 ∷ []) empty_right 1 0 none [] 128
    ∷ refuses (F 4 ∷ []) empty_right 2 0 16
    ∷ lists (F 4 ∷ []) [] 0 0 none [] 0
    ∷ refuses (F 4 ∷ []) [] 1 0 16
    ∷ lists (F 4 ∷ []) all_live_holds 0 64 none (page_words 1 1 64) 0
    ∷ refuses (F 4 ∷ []) all_live_holds 0 127 10
    -- an unmended directory is 4 at every index, also where no leader is or no word is lent; a split cut between its entries too
    ∷ refuses three (mixed_with (entry₃ 1 0 1 ∷ [])) 0 128 4
    ∷ refuses three (mixed_with (entry₃ 1 0 1 ∷ [])) 1 128 4
    ∷ refuses three (mixed_with (entry₃ 1 0 1 ∷ [])) 8 128 4
    ∷ refuses three (mixed_with (entry₃ 1 0 1 ∷ [])) 18446744073709551615 128 4
    ∷ refuses three (mixed_with (entry₃ 1 0 1 ∷ [])) 7 0 4
    ∷ refuses (sixteen 4 ++ (P263 76 ∷ [])) [] 0 128 4
    -- a broken one is 3, also behind the block that is asked for, and before 4
    ∷ refuses three (mixed_with (entry₃ 4 9 2 ∷ [])) 0 128 3
    ∷ refuses three (mixed_with (entry₃ 4 9 2 ∷ [])) 8 128 3
    ∷ refuses three (mixed_with (entry₃ 1 0 1 ∷ entry₃ 4 9 2 ∷ [])) 1 128 3
    -- 1 comes first
    ∷ refuses three (mixed_with (store 0 0 ∷ entry₃ 4 9 2 ∷ [])) 8 0 1
    ∷ refuses (F 4 ∷ []) old_store 0 128 1
    ∷ []

pub list_block_states_holds : all_pass list_block_states ≡ true
unfolding all_pass list_block_states
list_block_states_holds = refl

pub joined_listings : List Compared
unfolding each
joined_listings =
    -- the answers joined, with 128 words: part by part the full listing
    gathers 528 three mixed_orders 8 128 (some mixed_parts)
    ∷ gathers 528 moved [] 2 128 (some ((7 ∷ 70 ∷ 263 ∷ 2630 ∷ page_words 39 32 7) ∷ page_words 23 32 8 ∷ []))
    ∷ gathers 520 (F 4 ∷ []) empty_right 2 128 (some ((7 ∷ 70 ∷ []) ∷ [] ∷ []))
    -- four blocks take four calls; with fewer the last does not come, with too few words a block is refused
    ∷ gathers 528 three mixed_orders 4 4 (some mixed_parts)
    ∷ gathers 528 three mixed_orders 3 128 none
    ∷ gathers 528 three mixed_orders 8 3 none
    -- a first block is listed, and the second, which has two records, refused
    ∷ gathers 520 (F 4 ∷ []) two_right 2 2 none
    ∷ []

pub joined_listings_holds : all_agree joined_listings ≡ true
unfolding all_agree joined_listings
joined_listings_holds = refl
