-- Document 02, wish 6: merge. A block and its buddy, the other half of the block one depth shallower, become that one block. The left
-- half's segment, the document's a, takes what is live in the right half's, b, and b comes free.
use Rattle.std.specs.Prelude.{ℕ, suc, ◌+◌, ◌*◌, ◌-◌, Bool, not, ◌&&◌, List, [], ◌∷◌, ◌++◌, leb, eqb}
use Rattle.std.proofs.Math.Option.{Option, none}
use Rattle.stores.specs.Lists.{pick, each, any_below}
use Rattle.stores.specs.Store.{Store, store}
use Rattle.stores.specs.Plan.{Plan}
use Rattle.replies.specs.declared.Refusal.{Refusal}
use Rattle.replies.specs.declared.Refusal.TheVariants.{NoBuddy, BothLive}
use Rattle.replies.specs.Replies.{Said, done, unless, tested}
use Rattle.index_rules.specs.Layout.{depth, max_depth, entry_address, entry_at, entry, segment_of, local_depth, segment_address, key_address, value_address, key_at, value_at}
use Rattle.index_rules.specs.Keys.{index, width, block_bits, block_start, live}
use Rattle.index_rules.specs.Get.{key_entry, key_tests}
use Rattle.index_rules.specs.Put.{directory_tests}

-- ---- The joined block, of local depth M, that holds index i in the directory of depth g, and its halves of local depth M + 1

-- The first index of its right half. The left half begins where the joined block begins.
unfoldable pub right_start : (g M i : ℕ) → ℕ
right_start g M i = block_start g M i + width g (suc M)

-- Index i is in the right half.
unfoldable pub on_right : (g M i : ℕ) → Bool
on_right g M i = leb (right_start g M i) i

-- The first index of the half that does not hold index i: the buddy's leading entry stands there.
unfoldable pub buddy_start : (g M i : ℕ) → ℕ
buddy_start g M i = pick (on_right g M i) (block_start g M i) (right_start g M i)

-- The local depth of the joined block, where index i has the entry e: one less than e's.
unfoldable pub joined_depth : (e : ℕ) → ℕ
joined_depth e = local_depth e - 1

-- The joined block's bits.
abbrev pub joined_bits : List ℕ → (i e : ℕ) → ℕ
joined_bits a i e = block_bits (depth a) (joined_depth e) i

-- Its first index.
abbrev pub joined_start : List ℕ → (i e : ℕ) → ℕ
joined_start a i e = block_start (depth a) (joined_depth e) i

-- ---- The two entries, of which each names a half's segment: e itself, and the buddy's leading entry

unfoldable pub buddy_entry : List ℕ → (i e : ℕ) → ℕ
buddy_entry a i e = entry_at a (depth a) (buddy_start (depth a) (joined_depth e) i)

-- The left half's.
unfoldable pub left_entry : List ℕ → (i e : ℕ) → ℕ
left_entry a i e = pick (on_right (depth a) (joined_depth e) i) (buddy_entry a i e) e

-- The right half's.
unfoldable pub right_entry : List ℕ → (i e : ℕ) → ℕ
right_entry a i e = pick (on_right (depth a) (joined_depth e) i) e (buddy_entry a i e)

-- Where the left half's segment stands: document 02's a.
abbrev pub left_segment : List ℕ → (i e : ℕ) → ℕ
left_segment a i e = segment_address (max_depth a) (segment_of (left_entry a i e))

-- Where the right half's segment stands: document 02's b.
abbrev pub right_segment : List ℕ → (i e : ℕ) → ℕ
right_segment a i e = segment_address (max_depth a) (segment_of (right_entry a i e))

-- ---- The slots

-- A key is live in the left half of the joined block with these bits.
abbrev pub live_left : (M bits key : ℕ) → Bool
live_left M bits key = live (suc M) (2 * bits) key

-- And in its right half.
abbrev pub live_right : (M bits key : ℕ) → Bool
live_right M bits key = live (suc M) (2 * bits + 1) key

-- The left segment stands in the array x at `left`, the right one in the array y at `right`. In a call x and y are the index array.

-- Some slot is live on both sides.
unfoldable pub both_live : (x : List ℕ) (left : ℕ) (y : List ℕ) (right M bits : ℕ) → Bool
both_live x left y right M bits = any_below (λ j. live_left M bits (key_at x left j) && live_right M bits (key_at y right j)) 64

-- The stores for slot j, where the left segment has the key `own` there, and the right one this key and value: a record live on the right
-- goes into the same slot of the left segment, value, then key; where neither is live and the left one's key is not 0, that key word := 0.
unfoldable pub merge_record : (left M bits j own key value : ℕ) → List Store
merge_record left M bits j own key value =
    pick (live_right M bits key) (store (value_address left j) value ∷ store (key_address left j) key ∷ [])
    (pick (not (eqb own 0) && not (live_left M bits own)) (store (key_address left j) 0 ∷ []) [])

-- The stores for slot j of the two segments.
unfoldable pub merge_slot : (x : List ℕ) (left : ℕ) (y : List ℕ) (right M bits j : ℕ) → List Store
merge_slot x left y right M bits j = merge_record left M bits j (key_at x left j) (key_at y right j) (value_at y right j)

-- The stores for slots 0 to 63, rising.
unfoldable pub merging_slots : (x : List ℕ) (left : ℕ) (y : List ℕ) (right M bits : ℕ) → List Store
merging_slots x left y right M bits = each (merge_slot x left y right M bits) 64

-- ---- The entries

-- The entries of the block of local depth M that begins at index `start`, from left to right: segment s, local depth M.
unfoldable pub joining : (g M start s : ℕ) → List Store
joining g M start s = each (λ t. store (entry_address g (start + t)) (entry s M) ∷ []) (width g M)

-- ---- The call

-- The entry e has a local depth but 0, and the buddy has the same.
unfoldable pub has_buddy : List ℕ → (i e : ℕ) → Bool
has_buddy a i e = not (eqb (local_depth e) 0) && eqb (local_depth (buddy_entry a i e)) (local_depth e)

-- Some slot is live on both sides, for the entry e at index i.
abbrev pub both_live_at : List ℕ → (i e : ℕ) → Bool
both_live_at a i e = both_live a (left_segment a i e) a (right_segment a i e) (joined_depth e) (joined_bits a i e)

-- The tests of the two halves: 14 where there is no buddy of the same depth, then 15 where some slot is live on both sides.
unfoldable pub halves_tests : List ℕ → (i e : ℕ) → Option Refusal
halves_tests a i e = unless (has_buddy a i e) NoBuddy (unless (not (both_live_at a i e)) BothLive none)

-- The tests of merge: 1, 2, 3, 4, 14, 15.
unfoldable pub merge_tests : List ℕ → (key : ℕ) → Option Refusal
merge_tests a key = key_tests a key (directory_tests a (halves_tests a (index key (depth a)) (key_entry a key)))

-- The stores of the slots, for the entry e at index i.
abbrev pub slots_merged : List ℕ → (i e : ℕ) → List Store
slots_merged a i e = merging_slots a (left_segment a i e) a (right_segment a i e) (joined_depth e) (joined_bits a i e)

-- Those of the entries.
abbrev pub entries_joined : List ℕ → (i e : ℕ) → List Store
entries_joined a i e = joining (depth a) (joined_depth e) (joined_start a i e) (segment_of (left_entry a i e))

-- All stores of a merge, for the entry e at index i.
unfoldable pub merging_of : List ℕ → (i e : ℕ) → List Store
merging_of a i e = slots_merged a i e ++ entries_joined a i e

-- ---- The same for a key, by its own entry

-- It has a buddy of the same depth.
abbrev pub key_buddy : List ℕ → (key : ℕ) → Bool
key_buddy a key = has_buddy a (index key (depth a)) (key_entry a key)

-- Some slot is live on both sides.
abbrev pub key_both_live : List ℕ → (key : ℕ) → Bool
key_both_live a key = both_live_at a (index key (depth a)) (key_entry a key)

-- The number of the left half's segment: document 02's a.
abbrev pub left_of : List ℕ → (key : ℕ) → ℕ
left_of a key = segment_of (left_entry a (index key (depth a)) (key_entry a key))

-- The number of the right half's: document 02's b.
abbrev pub right_of : List ℕ → (key : ℕ) → ℕ
right_of a key = segment_of (right_entry a (index key (depth a)) (key_entry a key))

-- All stores.
abbrev pub key_merging : List ℕ → (key : ℕ) → List Store
key_merging a key = merging_of a (index key (depth a)) (key_entry a key)

-- The plan of a merge.
unfoldable pub merge : List ℕ → (key : ℕ) → Plan Said
merge a key = tested (merge_tests a key) (record { due = key_merging a key; reply = done [] })
