-- Document 01, 'The calls and their stores': the stores of a split, steps 2 to 4.
use Rattle.std.specs.Prelude.{ℕ, suc, ◌+◌, ◌-◌, ◌/◌, ◌^◌, Bool, ◌&&◌, List, [], ◌∷◌, ◌++◌, ltb, eqb}
use Rattle.stores.specs.Lists.{pick, each}
use Rattle.stores.specs.Store.{Store, store, apply}
use Rattle.index_rules.specs.Layout.{depth, max_depth, segments, header, entry_address, entry_at, entry, segment_of, local_depth, segment_address, key_address, value_address, key_at, value_at}
use Rattle.index_rules.specs.Keys.{bit, index, width, block_bits, block_start, live}
use Rattle.index_rules.specs.Get.{key_entry}

-- Step 2, doubling: entry e of depth G + 1 := entry floor(e / 2), rising; then word 0 with G + 1.
unfoldable pub doubling : List ℕ → List Store
doubling a =
    each (λ e. store (entry_address (suc (depth a)) e) (entry_at a (depth a) (e / 2)) ∷ []) (2 ^ suc (depth a))
    ++ (store 0 (header (suc (depth a)) (max_depth a) (segments a)) ∷ [])

-- The record in slot j of the segment at `from` goes to the new segment: it is live there, and its directory bit number L is 1.
unfoldable pub moves : List ℕ → (from L bits j : ℕ) → Bool
moves a from L bits j = live L bits (key_at a from j) && eqb (bit (key_at a from j) L) 1

-- Step 3 for slot j: the record goes to the same slot of the segment at `to`, value, then key; or that key word := 0.
unfoldable pub copy_slot : List ℕ → (from to L bits j : ℕ) → List Store
copy_slot a from to L bits j =
    pick (moves a from L bits j)
    (store (value_address to j) (value_at a from j) ∷ store (key_address to j) (key_at a from j) ∷ [])
    (store (key_address to j) 0 ∷ [])

-- Step 3, the copy step: slots 0 to 63, rising.
unfoldable pub copying : List ℕ → (from to L bits : ℕ) → List Store
copying a from to L bits = each (copy_slot a from to L bits) 64

-- The entry that step 4 stores as number t, from the right: (n, L + 1) in the right half, (s, L + 1) in the left.
unfoldable pub half_entry : (g L s n t : ℕ) → ℕ
half_entry g L s n t = pick (ltb t (width g (suc L))) (entry n (suc L)) (entry s (suc L))

-- Step 4, the entry update: the block of local depth L that begins at index `start`, from right to left.
unfoldable pub updating : (g L start s n : ℕ) → List Store
updating g L start s n =
    each (λ t. store (entry_address g (start + (width g L - suc t))) (half_entry g L s n t) ∷ []) (width g L)

-- Steps 3 and 4 for the block of the entry e at index i, with the new segment n.
unfoldable pub halving_of : List ℕ → (i e n : ℕ) → List Store
halving_of a i e n =
    copying
    a
    (segment_address (max_depth a) (segment_of e))
    (segment_address (max_depth a) n)
    (local_depth e)
    (block_bits (depth a) (local_depth e) i)
    ++ updating (depth a) (local_depth e) (block_start (depth a) (local_depth e) i) (segment_of e) n

-- Steps 3 and 4 for the key's block.
unfoldable pub halving : List ℕ → (key n : ℕ) → List Store
halving a key n = halving_of a (index key (depth a)) (key_entry a key) n

-- The doubling of a split: only where L = G.
unfoldable pub doubling_for : List ℕ → (key : ℕ) → List Store
doubling_for a key = pick (eqb (local_depth (key_entry a key)) (depth a)) (doubling a) []

-- All stores of the split of the key's segment, with the new segment n. What follows a doubling is planned from the array it leaves.
unfoldable pub splitting : List ℕ → (key n : ℕ) → List Store
splitting a key n = doubling_for a key ++ halving (apply (doubling_for a key) a) key n
