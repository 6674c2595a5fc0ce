-- Document 01, 'The walk': the scan of the directory of depth g over its blocks.
use Rattle.std.specs.Prelude.{ℕ, zero, suc, ◌+◌, ◌%◌, ◌^◌, Bool, ◌&&◌, List, [], ◌∷◌, leb, ltb, eqb}
use Rattle.std.proofs.Math.Option.{Option, none, some}
use Rattle.stores.specs.Lists.{pick, each, all_below}
use Rattle.index_rules.specs.Layout.{entry_at, segment_of, local_depth}
use Rattle.index_rules.specs.Keys.{width}

-- The entry e is in range: L ≤ G, and its segment is below S.
unfoldable pub in_range : (g S e : ℕ) → Bool
in_range g S e = leb (local_depth e) g && ltb (segment_of e) S

-- The entry e, at index i, leads a block and is valid (document 01: sound): it is in range, and i is a multiple of 2^(G−L).
unfoldable pub valid_leader : (g S i e : ℕ) → Bool
valid_leader g S i e = in_range g S e && eqb (i % width g (local_depth e)) 0

-- ---- As document 01 says it

-- A further leader, in front of those found behind its block.
unfoldable pub led_by : ℕ → Option (List ℕ) → Option (List ℕ)
led_by i none = none
led_by i (some is) = some (i ∷ is)

-- The leaders from index i on: the entry there, then what stands behind its block, to the end; none where a leader is not
-- valid. Every block has an index of its own, so n = 2^g steps are enough from index 0.
unfoldable pub leaders_from : List ℕ → (g S n i : ℕ) → Option (List ℕ)
leaders_from a g S zero i = some []
leaders_from a g S (suc n) i =
    let behind : Option (List ℕ) = leaders_from a g S n (i + width g (local_depth (entry_at a g i))) in
    pick (ltb i (2 ^ g)) (pick (valid_leader g S i (entry_at a g i)) (led_by i behind) none) (some [])

-- ---- The same by recursion on the index, which the calls' definitions use (`proofs/Scan.antt` shows that the two agree)

-- The leader of index i, given the leader of the index before: i itself where the block before ends, else the same.
unfoldable pub next_leader : List ℕ → (g i before : ℕ) → ℕ
next_leader a g i before = pick (eqb (i % width g (local_depth (entry_at a g before))) 0) i before

-- The index of the entry that leads the block of index i.
unfoldable pub leader : List ℕ → (g i : ℕ) → ℕ
leader a g zero = zero
leader a g (suc i) = next_leader a g (suc i) (leader a g i)

-- The entry that leads the block of index i.
abbrev pub leading_entry : List ℕ → (g i : ℕ) → ℕ
leading_entry a g i = entry_at a g (leader a g i)

-- All leaders, from the left.
unfoldable pub leaders : List ℕ → (g : ℕ) → List ℕ
leaders a g = each (λ i. pick (eqb (leader a g i) i) (i ∷ []) []) (2 ^ g)

-- Every leader is valid.
unfoldable pub leaders_valid : List ℕ → (g S : ℕ) → Bool
leaders_valid a g S = all_below (λ i. valid_leader g S (leader a g i) (leading_entry a g i)) (2 ^ g)

-- Each entry equals its block's leader.
unfoldable pub entries_agree : List ℕ → (g : ℕ) → Bool
entries_agree a g = all_below (λ i. eqb (entry_at a g i) (leading_entry a g i)) (2 ^ g)

-- The directory is consistent (document 01: tidy).
unfoldable pub consistent : List ℕ → (g S : ℕ) → Bool
consistent a g S = leaders_valid a g S && entries_agree a g
