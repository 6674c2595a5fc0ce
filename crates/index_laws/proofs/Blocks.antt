-- Directories by their blocks: what a consistent directory is, index by index; that the scan finds these blocks; and what doubling
-- and halving make of them.
use mathlib.Core.Path.{◌≡◌, refl, sym, ap, ◌∙◌}
use mathlib.Core.Bool.{true}
use mathlib.Core.List.{List}
use mathlib.Core.Logic.{◌⊎◌, inl, inr, ⊎_elim}
use Prim.Native.Nat.{ℕ, zero, suc, ◌+◌, ◌*◌, ◌/◌, ◌%◌, ◌^◌, ◌≤◌, ◌<◌}
use native.Mathlib.Nat.{le_refl, eq-or-lt_of_le, add-mod_right}
use native.Mathlib.Omega.{arith}
use borrow.Author.Tests.{eq-eqb, ne_eqb}
use lib.Dec.{eqb}
use Rattle.stores.specs.Lists.{pick}
use Rattle.stores.proofs.Tests.{by_equal, pick_below}
use Rattle.stores.proofs.Lists.{all_true}
use Rattle.index_rules.specs.Layout.{entry_at, entry, segment_of, local_depth}
use Rattle.index_rules.specs.Keys.{width, block_bits, block_start}
use Rattle.index_rules.specs.Scan.{leader, leading_entry, leaders_valid, entries_agree}
use Rattle.index_laws.proofs.Words.{entry_segment, entry_depth}
use Rattle.index_laws.proofs.Keys.{bits_half, bits_doubled, width_pos, block_start_bits, block_start_le, in_block, block_start_aligned, block_start_self, block_same, block_same_start}
use Rattle.index_laws.proofs.Scan.{in_range_holds, range_depth, range_segment, valid_leader_holds, leader_zero, leader_new, leader_kept, leader_start, leader_same, agree_at, consistent_in_range}

-- The bits of index i's block in the directory f, which all keys live in that block have first.
abbrev pub bits_at : (g : ℕ) → (ℕ → ℕ) → (i : ℕ) → ℕ
bits_at g f i = block_bits g (local_depth (f i)) i

-- Index j is in index i's block.
abbrev pub SameBlock : (g : ℕ) → (ℕ → ℕ) → (i j : ℕ) → Type 0
SameBlock g f i j = block_bits g (local_depth (f i)) j ≡ bits_at g f i

-- f is a consistent directory of depth g: its entries are in range, and one entry stands in a whole block.
pub record Blocks (g S : ℕ) (f : ℕ → ℕ) : Type 0 where
  pub depths : (i : ℕ) → i < 2 ^ g → local_depth (f i) ≤ g
  pub below : (i : ℕ) → i < 2 ^ g → segment_of (f i) < S
  pub blocks : (i j : ℕ) → i < 2 ^ g → j < 2 ^ g → SameBlock g f i j → f j ≡ f i

-- ---- The scan

-- The entries of a consistent directory.
pub consistent_blocks : (a : List ℕ) (g S : ℕ) → leaders_valid a g S ≡ true → entries_agree a g ≡ true → Blocks g S (entry_at a g)
consistent_blocks a g S valid agree =
    record {
      depths = λ i h. range_depth g S (entry_at a g i) (consistent_in_range a g S i valid agree h);
      below = λ i h. range_segment g S (entry_at a g i) (consistent_in_range a g S i valid agree h);
      blocks = one_entry;
    }
  where
    one_entry : (i j : ℕ) → i < 2 ^ g → j < 2 ^ g → SameBlock g (entry_at a g) i j → entry_at a g j ≡ entry_at a g i
    one_entry i j h k e =
        let L : ℕ = local_depth (entry_at a g i) in
        let led : leading_entry a g i ≡ entry_at a g i = sym (agree_at a g i agree h) in
        let first : leader a g i ≡ block_start g L i = rw led at (leader_start a g S i valid h) in
        let start : block_start g L j ≡ block_start g L i =
        block_start_bits g L j ∙ ap (λ (x : ℕ). width g L * x) e ∙ sym (block_start_bits g L i)
        in
        let low : leader a g i ≤ j = rw (first, ← start) (block_start_le g L j) in
        let high : j < leader a g i + width g (local_depth (leading_entry a g i)) = rw (led, first, ← start) (in_block g L j) in
        agree_at a g j agree k ∙ ap (entry_at a g) (leader_same a g S i (leader a g i) j valid refl h low high) ∙ led

-- An array whose entries are f's where f's blocks begin.
module _ (a : List ℕ) (g S : ℕ) (f : ℕ → ℕ) (dir : Blocks g S f)
    (begins : (i : ℕ) → i < 2 ^ g → block_start g (local_depth (f i)) i ≡ i → entry_at a g i ≡ f i) where
  -- The first index of index i's block.
  abbrev first : ℕ → ℕ
  first i = block_start g (local_depth (f i)) i

  -- The entry at the first index of a block is f's entry for the whole block.
  first_entry : (i : ℕ) → i < 2 ^ g → entry_at a g (first i) ≡ f i
  first_entry i h =
      let below : first i ≤ i = block_start_le g (local_depth (f i)) i in
      let inside : first i < 2 ^ g = omega arith in
      let pos : 0 < width g (local_depth (f i)) = width_pos g (local_depth (f i)) in
      let same : f (first i) ≡ f i =
      dir.blocks i (first i) h inside (block_same g (local_depth (f i)) i (first i) (le_refl (first i)) (omega arith))
      in
      let own : block_start g (local_depth (f (first i))) (first i) ≡ first i =
      rw same (block_start_self g (local_depth (f i)) (first i) (block_start_aligned g (local_depth (f i)) i))
      in
      begins (first i) inside own ∙ same

  -- Behind a block, a block begins.
  next_begins : (i : ℕ) → suc i < 2 ^ g → suc i % width g (local_depth (f i)) ≡ 0 → first (suc i) ≡ suc i
  next_begins i h e =
      ⊎_elim
      (λ (q : first (suc i) ≡ suc i). q)
      (λ (q : first (suc i) < suc i).
      let up : suc i < first (suc i) + width g (local_depth (f (suc i))) = in_block g (local_depth (f (suc i))) (suc i) in
      let same : f i ≡ f (suc i) =
      dir.blocks (suc i) i h (omega arith)
      (block_same g (local_depth (f (suc i))) (suc i) i (omega arith) (omega arith))
      in
      rw (ap local_depth (sym same)) (block_start_self g (local_depth (f i)) (suc i) e))
      (eq-or-lt_of_le (block_start_le g (local_depth (f (suc i))) (suc i)))

  -- Within a block, the block goes on.
  next_within : (i : ℕ) → suc i < 2 ^ g → (suc i % width g (local_depth (f i)) ≡ 0 → ⊥) → first (suc i) ≡ first i
  next_within i h n =
      let L = local_depth (f i) in
      let low : first i ≤ i = block_start_le g (local_depth (f i)) i in
      let up : i < first i + width g (local_depth (f i)) = in_block g (local_depth (f i)) i in
      ⊎_elim
      (λ (q : suc i ≡ first i + width g (local_depth (f i))).
      absurd (n (rw q (add-mod_right (first i) (width g (local_depth (f i))) ∙ block_start_aligned g (local_depth (f i)) i))))
      (λ (q : suc i < first i + width g (local_depth (f i))).
      let bits : block_bits g (local_depth (f i)) (suc i) ≡ block_bits g (local_depth (f i)) i =
      block_same g (local_depth (f i)) i (suc i) (omega arith) q
      in
      let same : f (suc i) ≡ f i = dir.blocks i (suc i) (omega arith) h bits in
      rw (ap local_depth same) (block_same_start g (local_depth (f i)) i (suc i) (omega arith) q))
      (eq-or-lt_of_le up)

  -- The scan's leader of index i is the first index of its block in f.
  pub blocks_leader : (i : ℕ) → i < 2 ^ g → leader a g i ≡ first i
  blocks_leader zero h =
      let low : first 0 ≤ 0 = block_start_le g (local_depth (f 0)) 0 in
      leader_zero a g ∙ omega arith
  blocks_leader (suc i) h =
      let here : leader a g i ≡ first i = blocks_leader i (omega arith) in
      let led : leading_entry a g i ≡ f i = rw here (first_entry i (omega arith)) in
      by_equal (suc i % width g (local_depth (f i))) 0
      (λ e. leader_new a g i (rw led e) ∙ sym (next_begins i h e))
      (λ n. leader_kept a g i (rw led n) ∙ here ∙ sym (next_within i h n))

  -- The entry that leads index i is f's.
  pub blocks_leading : (i : ℕ) → i < 2 ^ g → leading_entry a g i ≡ f i
  blocks_leading i h = rw (blocks_leader i h) (first_entry i h)

  pub blocks_valid : leaders_valid a g S ≡ true
  unfolding leaders_valid
  blocks_valid =
      all_true _ (2 ^ g)
      (λ i h.
      rw (blocks_leading i h, blocks_leader i h)
      (valid_leader_holds g S (first i) (f i) (in_range_holds g S (f i) (dir.depths i h) (dir.below i h))
      (block_start_aligned g (local_depth (f i)) i)))

  -- Where every entry is f's, each entry equals its leader.
  pub blocks_agree : ((i : ℕ) → i < 2 ^ g → entry_at a g i ≡ f i) → entries_agree a g ≡ true
  unfolding entries_agree
  blocks_agree same = all_true _ (2 ^ g) (λ i h. eq-eqb _ _ (same i h ∙ sym (blocks_leading i h)))

-- ---- Doubling

-- The directory of the next depth: each entry twice.
abbrev pub doubled_directory : (ℕ → ℕ) → ℕ → ℕ
doubled_directory f e = f (e / 2)

-- A block of the doubled directory comes from a block of the directory.
pub doubled_blocks : {g S : ℕ} {f : ℕ → ℕ} → Blocks g S f → Blocks (suc g) S (doubled_directory f)
doubled_blocks {g} {S} {f} dir =
    record {
      depths = λ i h. let l : local_depth (f (i / 2)) ≤ g = shallow i h in omega arith;
      below = λ i h. dir.below (i / 2) (omega arith);
      blocks = λ i j h k e.
          dir.blocks (i / 2) (j / 2) (omega arith) (omega arith)
          (sym (bits_doubled g (local_depth (f (i / 2))) j (shallow i h)) ∙ e ∙ bits_doubled g (local_depth (f (i / 2))) i (shallow i h));
    }
  where
    shallow : (i : ℕ) → i < 2 ^ suc g → local_depth (f (i / 2)) ≤ g
    shallow i h = dir.depths (i / 2) (omega arith)

-- ---- Halving

-- The directory after the halving of index i's block: in both halves the local depth is one more, and the right half names the
-- segment n.
unfoldable pub halved_directory : (g : ℕ) → (ℕ → ℕ) → (i n : ℕ) → ℕ → ℕ
halved_directory g f i n j =
    pick (eqb (block_bits g (local_depth (f i)) j) (bits_at g f i))
    (entry (pick (eqb (block_bits g (suc (local_depth (f i))) j % 2) 1) n (segment_of (f i))) (suc (local_depth (f i))))
    (f j)

-- Index j is in index i's block, in the half with last bit `half`.
pub record InBlock (g : ℕ) (f : ℕ → ℕ) (i n j : ℕ) : Type 0 where
  pub half : ℕ
  pub small : half < 2
  pub half_bits : block_bits g (suc (local_depth (f i))) j ≡ 2 * bits_at g f i + half
  pub block_bits_holds : SameBlock g f i j
  pub now : halved_directory g f i n j ≡ entry (pick (eqb half 1) n (segment_of (f i))) (suc (local_depth (f i)))
  pub depth_now : local_depth (halved_directory g f i n j) ≡ suc (local_depth (f i))
  pub segment_now : segment_of (halved_directory g f i n j) ≡ pick (eqb half 1) n (segment_of (f i))

-- Index j is not in index i's block.
pub record Outside (g : ℕ) (f : ℕ → ℕ) (i n j : ℕ) : Type 0 where
  pub other : SameBlock g f i j → ⊥
  pub kept : halved_directory g f i n j ≡ f j

-- Either of the two.
abbrev pub Place : (g : ℕ) → (ℕ → ℕ) → (i n j : ℕ) → Type 0
Place g f i n j = InBlock g f i n j ⊎ Outside g f i n j

module _ {g S : ℕ} {f : ℕ → ℕ} (dir : Blocks g S f) (fits : S < 2 ^ 32) (i : ℕ) (below : i < 2 ^ g) (room : local_depth (f i) < g)
    (n : ℕ) (new : n < S) where
  in_block_now : (j : ℕ) → SameBlock g f i j → InBlock g f i n j
  unfolding halved_directory
  in_block_now j e =
      let L : ℕ = local_depth (f i) in
      let b : ℕ = block_bits g (suc L) j % 2 in
      let s : ℕ = pick (eqb b 1) n (segment_of (f i)) in
      let now : halved_directory g f i n j ≡ entry s (suc L) = rw (eq-eqb (block_bits g L j) (bits_at g f i) e) in
      let s-fits : s < 2 ^ 32 = omega (arith, pick_below (eqb b 1) n (segment_of (f i)) S new (dir.below i below)) in
      record {
        half = b;
        small = omega arith;
        half_bits = omega (arith, bits_half g L j room);
        block_bits_holds = e;
        now = now;
        depth_now = ap local_depth now ∙ entry_depth s (suc L) s-fits;
        segment_now = ap segment_of now ∙ entry_segment s (suc L) s-fits;
      }

  outside_now : (j : ℕ) → (SameBlock g f i j → ⊥) → Outside g f i n j
  unfolding halved_directory
  outside_now j u = record { other = u; kept = rw (ne_eqb (block_bits g (local_depth (f i)) j) (bits_at g f i) u) }

  pub place : (j : ℕ) → Place g f i n j
  place j =
      let x : ℕ = block_bits g (local_depth (f i)) j in
      by_equal x (bits_at g f i) (λ t. inl (in_block_now j t)) (λ t. inr (outside_now j t))

  halved_depths : (j : ℕ) → j < 2 ^ g → Place g f i n j → local_depth (halved_directory g f i n j) ≤ g
  halved_depths j h (inl p) = rw p.depth_now room
  halved_depths j h (inr q) = rw q.kept (dir.depths j h)

  halved_below : (j : ℕ) → j < 2 ^ g → Place g f i n j → segment_of (halved_directory g f i n j) < S
  halved_below j h (inl p) = rw p.segment_now (pick_below (eqb p.half 1) n (segment_of (f i)) S new (dir.below i below))
  halved_below j h (inr q) = rw q.kept (dir.below j h)

  halved_one_entry : (k j : ℕ) → k < 2 ^ g → j < 2 ^ g → Place g f i n k → Place g f i n j
      → SameBlock g (halved_directory g f i n) k j → halved_directory g f i n j ≡ halved_directory g f i n k
  halved_one_entry k j hk hj (inl p) (inl q) e =
      let same : block_bits g (suc (local_depth (f i))) j ≡ block_bits g (suc (local_depth (f i))) k = rw p.depth_now at e in
      let half : q.half ≡ p.half = omega (arith, p.half_bits, q.half_bits) in
      q.now ∙ rw half (sym p.now)
  halved_one_entry k j hk hj (inl p) (inr q) e =
      let same : block_bits g (suc (local_depth (f i))) j ≡ block_bits g (suc (local_depth (f i))) k = rw p.depth_now at e in
      absurd (q.other (omega (arith, bits_half g (local_depth (f i)) j room, p.half_bits, p.small)))
  halved_one_entry k j hk hj (inr p) (inl q) e =
      let old : SameBlock g f k j = rw p.kept at e in
      let like : f k ≡ f i = sym (dir.blocks k j hk hj old) ∙ dir.blocks i j below hj q.block_bits_holds in
      absurd (p.other (sym (rw like at old) ∙ q.block_bits_holds))
  halved_one_entry k j hk hj (inr p) (inr q) e = q.kept ∙ dir.blocks k j hk hj (rw p.kept at e) ∙ sym p.kept

  pub halved_blocks : Blocks g S (halved_directory g f i n)
  halved_blocks =
      record {
        depths = λ j h. halved_depths j h (place j);
        below = λ j h. halved_below j h (place j);
        blocks = λ k j hk hj. halved_one_entry k j hk hj (place k) (place j);
      }
