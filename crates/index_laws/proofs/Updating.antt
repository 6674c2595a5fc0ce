-- The entry update of a split, from right to left: what stands in the directory after any number of its stores.
use mathlib.Core.Path.{◌≡◌, refl, sym, ap, ◌∙◌}
use mathlib.Core.Bool.{Bool, true, false, not}
use mathlib.Core.List.{List, [], ◌∷◌}
use mathlib.Core.Logic.{inl, inr}
use Prim.Native.Nat.{ℕ, suc, ◌+◌, ◌*◌, ◌-◌, ◌/◌, ◌%◌, ◌^◌, ◌≤◌, ◌<◌}
use native.Mathlib.Omega.{arith}
use borrow.Author.Tests.{eqb-true, eqb-false, ltb-true, ltb-false, lt-ltb, le-ltb, eq-eqb}
use lib.Dec.{eqb, ltb}
use lib.ListN.{length}
use Rattle.stores.specs.Lists.{pick}
use Rattle.stores.specs.Store.{Store, word, store, apply, exec, Every}
use Rattle.stores.proofs.Tests.{by_test, by_equal, pick_not}
use Rattle.stores.proofs.Lists.{every_each, length_each_ones}
use Rattle.stores.proofs.Stores.{exec_all}
use Rattle.stores.proofs.Prefixes.{exec_elsewhere, single_made, single_not_made}
use Rattle.index_rules.specs.Layout.{entry_address, entry_at, entry, segment_of, local_depth}
use Rattle.index_rules.specs.Keys.{width, block_bits, block_start}
use Rattle.index_rules.specs.Split.{half_entry, updating}
use Rattle.index_laws.proofs.Words.{entry_inj}
use Rattle.index_laws.proofs.Keys.{width_half, block_start_bits, block_start_le, in_block, block_same, bits_half}
use Rattle.index_laws.proofs.Blocks.{bits_at, SameBlock, Blocks, halved_directory, Place}

-- ---- The indices of a block

module _ (g L i j : ℕ) (e : block_bits g L j ≡ block_bits g L i) where
  pub same_start : block_start g L j ≡ block_start g L i
  same_start = block_start_bits g L j ∙ rw e (sym (block_start_bits g L i))

  -- An index of the block lies between its first index and its end.
  pub block_from : block_start g L i ≤ j
  block_from = omega (arith, block_start_le g L j, same_start)

  pub block_to : j < block_start g L i + width g L
  block_to = omega (arith, in_block g L j, same_start)

  -- It is in the left half where its next bit is 0.
  pub left_half : L < g → ltb j (block_start g L i + width g (suc L)) ≡ not (eqb (block_bits g (suc L) j % 2) 1)
  left_half l =
      let w : ℕ = width g (suc L) in
      let q : ℕ = block_bits g (suc L) j in
      let twice : width g L ≡ 2 * w = width_half g L l in
      let half : q / 2 ≡ block_bits g L i = bits_half g L j l ∙ e in
      let start : block_start g L i ≡ w * (2 * block_bits g L i) = block_start_bits g L i ∙ rw twice (omega arith) in
      let low : w * q ≤ j = rw (block_start_bits g (suc L) j) at (block_start_le g (suc L) j) in
      let high : j < w * q + w = rw (block_start_bits g (suc L) j) at (in_block g (suc L) j) in
      by_test (eqb (q % 2) 1)
      (λ t.
      let odd : q ≡ 2 * block_bits g L i + 1 = omega (arith, eqb-true (q % 2) 1 t) in
      let past : w * (2 * block_bits g L i + 1) ≤ j = rw odd at low in
      rw t (le-ltb j (block_start g L i + w) (omega (arith, start, past))))
      (λ t.
      let even : q ≡ 2 * block_bits g L i = omega (arith, eqb-false (q % 2) 1 t) in
      let before : j < w * (2 * block_bits g L i) + w = rw even at high in
      rw t (lt-ltb j (block_start g L i + w) (omega (arith, start, before))))

-- ---- The stores

-- The address is of an entry of the block of local depth L that begins at index `start`, in the directory of depth g.
pub record BlockEntry (g L start at : ℕ) : Type 0 where
  pub number : ℕ
  pub from : start ≤ number
  pub to : number < start + width g L
  pub address : at ≡ entry_address g number

-- The number of the store at index j, counted from 0.
abbrev pub turn : (g L start j : ℕ) → ℕ
turn g L start j = start + width g L - suc j

module _ (g L start s n : ℕ) where
  pub length_updating : length (updating g L start s n) ≡ width g L
  unfolding updating
  length_updating = length_each_ones (λ t. store (entry_address g (start + (width g L - suc t))) (half_entry g L s n t)) (width g L)

  -- Only entries of the block are stored.
  pub updating_block : Every (λ x. BlockEntry g L start x.at) (updating g L start s n)
  unfolding updating
  updating_block =
      every_each (λ x. BlockEntry g L start x.at)
      (λ t. store (entry_address g (start + (width g L - suc t))) (half_entry g L s n t) ∷ []) (width g L)
      (λ t h. (record { number = start + (width g L - suc t); from = omega arith; to = omega arith; address = refl }, Prim.tt))

  -- What is stored at index j: the old segment s in the left half, the new one n in the right.
  half_entry_holds : (j : ℕ) → L < g → start ≤ j → j < start + width g L
      → half_entry g L s n (turn g L start j) ≡ entry (pick (ltb j (start + width g (suc L))) s n) (suc L)
  unfolding half_entry
  half_entry_holds j l lo hi =
      let half : width g L ≡ 2 * width g (suc L) = width_half g L l in
      let t : ℕ = turn g L start j in
      by_test (ltb j (start + width g (suc L)))
      (λ e.
      let o : ltb t (width g (suc L)) ≡ false = le-ltb t (width g (suc L)) (omega (arith, ltb-true j (start + width g (suc L)) e)) in
      rw (o, e))
      (λ e.
      let o : ltb t (width g (suc L)) ≡ true = lt-ltb t (width g (suc L)) (omega (arith, ltb-false j (start + width g (suc L)) e)) in
      rw (o, e))

  -- After t of the stores, entry j of the block is stored or not; other words stay.
  module _ (a : List ℕ) (t : ℕ) where
    pub updating_elsewhere : (at : ℕ) → (BlockEntry g L start at → ⊥) → word (exec (updating g L start s n) t a) at ≡ word a at
    updating_elsewhere at = exec_elsewhere (BlockEntry g L start) (updating g L start s n) t a at updating_block

    module _ (j : ℕ) (lo : start ≤ j) (hi : j < start + width g L) where
      back : start + (width g L - suc (turn g L start j)) ≡ j
      back = omega arith

      pub updating_made : L < g → entry_address g j < length a → turn g L start j < t
          → entry_at (exec (updating g L start s n) t a) g j ≡ entry (pick (ltb j (start + width g (suc L))) s n) (suc L)
      unfolding updating
      updating_made l inside m =
          let read =
          single_made (λ u. entry_address g (start + (width g L - suc u))) (half_entry g L s n) (width g L) t a
          (λ x y p q e. omega (arith, entry_inj g (start + (width g L - suc x)) (start + (width g L - suc y)) e))
          (turn g L start j) (omega arith) m (rw back inside) in
          rw back at read ∙ half_entry_holds j l lo hi

      pub updating_not_made : t ≤ turn g L start j → entry_at (exec (updating g L start s n) t a) g j ≡ entry_at a g j
      unfolding updating
      updating_not_made m =
          let read =
          single_not_made (λ u. entry_address g (start + (width g L - suc u))) (half_entry g L s n) (width g L) t a
          (λ x y p q e. omega (arith, entry_inj g (start + (width g L - suc x)) (start + (width g L - suc y)) e))
          (turn g L start j) (omega arith) m in
          rw back at read

  -- All of the stores.
  pub updating_whole : (a : List ℕ) → exec (updating g L start s n) (width g L) a ≡ apply (updating g L start s n) a
  updating_whole a = exec_all (updating g L start s n) (width g L) a (omega (arith, length_updating))

-- ---- The halved directory

-- The stores for index i's block in the directory f.
abbrev pub updates : (g : ℕ) → (ℕ → ℕ) → (i n : ℕ) → List Store
updates g f i n = updating g (local_depth (f i)) (block_start g (local_depth (f i)) i) (segment_of (f i)) n

-- The number of the one at index j.
abbrev pub turn_of : (g : ℕ) → (ℕ → ℕ) → (i j : ℕ) → ℕ
turn_of g f i j = turn g (local_depth (f i)) (block_start g (local_depth (f i)) i) j

module _ (g : ℕ) (f : ℕ → ℕ) (i n : ℕ) (room : local_depth (f i) < g) (a : List ℕ) (t : ℕ) where
  pub entry_made : (j : ℕ) → SameBlock g f i j → entry_address g j < length a → turn_of g f i j < t
      → entry_at (exec (updates g f i n) t a) g j ≡ halved_directory g f i n j
  unfolding halved_directory
  entry_made j e inside l =
      let L : ℕ = local_depth (f i) in
      let made =
      updating_made g L (block_start g L i) (segment_of (f i)) n a t j (block_from g L i j e) (block_to g L i j e) room inside l in
      rw (eq-eqb (block_bits g L j) (bits_at g f i) e)
      (made
      ∙ ap (λ (s : ℕ). entry s (suc L))
      (ap (λ (b : Bool). pick b (segment_of (f i)) n) (left_half g L i j e room)
      ∙ pick_not (eqb (block_bits g (suc L) j % 2) 1) (segment_of (f i)) n))

  pub entry_not_made : (j : ℕ) → SameBlock g f i j → t ≤ turn_of g f i j
      → entry_at (exec (updates g f i n) t a) g j ≡ entry_at a g j
  entry_not_made j e l =
      let L : ℕ = local_depth (f i) in
      updating_not_made g L (block_start g L i) (segment_of (f i)) n a t j (block_from g L i j e) (block_to g L i j e) l

  pub entry_outside : (j : ℕ) → (SameBlock g f i j → ⊥) → entry_at (exec (updates g f i n) t a) g j ≡ entry_at a g j
  entry_outside j u =
      let L : ℕ = local_depth (f i) in
      updating_elsewhere g L (block_start g L i) (segment_of (f i)) n a t (entry_address g j)
      (λ q.
      let e : j ≡ q.number = entry_inj g j q.number q.address in
      u (block_same g L i j (omega (arith, q.from)) (omega (arith, q.to))))

  -- Before the last store, the first entry of every block is as it was.
  pub leaders_not_made : {S : ℕ} → Blocks g S f → i < 2 ^ g → t < width g (local_depth (f i))
      → (j : ℕ) → j < 2 ^ g → block_start g (local_depth (f j)) j ≡ j → entry_at (exec (updates g f i n) t a) g j ≡ entry_at a g j
  leaders_not_made dir below early j h first =
      let L : ℕ = local_depth (f i) in
      by_equal (block_bits g L j) (bits_at g f i)
      (λ same.
      let own : block_start g L j ≡ j = rw (dir.blocks i j below h same) at first in
      entry_not_made j same (omega (arith, same_start g L i j same)))
      (λ e. entry_outside j e)

-- After the last store, every entry of an array that had f's is the halved directory's.
pub all_made : (g : ℕ) (f : ℕ → ℕ) (i n : ℕ) → local_depth (f i) < g → (a : List ℕ) (j : ℕ) → entry_address g j < length a → entry_at a g j ≡ f j
    → Place g f i n j → entry_at (apply (updates g f i n) a) g j ≡ halved_directory g f i n j
all_made g f i n room a j inside same (inl p) =
    let L : ℕ = local_depth (f i) in
    let e = p.block_bits_holds in
    rw (← updating_whole g L (block_start g L i) (segment_of (f i)) n a)
    (entry_made g f i n room a (width g L) j e inside (omega (arith, block_from g L i j e, block_to g L i j e)))
all_made g f i n room a j inside same (inr q) =
    let L : ℕ = local_depth (f i) in
    rw (← updating_whole g L (block_start g L i) (segment_of (f i)) n a)
    (entry_outside g f i n room a (width g L) j q.other ∙ same ∙ sym q.kept)
