-- Two halves of a block joined: what a merge makes of a consistent directory, and what stands in it after any number of the stores of its
-- entries, from left to right.
use mathlib.Core.Path.{◌≡◌, refl, sym, ap, ◌∙◌}
use mathlib.Core.Bool.{true, false, not}
use mathlib.Core.List.{List, [], ◌∷◌}
use mathlib.Core.Logic.{◌⊎◌, inl, inr, ⊎_elim}
use Prim.Native.Nat.{ℕ, suc, ◌+◌, ◌*◌, ◌-◌, ◌%◌, ◌^◌, ◌≤◌, ◌<◌}
use native.Mathlib.Omega.{arith}
use borrow.Author.Tests.{eqb-true, eqb-false, eq-eqb, ne_eqb, leb-true, leb-false, lt-ltb, le-ltb, not-true, not-false}
use lib.Dec.{eqb}
use lib.ListN.{length}
use Rattle.stores.specs.Lists.{pick}
use Rattle.stores.specs.Store.{word, store, apply, exec, Every}
use Rattle.stores.proofs.Tests.{by_test, by_equal, by_at_most, pick_below}
use Rattle.stores.proofs.Lists.{every_each, length_each_ones}
use Rattle.stores.proofs.Stores.{exec_all}
use Rattle.stores.proofs.Prefixes.{exec_elsewhere, single_made, single_not_made}
use Rattle.index_rules.specs.Layout.{entry_address, entry_at, entry, segment_of, local_depth}
use Rattle.index_rules.specs.Keys.{width, block_bits, block_start}
use Rattle.index_rules.specs.Merge.{right_start, on_right, buddy_start, joining}
use Rattle.index_laws.proofs.Words.{entry_segment, entry_depth, entry_eta, entry_inj}
use Rattle.index_laws.proofs.Keys.{width_half, width_pos, block_start_bits, block_start_le, bits_at, bits_half, block_end, block_same}
use Rattle.index_laws.proofs.Blocks.{SameBlock, Blocks, halved_directory}
use Rattle.index_laws.proofs.Updating.{left_half, block_from, block_to, BlockEntry}

-- ---- The halves of the block of local depth M that holds index i

module _ (g M i : ℕ) (room : M < g) where
  -- Where the block and its right half begin.
  start_left : block_start g M i ≡ width g (suc M) * (2 * block_bits g M i)
  start_left = block_start_bits g M i ∙ rw (width_half g M room) (omega arith)

  start_right : right_start g M i ≡ width g (suc M) * (2 * block_bits g M i + 1)
  unfolding right_start
  start_right = omega (arith, start_left)

  -- The bits of the half that begins there.
  pub bits_left : block_bits g (suc M) (block_start g M i) ≡ 2 * block_bits g M i
  bits_left = ap (block_bits g (suc M)) start_left ∙ bits_at g (suc M) (2 * block_bits g M i)

  pub bits_right : block_bits g (suc M) (right_start g M i) ≡ 2 * block_bits g M i + 1
  bits_right = ap (block_bits g (suc M)) start_right ∙ bits_at g (suc M) (2 * block_bits g M i + 1)

  -- The bits of the half that holds index i.
  own_right : on_right g M i ≡ true → block_bits g (suc M) i ≡ 2 * block_bits g M i + 1
  unfolding on_right right_start
  own_right t =
      let q : ℕ = block_bits g (suc M) i in
      let past = le-ltb i (block_start g M i + width g (suc M)) (leb-true (block_start g M i + width g (suc M)) i t) in
      let odd : not (eqb (q % 2) 1) ≡ false = sym (left_half g M i i refl room) ∙ past in
      omega (arith, eqb-true (q % 2) 1 (not-false (eqb (q % 2) 1) odd), bits_half g M i room)

  own_left : on_right g M i ≡ false → block_bits g (suc M) i ≡ 2 * block_bits g M i
  unfolding on_right right_start
  own_left t =
      let q : ℕ = block_bits g (suc M) i in
      let before = lt-ltb i (block_start g M i + width g (suc M)) (leb-false (block_start g M i + width g (suc M)) i t) in
      let even : not (eqb (q % 2) 1) ≡ true = sym (left_half g M i i refl room) ∙ before in
      omega (arith, eqb-false (q % 2) 1 (not-true (eqb (q % 2) 1) even), bits_half g M i room)

  -- Both begin within the directory, and so does the buddy.
  module _ (below : i < 2 ^ g) where
    right_end : right_start g M i + width g (suc M) ≤ 2 ^ g
    unfolding right_start
    right_end = omega (arith, block_end g M i (omega arith) below, width_half g M room)

    pub right_inside : right_start g M i < 2 ^ g
    right_inside = omega (arith, right_end, width_pos g (suc M))

    pub left_inside : block_start g M i < 2 ^ g
    left_inside = omega (arith, block_start_le g M i)

    pub buddy_inside : buddy_start g M i < 2 ^ g
    unfolding buddy_start
    buddy_inside = pick_below (on_right g M i) (block_start g M i) (right_start g M i) (2 ^ g) left_inside right_inside

-- The halves have the local depth M + 1 and name the segments `left` and `right`.
pub record TwoHalves (g M : ℕ) (f : ℕ → ℕ) (i left right : ℕ) : Type 0 where
  pub room : M < g
  pub on_left : (j : ℕ) → j < 2 ^ g → block_bits g (suc M) j ≡ 2 * block_bits g M i → f j ≡ entry left (suc M)
  pub on_right_holds : (j : ℕ) → j < 2 ^ g → block_bits g (suc M) j ≡ 2 * block_bits g M i + 1 → f j ≡ entry right (suc M)

-- They do where index i and the first index of the other half have that local depth, in a consistent directory.
module _ {g S : ℕ} {f : ℕ → ℕ} (dir : Blocks g S f) (M i : ℕ) (below : i < 2 ^ g) (own : local_depth (f i) ≡ suc M)
    (other : local_depth (f (buddy_start g M i)) ≡ suc M) where
  halves_room : M < g
  halves_room = rw own at (dir.depths i below)

  -- One entry stands in the half of index s.
  one_half : (s j : ℕ) → s < 2 ^ g → j < 2 ^ g → local_depth (f s) ≡ suc M → block_bits g (suc M) j ≡ block_bits g (suc M) s
      → f j ≡ entry (segment_of (f s)) (suc M)
  one_half s j h k d e =
      dir.blocks s j h k (rw d e) ∙ sym (entry_eta (f s)) ∙ ap (entry (segment_of (f s))) d

  pub two_halves : TwoHalves g M f i (segment_of (pick (on_right g M i) (f (buddy_start g M i)) (f i)))
      (segment_of (pick (on_right g M i) (f i) (f (buddy_start g M i))))
  unfolding buddy_start
  two_halves =
      let inside = buddy_inside g M i halves_room below in
      by_test (on_right g M i)
      (λ t.
      rw t
      (record {
        room = halves_room;
        on_left = λ j h e. one_half (block_start g M i) j (rw t at inside) h (rw t at other) (e ∙ sym (bits_left g M i halves_room));
        on_right_holds = λ j h e. one_half i j below h own (e ∙ sym (own_right g M i halves_room t));
      }))
      (λ t.
      rw t
      (record {
        room = halves_room;
        on_left = λ j h e. one_half i j below h own (e ∙ sym (own_left g M i halves_room t));
        on_right_holds = λ j h e. one_half (right_start g M i) j (rw t at inside) h (rw t at other) (e ∙ sym (bits_right g M i halves_room));
      }))

-- Only the entries below 2^g count.
pub halves_same : {g M : ℕ} {f : ℕ → ℕ} {i left right : ℕ} → TwoHalves g M f i left right → (k : ℕ → ℕ) → ((j : ℕ) → j < 2 ^ g → k j ≡ f j)
    → TwoHalves g M k i left right
halves_same h k same =
    record {
      room = h.room;
      on_left = λ j l e. same j l ∙ h.on_left j l e;
      on_right_holds = λ j l e. same j l ∙ h.on_right_holds j l e;
    }

-- ---- The joined directory

-- The directory after a merge: the block of local depth M that holds index i has one entry, of the segment s.
unfoldable pub joined_directory : (g M : ℕ) → (ℕ → ℕ) → (i s : ℕ) → ℕ → ℕ
joined_directory g M f i s j = pick (eqb (block_bits g M j) (block_bits g M i)) (entry s M) (f j)

pub joined_in : (g M : ℕ) (f : ℕ → ℕ) (i s j : ℕ) → block_bits g M j ≡ block_bits g M i → joined_directory g M f i s j ≡ entry s M
unfolding joined_directory
joined_in g M f i s j e = rw (eq-eqb (block_bits g M j) (block_bits g M i) e)

pub joined_out : (g M : ℕ) (f : ℕ → ℕ) (i s j : ℕ) → (block_bits g M j ≡ block_bits g M i → ⊥) → joined_directory g M f i s j ≡ f j
unfolding joined_directory
joined_out g M f i s j u = rw (ne_eqb (block_bits g M j) (block_bits g M i) u)

module _ {g M : ℕ} {f : ℕ → ℕ} {i left right : ℕ} (h : TwoHalves g M f i left right) where
  -- An index of the joined block is in one of the halves.
  pub in_half : (j : ℕ) → block_bits g M j ≡ block_bits g M i
      → (block_bits g (suc M) j ≡ 2 * block_bits g M i) ⊎ (block_bits g (suc M) j ≡ 2 * block_bits g M i + 1)
  in_half j e =
      let q : ℕ = block_bits g (suc M) j in
      by_equal (q % 2) 0 (λ t. inl (omega (arith, bits_half g M j h.room, t))) (λ t. inr (omega (arith, bits_half g M j h.room, t)))

  -- An index of a half is in the joined block.
  pub half_in : (j b : ℕ) → b < 2 → block_bits g (suc M) j ≡ 2 * block_bits g M i + b → block_bits g M j ≡ block_bits g M i
  half_in j b small e = omega (arith, bits_half g M j h.room)

  module _ {S : ℕ} (fits : S < 2 ^ 32) (left_below : left < S) where
    pub joined_segment : (j : ℕ) → block_bits g M j ≡ block_bits g M i → segment_of (joined_directory g M f i left j) ≡ left
    joined_segment j e = rw (joined_in g M f i left j e) (entry_segment left M (omega arith))

    pub joined_depth_holds : (j : ℕ) → block_bits g M j ≡ block_bits g M i → local_depth (joined_directory g M f i left j) ≡ M
    joined_depth_holds j e = rw (joined_in g M f i left j e) (entry_depth left M (omega arith))

    module _ (right_below : right < S) where
      -- Every index of the joined block has the local depth M + 1 before.
      pub half_depth : (j : ℕ) → j < 2 ^ g → block_bits g M j ≡ block_bits g M i → local_depth (f j) ≡ suc M
      half_depth j k e =
          ⊎_elim
          (λ q. rw (h.on_left j k q) (entry_depth left (suc M) (omega arith)))
          (λ q. rw (h.on_right_holds j k q) (entry_depth right (suc M) (omega arith)))
          (in_half j e)

      module _ (dir : Blocks g S f) where
        -- An index whose block before reaches into the joined block is in it.
        reaches_in : (k j : ℕ) → k < 2 ^ g → j < 2 ^ g → SameBlock g f k j → block_bits g M j ≡ block_bits g M i → block_bits g M k ≡ block_bits g M i
        reaches_in k j hk hj e q =
            let d : local_depth (f k) ≡ suc M = ap local_depth (sym (dir.blocks k j hk hj e)) ∙ half_depth j hj q in
            let same : block_bits g (suc M) j ≡ block_bits g (suc M) k = rw d at e in
            omega (arith, bits_half g M k h.room, bits_half g M j h.room)

        joined_entries : (k j : ℕ) → k < 2 ^ g → j < 2 ^ g → SameBlock g (joined_directory g M f i left) k j
            → joined_directory g M f i left j ≡ joined_directory g M f i left k
        joined_entries k j hk hj e =
            by_equal (block_bits g M k) (block_bits g M i)
            (λ inside.
            let same : block_bits g M j ≡ block_bits g M k = rw (joined_depth_holds k inside) at e in
            joined_in g M f i left j (same ∙ inside) ∙ sym (joined_in g M f i left k inside))
            (λ outside.
            let kept = joined_out g M f i left k outside in
            let before : SameBlock g f k j = rw kept at e in
            joined_out g M f i left j (λ q. outside (reaches_in k j hk hj before q)) ∙ dir.blocks k j hk hj before ∙ sym kept)

        -- The joined directory is consistent.
        pub joined_blocks : Blocks g S (joined_directory g M f i left)
        joined_blocks =
            record {
              depths = λ j k.
                  by_place j (λ x. local_depth x ≤ g) (λ e. rw (entry_depth left M (omega arith)) (omega (arith, h.room))) (λ u. dir.depths j k);
              below = λ j k.
                  by_place j (λ x. segment_of x < S) (λ e. rw (entry_segment left M (omega arith)) left_below) (λ u. dir.below j k);
              blocks = joined_entries;
            }
          where
            by_place : (j : ℕ) (P : ℕ → Type 0) → (block_bits g M j ≡ block_bits g M i → P (entry left M))
                → ((block_bits g M j ≡ block_bits g M i → ⊥) → P (f j)) → P (joined_directory g M f i left j)
            by_place j P inside outside =
                by_equal (block_bits g M j) (block_bits g M i)
                (λ e. rw (joined_in g M f i left j e) (inside e))
                (λ u. rw (joined_out g M f i left j u) (outside u))

    -- Halved again, with the segment of the right half, it is the directory before: a merge undoes a split.
    pub halved_again : (j : ℕ) → j < 2 ^ g → halved_directory g (joined_directory g M f i left) i right j ≡ f j
    unfolding halved_directory
    halved_again j k =
        by_test (eqb (block_bits g M j) (block_bits g M i))
        (λ t.
        let e = eqb-true (block_bits g M j) (block_bits g M i) t in
        rw (joined_depth_holds i refl, joined_segment i refl, t)
        (⊎_elim
        (λ (q : block_bits g (suc M) j ≡ 2 * block_bits g M i).
        rw (ne_eqb (block_bits g (suc M) j % 2) 1 (λ o. omega arith)) (sym (h.on_left j k q)))
        (λ (q : block_bits g (suc M) j ≡ 2 * block_bits g M i + 1).
        rw (eq-eqb (block_bits g (suc M) j % 2) 1 (omega arith)) (sym (h.on_right_holds j k q)))
        (in_half j e)))
        (λ t. rw (joined_depth_holds i refl, t) (joined_out g M f i left j (eqb-false (block_bits g M j) (block_bits g M i) t)))

-- ---- The stores of the entries

module _ (g M start s : ℕ) where
  pub length_joining : length (joining g M start s) ≡ width g M
  unfolding joining
  length_joining = length_each_ones (λ t. store (entry_address g (start + t)) (entry s M)) (width g M)

  -- Only entries of the block are stored.
  pub joining_block : Every (λ x. BlockEntry g M start x.at) (joining g M start s)
  unfolding joining
  joining_block =
      every_each (λ x. BlockEntry g M start x.at) (λ t. store (entry_address g (start + t)) (entry s M) ∷ []) (width g M)
      (λ t h. (record { number = start + t; from = omega arith; to = omega arith; address = refl }, Prim.tt))

  -- After t of the stores, an entry of the block is stored or not; other words stay.
  module _ (a : List ℕ) (t : ℕ) where
    pub joining_elsewhere : (at : ℕ) → (BlockEntry g M start at → ⊥) → word (exec (joining g M start s) t a) at ≡ word a at
    joining_elsewhere at = exec_elsewhere (BlockEntry g M start) (joining g M start s) t a at joining_block

    module _ (j : ℕ) (lo : start ≤ j) (hi : j < start + width g M) where
      back : start + (j - start) ≡ j
      back = omega arith

      pub joining_made : entry_address g j < length a → j < start + t → entry_at (exec (joining g M start s) t a) g j ≡ entry s M
      unfolding joining
      joining_made inside l =
          let read =
          single_made (λ u. entry_address g (start + u)) (λ u. entry s M) (width g M) t a
          (λ x y p q e. omega (arith, entry_inj g (start + x) (start + y) e))
          (j - start) (omega arith) (omega arith) (rw back inside) in
          rw back at read

      pub joining_not_made : start + t ≤ j → entry_at (exec (joining g M start s) t a) g j ≡ entry_at a g j
      unfolding joining
      joining_not_made l =
          let read =
          single_not_made (λ u. entry_address g (start + u)) (λ u. entry s M) (width g M) t a
          (λ x y p q e. omega (arith, entry_inj g (start + x) (start + y) e))
          (j - start) (omega arith) (omega arith) in
          rw back at read

-- In the directory f, whose block of local depth M holds index i: an entry after t of the stores is f's, or the joined directory's.
module _ (g M : ℕ) (f : ℕ → ℕ) (i s : ℕ) (a : List ℕ) (t : ℕ) (j : ℕ) (inside : entry_address g j < length a) where
  -- One of the first t in the block.
  pub entry_joined : block_bits g M j ≡ block_bits g M i → j < block_start g M i + t
      → entry_at (exec (joining g M (block_start g M i) s) t a) g j ≡ joined_directory g M f i s j
  entry_joined e l =
      joining_made g M (block_start g M i) s a t j (block_from g M i j e) (block_to g M i j e) inside l ∙ sym (joined_in g M f i s j e)

  -- Behind them.
  pub entry_behind : block_bits g M j ≡ block_bits g M i → block_start g M i + t ≤ j
      → entry_at (exec (joining g M (block_start g M i) s) t a) g j ≡ entry_at a g j
  entry_behind e l = joining_not_made g M (block_start g M i) s a t j (block_from g M i j e) (block_to g M i j e) l

  -- Outside the block.
  pub entry_apart : (block_bits g M j ≡ block_bits g M i → ⊥) → entry_at (exec (joining g M (block_start g M i) s) t a) g j ≡ entry_at a g j
  entry_apart u =
      joining_elsewhere g M (block_start g M i) s a t (entry_address g j)
      (λ q.
      let e : j ≡ q.number = entry_inj g j q.number q.address in
      u (block_same g M i j (omega (arith, q.from)) (omega (arith, q.to))))

  -- Once the first entry of the block is stored, an entry where a block of the joined directory begins is the joined directory's.
  pub begins_joined : entry_at a g j ≡ f j → 0 < t → (block_bits g M j ≡ block_bits g M i → block_start g M i ≡ j)
      → entry_at (exec (joining g M (block_start g M i) s) t a) g j ≡ joined_directory g M f i s j
  begins_joined same some first =
      by_equal (block_bits g M j) (block_bits g M i)
      (λ e. entry_joined e (omega (arith, first e)))
      (λ u. entry_apart u ∙ same ∙ sym (joined_out g M f i s j u))

  pub either_joined : entry_at a g j ≡ f j
      → (entry_at (exec (joining g M (block_start g M i) s) t a) g j ≡ joined_directory g M f i s j)
      ⊎ (entry_at (exec (joining g M (block_start g M i) s) t a) g j ≡ f j)
  either_joined same =
      by_equal (block_bits g M j) (block_bits g M i)
      (λ e. by_at_most (block_start g M i + t) j (λ l. inr (entry_behind e l ∙ same)) (λ l. inl (entry_joined e l)))
      (λ u. inr (entry_apart u ∙ same))

-- After all of them every entry of an array that had f's is the joined directory's.
pub all_joined : (g M : ℕ) (f : ℕ → ℕ) (i s : ℕ) (a : List ℕ) (j : ℕ) → entry_address g j < length a → entry_at a g j ≡ f j
    → entry_at (apply (joining g M (block_start g M i) s) a) g j ≡ joined_directory g M f i s j
all_joined g M f i s a j inside same =
    let whole : exec (joining g M (block_start g M i) s) (width g M) a ≡ apply (joining g M (block_start g M i) s) a =
    exec_all (joining g M (block_start g M i) s) (width g M) a (omega (arith, length_joining g M (block_start g M i) s)) in
    by_equal (block_bits g M j) (block_bits g M i)
    (λ e. rw (← whole) (entry_joined g M f i s a (width g M) j inside e (block_to g M i j e)))
    (λ u. rw (← whole) (entry_apart g M f i s a (width g M) j inside u ∙ same ∙ sym (joined_out g M f i s j u)))
