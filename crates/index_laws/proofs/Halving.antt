-- What the copy step and the entry update of a split leave, on any array with a valid word 0 and the key's own entry in range.
use mathlib.Core.Path.{◌≡◌, refl, sym, ap, ◌∙◌}
use mathlib.Core.Bool.{Bool, not}
use mathlib.Core.List.{List, [], ◌∷◌, ◌++◌}
use Prim.Native.Nat.{ℕ, suc, ◌+◌, ◌*◌, ◌%◌, ◌^◌, ◌≤◌, ◌<◌}
use native.Mathlib.Omega.{arith}
use lib.Dec.{ltb, eqb}
use lib.ListN.{length}
use lib.Pow.{pow_mono, pow_pos}
use Rattle.stores.specs.Lists.{pick}
use Rattle.stores.specs.Store.{Store, word, store, apply, Every}
use Rattle.stores.proofs.Tests.{pick_not}
use Rattle.stores.proofs.Lists.{every_append, every_each, every_map, every_pick}
use Rattle.stores.proofs.Stores.{apply_append, length_apply}
use Rattle.stores.proofs.Prefixes.{apply_elsewhere}
use Rattle.index_rules.specs.Layout.{depth_in, depth, max_depth, segments, words_for, entry_address, entry_at, entry, segment_of, local_depth, segment_address, key_address, value_address, key_at}
use Rattle.index_rules.specs.Keys.{bit, index, width, block_bits, block_start, live}
use Rattle.index_rules.specs.Get.{key_entry}
use Rattle.index_rules.specs.Split.{moves, copy_slot, copying, updating, halving_of, halving}
use Rattle.index_laws.proofs.Words.{ValidHeader, entry_inside, entry_positive, entry_from, entry_to, Within, Inside, key_within, value_within, within_inside, directories_below}
use Rattle.index_laws.proofs.Keys.{bit_lt, live_split, index_suc, index_lt, index_shift, block_start_le, in_block, block_end}
use Rattle.index_laws.proofs.Updating.{left_half, BlockEntry, updating_block, updating_made, updating_whole}
use Rattle.index_laws.proofs.Doubling.{DirectoryWord, entry_of_key}

-- ---- Copying

-- A record moves where its key is live in the right half.
pub moves_live : (a : List ℕ) (from L bits j : ℕ) → moves a from L bits j ≡ live (suc L) (2 * bits + 1) (key_at a from j)
unfolding moves
moves_live a from L bits j = sym (live_split L bits 1 (key_at a from j) (omega arith))

-- The copy step writes only in the new segment n.
pub copying_within : (a : List ℕ) (from D n L bits : ℕ)
    → Every (λ s. Within D n s.at) (copying a from (segment_address D n) L bits)
unfolding copying copy_slot
copying_within a from D n L bits =
    every_each (λ s. Within D n s.at) (copy_slot a from (segment_address D n) L bits) 64
    (λ j h.
    every_pick (λ s. Within D n s.at) (moves a from L bits j)
    (store (value_address (segment_address D n) j) _ ∷ store (key_address (segment_address D n) j) _ ∷ [])
    (store (key_address (segment_address D n) j) 0 ∷ [])
    (value_within D n j h, (key_within D n j h, Prim.tt)) (key_within D n j h, Prim.tt))

-- ---- Steps 3 and 4 for the key's block

-- The key's index is in the right half of its block where its directory bit number L is 1.
key_half : (key g L : ℕ) → L < g → ltb (index key g) (block_start g L (index key g) + width g (suc L)) ≡ not (eqb (bit key L) 1)
key_half key g L h =
    let next : block_bits g (suc L) (index key g) ≡ 2 * index key L + bit key L = index_shift key g (suc L) h ∙ index_suc key L in
    let last : block_bits g (suc L) (index key g) % 2 ≡ bit key L = omega (arith, bit_lt key L) in
    left_half g L (index key g) (index key g) refl h ∙ rw last

-- The first index of the key's block.
abbrev pub key_start : List ℕ → (key : ℕ) → ℕ
key_start a key = block_start (depth a) (local_depth (key_entry a key)) (index key (depth a))

-- The first L bits that all indices of the key's block share.
abbrev pub key_bits : List ℕ → (key : ℕ) → ℕ
key_bits a key = block_bits (depth a) (local_depth (key_entry a key)) (index key (depth a))

-- Step 3 and step 4 by themselves.
abbrev pub key_copies : List ℕ → (key n : ℕ) → List Store
key_copies a key n =
    copying
    a
    (segment_address (max_depth a) (segment_of (key_entry a key)))
    (segment_address (max_depth a) n)
    (local_depth (key_entry a key))
    (key_bits a key)

abbrev pub key_updates : List ℕ → (key n : ℕ) → List Store
key_updates a key n = updating (depth a) (local_depth (key_entry a key)) (key_start a key) (segment_of (key_entry a key)) n

pub halving_parts : (a : List ℕ) (key n : ℕ) → halving a key n ≡ key_copies a key n ++ key_updates a key n
unfolding halving halving_of
halving_parts a key n = refl

-- What steps 3 and 4 leave.
pub record Halved (a : List ℕ) (key n : ℕ) (b : List ℕ) : Type 0 where
  pub word_0 : word b 0 ≡ word a 0
  pub length_kept : length b ≡ length a
  pub key_entry_holds : key_entry b key
      ≡ entry (pick (eqb (bit key (local_depth (key_entry a key))) 1) n (segment_of (key_entry a key))) (suc (local_depth (key_entry a key)))

-- Step 3 writes only in the new segment, and step 4 only entries of the key's block in the present directory.
pub copies_within : (a : List ℕ) (key n : ℕ) → Every (λ x. Within (max_depth a) n x.at) (key_copies a key n)
copies_within a key n =
    copying_within a (segment_address (max_depth a) (segment_of (key_entry a key))) (max_depth a) n (local_depth (key_entry a key))
    (key_bits a key)

pub updates_block : (a : List ℕ) (key n : ℕ)
    → Every (λ x. BlockEntry (depth a) (local_depth (key_entry a key)) (key_start a key) x.at) (key_updates a key n)
updates_block a key n =
    updating_block (depth a) (local_depth (key_entry a key)) (key_start a key) (segment_of (key_entry a key)) n

module _ (a : List ℕ) (key n : ℕ) (v : ValidHeader a) (f : n < segments a) where
  pub copies_inside : Every (λ x. Inside (max_depth a) (segments a) x.at) (key_copies a key n)
  copies_inside =
      every_map (λ x. Within (max_depth a) n x.at) (λ x. Inside (max_depth a) (segments a) x.at)
      (λ x w. within_inside (max_depth a) (segments a) n x.at f w) (key_copies a key n) (copies_within a key n)

  pub copies_in_range : Every (λ s. s.at < words_for (max_depth a) (segments a)) (key_copies a key n)
  copies_in_range =
      every_map (λ x. Inside (max_depth a) (segments a) x.at) (λ s. s.at < words_for (max_depth a) (segments a)) (λ x i. i.below)
      (key_copies a key n) copies_inside

  -- The copies leave word 0 and the directories.
  pub copies_elsewhere : (i : ℕ) → i < 2 ^ suc (max_depth a) → word (apply (key_copies a key n) a) i ≡ word a i
  copies_elsewhere i h =
      apply_elsewhere (Inside (max_depth a) (segments a)) (key_copies a key n) a i copies_inside (λ w. let b = w.behind in omega arith)

  -- They leave an array in which each entry stands.
  pub copies_room : (i : ℕ) → i < 2 ^ depth a → entry_address (depth a) i < length (apply (key_copies a key n) a)
  copies_room i h =
      rw (length_apply (key_copies a key n) a)
      (omega (arith, entry_inside (max_depth a) (depth a) i v.present h, directories_below (max_depth a) (segments a), v.room))

  module _ (l : local_depth (key_entry a key) ≤ depth a) where
    block_fits : key_start a key + width (depth a) (local_depth (key_entry a key)) ≤ 2 ^ depth a
    block_fits = block_end (depth a) (local_depth (key_entry a key)) (index key (depth a)) l (index_lt key (depth a))

    pub updates_entries : Every (λ x. DirectoryWord (depth a) x.at) (key_updates a key n)
    updates_entries =
        every_map (λ x. BlockEntry (depth a) (local_depth (key_entry a key)) (key_start a key) x.at) (λ x. DirectoryWord (depth a) x.at)
        (λ x e.
        let t = e.to in
        let h : e.number < 2 ^ depth a = omega (arith, block_fits) in
        rw e.address (record { from = entry_from (depth a) e.number; to = entry_to (depth a) e.number h }))
        (key_updates a key n) (updates_block a key n)

    pub updates_in_range : Every (λ s. s.at < words_for (max_depth a) (segments a)) (key_updates a key n)
    updates_in_range =
        let p : 2 ^ suc (depth a) ≤ 2 ^ suc (max_depth a) = pow_mono {i = suc (depth a)} {j = suc (max_depth a)} (let h = v.present in omega arith) in
        let q : 2 ^ suc (max_depth a) ≤ words_for (max_depth a) (segments a) = directories_below (max_depth a) (segments a) in
        every_map (λ x. DirectoryWord (depth a) x.at) (λ s. s.at < words_for (max_depth a) (segments a)) (λ x e. let t = e.to in omega arith)
        (key_updates a key n) updates_entries

    pub halving_in_range : Every (λ s. s.at < words_for (max_depth a) (segments a)) (halving a key n)
    halving_in_range =
        rw (halving_parts a key n)
        (every_append (λ s. s.at < words_for (max_depth a) (segments a)) (key_copies a key n) (key_updates a key n) copies_in_range updates_in_range)

  module _ (l : local_depth (key_entry a key) < depth a) where
    -- The array that the copies leave.
    abbrev after_copies : List ℕ
    after_copies = apply (key_copies a key n) a

    parted : apply (halving a key n) a ≡ apply (key_updates a key n) after_copies
    parted = rw (halving_parts a key n) (apply_append (key_copies a key n) (key_updates a key n) a)

    halved_word_0 : word (apply (halving a key n) a) 0 ≡ word a 0
    halved_word_0 =
        rw parted
        (apply_elsewhere (BlockEntry (depth a) (local_depth (key_entry a key)) (key_start a key)) (key_updates a key n) after_copies 0 (updates_block a key n)
        (λ w. let e : 0 ≡ entry_address (depth a) w.number = w.address in omega (arith, entry_positive (depth a) w.number))
        ∙ copies_elsewhere 0 (pow_pos (suc (max_depth a))))

    -- The key's own entry is read as any of its block.
    halved_own : entry_at (apply (halving a key n) a) (depth a) (index key (depth a))
        ≡ entry
        (pick (ltb (index key (depth a)) (key_start a key + width (depth a) (suc (local_depth (key_entry a key))))) (segment_of (key_entry a key)) n)
        (suc (local_depth (key_entry a key)))
    halved_own =
        let L : ℕ = local_depth (key_entry a key) in
        let i : ℕ = index key (depth a) in
        let from : key_start a key ≤ i = block_start_le (depth a) L i in
        let to : i < key_start a key + width (depth a) L = in_block (depth a) L i in
        rw (parted, ← updating_whole (depth a) L (key_start a key) (segment_of (key_entry a key)) n after_copies)
        (updating_made (depth a) L (key_start a key) (segment_of (key_entry a key)) n after_copies (width (depth a) L) i from to l
        (copies_room i (index_lt key (depth a))) (omega arith))

    halved_key_entry : key_entry (apply (halving a key n) a) key
        ≡ entry
        (pick (eqb (bit key (local_depth (key_entry a key))) 1) n (segment_of (key_entry a key)))
        (suc (local_depth (key_entry a key)))
    halved_key_entry =
        let L : ℕ = local_depth (key_entry a key) in
        let i : ℕ = index key (depth a) in
        entry_of_key (apply (halving a key n) a) key (depth a) (ap depth_in halved_word_0)
        ∙ halved_own
        ∙ ap (λ (s : ℕ). entry s (suc L))
        (ap (λ (t : Bool). pick t (segment_of (key_entry a key)) n) (key_half key (depth a) L l)
        ∙ pick_not (eqb (bit key L) 1) (segment_of (key_entry a key)) n)

    pub after_halving : Halved a key n (apply (halving a key n) a)
    after_halving =
        record {
          word_0 = halved_word_0;
          length_kept = length_apply (halving a key n) a;
          key_entry_holds = halved_key_entry;
        }
