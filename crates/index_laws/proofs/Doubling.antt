-- What the doubling of the directory leaves, on any array with a valid word 0.
use mathlib.Core.Path.{◌≡◌, refl, sym, ap, ◌∙◌}
use mathlib.Core.List.{List, [], ◌∷◌, ◌++◌}
use Prim.Native.Nat.{ℕ, suc, ◌/◌, ◌^◌, ◌≤◌, ◌<◌}
use native.Mathlib.Omega.{arith}
use lib.ListN.{length}
use lib.Pow.{pow_mono, pow_pos}
use Rattle.stores.specs.Lists.{each}
use Rattle.stores.specs.Store.{Store, word, store, apply, Every}
use Rattle.stores.proofs.Lists.{every_append, every_each, every_map}
use Rattle.stores.proofs.Stores.{apply_append, length_apply, word_set_same, word_set_other, word_elsewhere, read_each}
use Rattle.index_rules.specs.Layout.{mark, header, mark_in, depth, max_depth, segments, words_for, entry_address, entry_at}
use Rattle.index_rules.specs.Keys.{index}
use Rattle.index_rules.specs.Get.{key_entry}
use Rattle.index_rules.specs.Split.{doubling}
use Rattle.index_laws.proofs.Words.{ValidHeader, small, header_depth, header_max_depth, header_segments, header_mark, entry_positive, entry_inj, entry_from, entry_to, directories_below}
use Rattle.index_laws.proofs.Keys.{index_lt, index_half}

-- The key's entry, where the depth is g.
pub entry_of_key : (a : List ℕ) (key g : ℕ) → depth a ≡ g → key_entry a key ≡ entry_at a g (index key g)
unfolding key_entry
entry_of_key a key g e = rw e

-- The stores of a doubling into the directory of the next depth.
abbrev pub doubled_entries : List ℕ → List Store
doubled_entries a = each (λ e. store (entry_address (suc (depth a)) e) (entry_at a (depth a) (e / 2)) ∷ []) (2 ^ suc (depth a))

-- The address is of the directory of depth g.
pub record DirectoryWord (g at : ℕ) : Type 0 where
  pub from : 2 ^ g ≤ at
  pub to : at < 2 ^ suc g

-- A doubling writes the directory of the next depth, and then word 0.
pub doubling_parts : (a : List ℕ)
    → doubling a ≡ doubled_entries a ++ (store 0 (header (suc (depth a)) (max_depth a) (segments a)) ∷ [])
unfolding doubling
doubling_parts a = refl

pub doubled_entries_holds : (a : List ℕ) → Every (λ s. DirectoryWord (suc (depth a)) s.at) (doubled_entries a)
doubled_entries_holds a =
    every_each (λ s. DirectoryWord (suc (depth a)) s.at)
    (λ e. store (entry_address (suc (depth a)) e) (entry_at a (depth a) (e / 2)) ∷ []) (2 ^ suc (depth a))
    (λ i h. (record { from = entry_from (suc (depth a)) i; to = entry_to (suc (depth a)) i h }, Prim.tt))

-- What a doubling leaves.
pub record Doubled (a b : List ℕ) : Type 0 where
  pub depth_rises : depth b ≡ suc (depth a)
  pub max_depth_kept : max_depth b ≡ max_depth a
  pub segments_kept : segments b ≡ segments a
  pub length_kept : length b ≡ length a
  pub valid : ValidHeader b
  pub entries : (e : ℕ) → e < 2 ^ suc (depth a) → entry_at b (suc (depth a)) e ≡ entry_at a (depth a) (e / 2)
  pub below : (i : ℕ) → 1 ≤ i → i < 2 ^ suc (depth a) → word b i ≡ word a i
  pub behind : (i : ℕ) → 2 ^ suc (suc (depth a)) ≤ i → word b i ≡ word a i
  pub key_entry_holds : (key : ℕ) → key_entry b key ≡ key_entry a key

-- The directory of the next depth is below the words that D and S take.
next_directory : (a : List ℕ) → depth a < max_depth a → 2 ^ suc (suc (depth a)) ≤ words_for (max_depth a) (segments a)
next_directory a room =
    let p : 2 ^ suc (suc (depth a)) ≤ 2 ^ suc (max_depth a) = pow_mono {i = suc (suc (depth a))} {j = suc (max_depth a)} (omega arith) in
    omega (arith, directories_below (max_depth a) (segments a))

module _ (a : List ℕ) (v : ValidHeader a) (room : depth a < max_depth a) where
  -- The directory of the next depth is below the array's end.
  next_fits : 2 ^ suc (suc (depth a)) ≤ length a
  next_fits = let r = v.room in omega (arith, next_directory a room)

  -- The array behind a doubling: word 0 is the new header, and the other words are those behind the entries' stores.
  pub doubled_word_0 : word (apply (doubling a) a) 0 ≡ header (suc (depth a)) (max_depth a) (segments a)
  unfolding apply
  doubled_word_0 =
      let b : List ℕ = apply (doubled_entries a) a in
      let kept : length b ≡ length a = length_apply (doubled_entries a) a in
      let fits : 2 ^ suc (suc (depth a)) ≤ length a = next_fits in
      rw (doubling_parts a, apply_append (doubled_entries a) (store 0 (header (suc (depth a)) (max_depth a) (segments a)) ∷ []) a)
      (word_set_same b 0 (header (suc (depth a)) (max_depth a) (segments a)) (omega (arith, pow_pos (depth a))))

  doubled_word : (i : ℕ) → 1 ≤ i → word (apply (doubling a) a) i ≡ word (apply (doubled_entries a) a) i
  unfolding apply
  doubled_word i h =
      rw (doubling_parts a, apply_append (doubled_entries a) (store 0 (header (suc (depth a)) (max_depth a) (segments a)) ∷ []) a)
      (word_set_other (apply (doubled_entries a) a) 0 i (header (suc (depth a)) (max_depth a) (segments a)) (λ e. omega arith))

  doubled_kept : (i : ℕ) → 1 ≤ i → (DirectoryWord (suc (depth a)) i → ⊥) → word (apply (doubling a) a) i ≡ word a i
  doubled_kept i h k =
      doubled_word i h
      ∙ word_elsewhere (doubled_entries a) a i
      (every_map (λ s. DirectoryWord (suc (depth a)) s.at) (λ s. s.at ≡ i → ⊥) (λ s x e. k (rw e at x)) (doubled_entries a) (doubled_entries_holds a))

  doubled_entry_holds : (e : ℕ) → e < 2 ^ suc (depth a) → entry_at (apply (doubling a) a) (suc (depth a)) e ≡ entry_at a (depth a) (e / 2)
  doubled_entry_holds e h =
      let fits : 2 ^ suc (suc (depth a)) ≤ length a = next_fits in
      let to : entry_address (suc (depth a)) e < 2 ^ suc (suc (depth a)) = entry_to (suc (depth a)) e h in
      doubled_word (entry_address (suc (depth a)) e) (entry_positive (suc (depth a)) e)
      ∙ read_each (entry_address (suc (depth a))) (λ e. entry_at a (depth a) (e / 2)) (2 ^ suc (depth a)) a
      (λ i j p q x. let y : i ≡ j = entry_inj (suc (depth a)) i j x in omega arith)
      e h (omega arith)

  pub after_doubling : Doubled a (apply (doubling a) a)
  after_doubling =
      let b : List ℕ = apply (doubling a) a in
      let z : word b 0 ≡ header (suc (depth a)) (max_depth a) (segments a) = doubled_word_0 in
      let t = small v in
      let g : suc (depth a) < 2 ^ 8 = let h = v.depth_high in omega arith in
      let d : max_depth a < 2 ^ 8 = t.max_depth_small in
      let s : segments a < 2 ^ 16 = t.segments_small in
      let gs : depth b ≡ suc (depth a) = rw z (header_depth (suc (depth a)) (max_depth a) (segments a) g d s) in
      let ds : max_depth b ≡ max_depth a = rw z (header_max_depth (suc (depth a)) (max_depth a) (segments a) g d s) in
      let ss : segments b ≡ segments a = rw z (header_segments (suc (depth a)) (max_depth a) (segments a) g d s) in
      let ms : mark_in (word b 0) ≡ mark = rw z (header_mark (suc (depth a)) (max_depth a) (segments a) g d s) in
      let ls : length b ≡ length a = length_apply (doubling a) a in
      record {
        depth_rises = gs;
        max_depth_kept = ds;
        segments_kept = ss;
        length_kept = ls;
        valid = record {
          marked = ms;
          depth_low = rw ds v.depth_low;
          depth_high = rw ds v.depth_high;
          present = rw (gs, ds) room;
          segments_low = rw ss v.segments_low;
          segments_high = rw (ss, ds) v.segments_high;
          room = rw (ds, ss, ls) v.room;
        };
        entries = doubled_entry_holds;
        below = λ i p q. doubled_kept i p (λ x. let f = x.from in omega arith);
        behind = λ i p. doubled_kept i (omega (arith, pow_pos (depth a))) (λ x. let f = x.to in omega arith);
        key_entry_holds = λ key.
            entry_of_key b key (suc (depth a)) gs
            ∙ doubled_entry_holds (index key (suc (depth a))) (index_lt key (suc (depth a)))
            ∙ ap (λ (n : ℕ). entry_at a (depth a) n) (index_half key (depth a))
            ∙ sym (entry_of_key a key (depth a) refl);
      }

pub doubling_in_range : (a : List ℕ) → depth a < max_depth a
    → Every (λ s. s.at < words_for (max_depth a) (segments a)) (doubling a)
doubling_in_range a room =
    let W : ℕ = words_for (max_depth a) (segments a) in
    let next : 2 ^ suc (suc (depth a)) ≤ W = next_directory a room in
    rw (doubling_parts a)
    (every_append (λ s. s.at < W) (doubled_entries a) (store 0 (header (suc (depth a)) (max_depth a) (segments a)) ∷ [])
    (every_map (λ s. DirectoryWord (suc (depth a)) s.at) (λ s. s.at < W) (λ s x. let t = x.to in omega arith) (doubled_entries a) (doubled_entries_holds a))
    (omega (arith, pow_pos (depth a)), Prim.tt))
