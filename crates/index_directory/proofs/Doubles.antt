-- The turns of a doubling. What is read, an entry of the present depth, is none of the words that are written.
use mathlib.Core.Path.{◌≡◌, ap, ◌∙◌}
use mathlib.Core.List.{List, [], ◌∷◌}
use Prim.Native.Nat.{ℕ, suc, ◌+◌, ◌*◌, ◌/◌, ◌^◌, ◌<◌}
use native.Mathlib.Numerals.{add-one}
use native.Mathlib.Omega.{arith}
use Rattle.stores.specs.Lists.{each}
use Rattle.stores.specs.Store.{Store, store, word, Every}
use Rattle.stores.specs.declared.Budget.{Budget}
use Rattle.stores.specs.Executed.{Executed}
use Rattle.stores.proofs.Lists.{every_each}
use Rattle.stores.proofs.Stores.{executed_append}
use Rattle.index_rules.specs.Layout.{depth, max_depth, segments, header, entry_address, entry_at}
use Rattle.index_rules.specs.Split.{doubling}
use Rattle.index_laws.proofs.Words.{entry_from}
use Rattle.index_laws.proofs.Doubling.{doubled_entries, doubling_parts}
use Rattle.index_layout.specs.declared.header.Header.{Header}
use Rattle.index_layout.specs.Headers.{Describes}
use Rattle.index_layout.proofs.Entries.{next_address_holds, entry_word}
use Rattle.stores.proofs.Loops.{after_turn, executed_elsewhere}

-- The store of entry e of the next depth.
abbrev pub doubled_entry : List ℕ → (e : ℕ) → List Store
doubled_entry a e = store (entry_address (suc (depth a)) e) (entry_at a (depth a) (e / 2)) ∷ []

module _ {h : Header} {a : List ℕ} (d : Describes h a) (count : ℕ) (m : Budget) (counted : count ≡ 2 ^ h.depth) where
  pub double_turn : (e : ℕ) (m' : Budget) (b : List ℕ) (m'' : Budget) (b' : List ℕ) → e < 2 * count
      → Executed (each (doubled_entry a) e) m a m' b
      → Executed (store (2 * count + e) (word b (count + e / 2)) ∷ []) m' b m'' b'
      → Executed (each (doubled_entry a) (e + 1)) m a m'' b'
  double_turn e m' b m'' b' k p q =
      let g : depth a ≡ h.depth = d.depth_read in
      let apart : Every (λ s. s.at ≡ count + e / 2 → ⊥) (each (doubled_entry a) e) =
      every_each (λ s. s.at ≡ count + e / 2 → ⊥) (doubled_entry a) e
      (λ i j. ((λ x. omega (arith, entry_from (suc (depth a)) i, ap (λ (n : ℕ). 2 ^ suc n) g)), Prim.tt)) in
      let read : word b (count + e / 2) ≡ entry_at a (depth a) (e / 2) =
      executed_elsewhere (count + e / 2) p apart ∙ entry_word count (e / 2) d counted in
      let at : 2 * count + e ≡ entry_address (suc (depth a)) e = next_address_holds count e d counted in
      after_turn (doubled_entry a) e m a m' b m'' b' p (rw (at, read) at q)

  -- Behind the entries comes word 0.
  pub double_end : (e : ℕ) (m' : Budget) (b : List ℕ) (v : ℕ) (m'' : Budget) (b' : List ℕ) → e ≡ 2 * count → v ≡ header (h.depth + 1) h.max_depth h.segments
      → Executed (each (doubled_entry a) e) m a m' b → Executed (store 0 v ∷ []) m' b m'' b'
      → Executed (doubling a) m a m'' b'
  double_end e m' b v m'' b' k w p q =
      let all : e ≡ 2 ^ suc (depth a) = rw d.depth_read (omega arith) in
      let last : v ≡ header (suc (depth a)) (max_depth a) (segments a) = rw (d.depth_read, d.max_depth_read, d.segments_read, ← add-one) w in
      rw (doubling_parts a)
      (executed_append (doubled_entries a) (store 0 (header (suc (depth a)) (max_depth a) (segments a)) ∷ []) m a m' b m'' b'
      (rw all at p) (rw last at q))
