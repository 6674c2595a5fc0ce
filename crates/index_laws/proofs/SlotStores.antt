-- Stores slot by slot in one segment, as the copy step and a merge make them: those for slot k go to slot k alone, so what stands there
-- afterwards is what they leave.
use mathlib.Core.Path.{◌≡◌, ap, ◌∙◌}
use mathlib.Core.List.{List, [], ◌∷◌}
use mathlib.Core.Logic.{⊎_elim}
use Prim.Native.Nat.{ℕ, zero, suc, ◌+◌, ◌*◌, ◌≤◌, ◌<◌}
use native.Mathlib.Nat.{not-suc-le-zero, eq-or-lt_of_le, le_of_suc-le-suc}
use native.Mathlib.Omega.{arith}
use lib.ListN.{length, set, length-set}
use Rattle.stores.specs.Lists.{each}
use Rattle.stores.specs.Store.{Store, store, word, apply, Every}
use Rattle.stores.proofs.Lists.{each_suc, every_each, every_map}
use Rattle.stores.proofs.Stores.{apply_append, apply_same, length_apply, word_set_same, word_set_other, word_elsewhere}
use Rattle.stores.proofs.Prefixes.{apply_elsewhere}
use Rattle.index_rules.specs.Layout.{key_address, value_address, key_at, value_at}

-- The address is of slot k of the segment at `base`.
pub record InSlot (base k at : ℕ) : Type 0 where
  pub from : base + 2 * k ≤ at
  pub to : at < base + 2 * k + 2

pub key_in_slot : (base k : ℕ) → InSlot base k (key_address base k)
key_in_slot base k = record { from = omega arith; to = omega arith }

pub value_in_slot : (base k : ℕ) → InSlot base k (value_address base k)
value_in_slot base k = record { from = omega arith; to = omega arith }

-- A record's two stores, value, then key, leave the record in the slot.
module _ (base j key value : ℕ) (b : List ℕ) where
  pub record_key : key_address base j < length b → key_at (apply (store (value_address base j) value ∷ store (key_address base j) key ∷ []) b) base j ≡ key
  unfolding apply
  record_key inside = word_set_same (set b (value_address base j) value) (key_address base j) key (rw length-set inside)

  pub record_value : value_address base j < length b → value_at (apply (store (value_address base j) value ∷ store (key_address base j) key ∷ []) b) base j ≡ value
  unfolding apply
  record_value inside =
      word_set_other (set b (value_address base j) value) (key_address base j) (value_address base j) key (λ q. omega arith)
      ∙ word_set_same b (value_address base j) value inside

-- No address is of two slots.
pub one_slot : (base j k at : ℕ) → InSlot base j at → InSlot base k at → j ≡ k
one_slot base j k at p q = omega (arith, p.from, p.to, q.from, q.to)

module _ (base : ℕ) (F : ℕ → List Store) (own : (k : ℕ) → Every (λ s. InSlot base k s.at) (F k)) where
  -- The stores of the slots below n leave slot n and those behind it.
  slot_behind : (k at n : ℕ) (b : List ℕ) → InSlot base k at → n ≤ k → word (apply (each F n) b) at ≡ word b at
  slot_behind k at n b in-slot h =
      word_elsewhere (each F n) b at
      (every_each (λ s. s.at ≡ at → ⊥) F n
      (λ j l.
      every_map (λ s. InSlot base j s.at) (λ s. s.at ≡ at → ⊥)
      (λ s p e. omega (arith, one_slot base j k at (rw e at p) in-slot)) (F j) (own j)))

  -- A word of slot k after the stores of all n slots is as the stores of slot k alone leave it.
  pub slot_alone : (k at n : ℕ) (b : List ℕ) → InSlot base k at → k < n → word (apply (each F n) b) at ≡ word (apply (F k) b) at
  slot_alone k at zero b in-slot h = absurd (not-suc-le-zero h)
  slot_alone k at (suc n) b in-slot h =
      let front : List ℕ = apply (each F n) b in
      let parts : apply (each F (suc n)) b ≡ apply (F n) front =
      ap (λ (ss : List Store). apply ss b) (each_suc F n) ∙ apply_append (each F n) (F n) b in
      ap (λ (c : List ℕ). word c at) parts
      ∙ ⊎_elim
      (λ (e : k ≡ n).
      rw e (apply_same (F n) front b at (length_apply (each F n) b) (slot_behind k at n b in-slot (omega arith))))
      (λ (l : k < n).
      apply_elsewhere (InSlot base n) (F n) front at (own n) (λ q. omega (arith, one_slot base n k at q in-slot))
      ∙ slot_alone k at n b in-slot l)
      (eq-or-lt_of_le (le_of_suc-le-suc h))
