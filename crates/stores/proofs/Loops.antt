-- Loops that store: how the promise grows turn by turn, and what is read between the stores.
use mathlib.Core.Path.{◌≡◌, ap}
use mathlib.Core.List.{List}
use Prim.Native.Nat.{ℕ, ◌+◌, ◌-◌}
use native.Mathlib.Numerals.{add-one}
use lib.ListN.{length, take}
use Rattle.stores.specs.Lists.{each}
use Rattle.stores.specs.Store.{Store, word, exec, Every}
use Rattle.stores.specs.declared.Budget.{Budget}
use Rattle.stores.specs.Executed.{Executed, begun}
use Rattle.stores.proofs.Lists.{each_zero, each_suc, every_take}
use Rattle.stores.proofs.Stores.{length_exec, word_elsewhere, executed_none, executed_append}

-- A budget that has begun has no store due.
pub begun_due : {b : Budget} {allowance : ℕ} → b ≡ begun allowance → b.due ≡ 0
begun_due e = ap (λ (b : Budget). b.due) e

-- Before the first turn nothing is stored.
pub before_loop : (f : ℕ → List Store) (b : Budget) (a : List ℕ) → Executed (each f 0) b a b a
before_loop f b a = rw (each_zero f) (executed_none b a)

-- A turn adds its stores.
pub after_turn : (f : ℕ → List Store) (n : ℕ) (b : Budget) (a : List ℕ) (b₁ : Budget) (a₁ : List ℕ) (b₂ : Budget) (a₂ : List ℕ)
    → Executed (each f n) b a b₁ a₁ → Executed (f n) b₁ a₁ b₂ a₂ → Executed (each f (n + 1)) b a b₂ a₂
after_turn f n b a b₁ a₁ b₂ a₂ p q = rw (add-one n, each_suc f n) (executed_append (each f n) (f n) b a b₁ a₁ b₂ a₂ p q)

-- The array keeps its length.
pub executed_length : {ss : List Store} {b : Budget} {before : List ℕ} {b' : Budget} {after : List ℕ} → Executed ss b before b' after
    → length after ≡ length before
executed_length {ss} {b} {before} e = rw e.words (length_exec ss (b.allowance - b.due) before)

-- A word that none of the stores writes is as it was, whatever the allowance let through.
pub executed_elsewhere : {ss : List Store} {b : Budget} {before : List ℕ} {b' : Budget} {after : List ℕ} (i : ℕ)
    → Executed ss b before b' after → Every (λ s. s.at ≡ i → ⊥) ss → word after i ≡ word before i
unfolding exec
executed_elsewhere {ss} {b} {before} i e h =
    rw e.words (word_elsewhere (take (b.allowance - b.due) ss) before i (every_take (λ s. s.at ≡ i → ⊥) (b.allowance - b.due) ss h))
