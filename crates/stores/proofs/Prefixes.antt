-- What holds after every number of stores, and what is read after a prefix of them.
use mathlib.Core.Path.{◌≡◌, sym, ap, ◌∙◌}
use mathlib.Core.List.{List, [], ◌∷◌, ◌++◌, append-nil}
use Prim.Native.Nat.{ℕ, zero, suc, ◌-◌, ◌≤◌, ◌<◌, min}
use native.Mathlib.Nat.{le_refl, le_step, min-eq_left, min-eq_right}
use native.Mathlib.Omega.{arith}
use lib.ListN.{length, take}
use lib.Seq.{take_all, take-nil}
use Rattle.stores.specs.Lists.{each}
use Rattle.stores.specs.Store.{Store, word, store, apply, exec, Every}
use Rattle.stores.proofs.Tests.{by_at_most}
use Rattle.stores.proofs.Lists.{each_zero, each_suc, length_each_ones, every_take, every_each, every_map}
use Rattle.stores.proofs.Stores.{exec_all, exec_none, exec_not_made, take_append, exec_append, word_elsewhere, read_each}

-- ---- After every number of stores

-- P holds of the array after each number of the stores ss: before the first, between them, and after the last.
abbrev pub Always : (List ℕ → Type 0) → List Store → List ℕ → Type 0
Always P ss a = (n : ℕ) → P (exec ss n a)

module _ (P : List ℕ → Type 0) where
  pub always_whole : (ss : List Store) (a : List ℕ) → Always P ss a → P (apply ss a)
  always_whole ss a h = rw (exec_all ss (length ss) a (le_refl (length ss))) at (h (length ss))

  pub always_append : (ss tt : List Store) (a : List ℕ) → Always P ss a → Always P tt (apply ss a) → Always P (ss ++ tt) a
  always_append ss tt a h k n =
      by_at_most n (length ss)
      (λ l. rw (exec_append ss tt n a, exec_not_made tt (n - length ss) (exec ss n a) (omega (arith, l))) (h n))
      (λ l. rw (exec_append ss tt n a, exec_all ss n a (omega (arith, l))) (k (n - length ss)))

  -- No store.
  pub always_none : (a : List ℕ) → P a → Always P [] a
  unfolding exec apply
  always_none a h n = rw (take-nil {A = Store} n) h

  -- One store: before it and after it.
  pub always_one : (s : Store) (a : List ℕ) → P a → P (apply (s ∷ []) a) → Always P (s ∷ []) a
  always_one s a h k zero = rw exec_none h
  always_one s a h k (suc n) = rw (exec_all (s ∷ []) (suc n) a (omega arith)) k

-- ---- Reads after a prefix

-- Stores all at addresses of the kind P leave the words at other addresses, under every allowance.
pub exec_elsewhere : (P : ℕ → Type 0) (ss : List Store) (n : ℕ) (a : List ℕ) (i : ℕ) → Every (λ s. P s.at) ss → (P i → ⊥)
    → word (exec ss n a) i ≡ word a i
unfolding exec
exec_elsewhere P ss n a i all other =
    word_elsewhere (take n ss) a i
    (every_map (λ s. P s.at) (λ s. s.at ≡ i → ⊥) (λ s p e. other (rw e at p)) (take n ss)
    (every_take (λ s. P s.at) n ss all))

pub apply_elsewhere : (P : ℕ → Type 0) (ss : List Store) (a : List ℕ) (i : ℕ) → Every (λ s. P s.at) ss → (P i → ⊥)
    → word (apply ss a) i ≡ word a i
apply_elsewhere P ss a i all other =
    word_elsewhere ss a i (every_map (λ s. P s.at) (λ s. s.at ≡ i → ⊥) (λ s p e. other (rw e at p)) ss all)

-- ---- Stores one by one

-- The first n of w single stores.
pub take_each : (f : ℕ → Store) (w n : ℕ) → take n (each (λ i. f i ∷ []) w) ≡ each (λ i. f i ∷ []) (min n w)
take_each f zero n =
    let none : each (λ i. f i ∷ []) zero ≡ [] = each_zero (λ i. f i ∷ []) in
    rw (none, take-nil {A = Store} n, min-eq_right {n = 0} {m = n} (omega arith), none)
take_each f (suc w) n =
    let one : ℕ → List Store = λ i. f i ∷ [] in
    let front : length (each one w) ≡ w = length_each_ones f w in
    let parts : take n (each one (suc w)) ≡ take n (each one w) ++ take (n - w) (one w) =
    ap (take n) (each_suc one w) ∙ rw front at (take_append (each one w) (one w) n) in
    parts
    ∙ by_at_most n w
    (λ l.
    let none : n - w ≡ 0 = omega arith in
    rw (none, take_each f w n, min-eq_left l, min-eq_left (le_step l)) (append-nil (each one n)))
    (λ l.
    rw
    (take_all (n - w) (one w) (omega arith), take_all n (each one w) (rw front (omega arith)), min-eq_right {n = suc w} {m = n} l)
    (sym (each_suc one w)))

-- Single stores at different addresses, of which the first n are made: what is read at store k's address.
module _ (at value : ℕ → ℕ) (w n : ℕ) (a : List ℕ) (apart : (i j : ℕ) → i < j → j < w → at i ≡ at j → ⊥) (k : ℕ) (h : k < w) where
  pub single_made : k < n → at k < length a → word (exec (each (λ t. store (at t) (value t) ∷ []) w) n a) (at k) ≡ value k
  unfolding exec
  single_made l b =
      rw (take_each (λ t. store (at t) (value t)) w n)
      (read_each at value (min n w) a (λ i j p q. apart i j p (omega arith)) k (omega arith) b)

  pub single_not_made : n ≤ k → word (exec (each (λ t. store (at t) (value t) ∷ []) w) n a) (at k) ≡ word a (at k)
  unfolding exec
  single_not_made l =
      rw (take_each (λ t. store (at t) (value t)) w n)
      (word_elsewhere (each (λ t. store (at t) (value t) ∷ []) (min n w)) a (at k)
      (every_each (λ s. s.at ≡ at k → ⊥) (λ t. store (at t) (value t) ∷ []) (min n w)
      (λ t q. (apart t k (omega arith) h, Prim.tt))))
