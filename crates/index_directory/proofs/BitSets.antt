-- Laws of the sets of numbers: one number more, the smallest that is missing, and the empty set.
use mathlib.Core.Path.{◌≡◌, ap}
use mathlib.Core.Bool.{true}
use mathlib.Core.List.{List}
use Prim.Native.Nat.{ℕ, ◌+◌, ◌-◌, ◌*◌, ◌/◌, ◌%◌, ◌^◌, ◌≤◌, ◌<◌}
use native.Mathlib.Omega.{arith}
use borrow.Author.Tests.{eqb-true, eqb-false, eq-eqb}
use lib.Dec.{eqb}
use lib.Count.{count_trailing_zeros}
use lib.ListN.{length, set, replicate, get_or-replicate, length-replicate, get_or-eq_default}
use Rattle.stores.specs.Store.{word}
use Rattle.stores.proofs.Stores.{word_set_same, word_set_other}
use Rattle.stores.proofs.Tests.{by_test, by_equal, by_less}
use Rattle.index_directory.specs.BitSets.{IsBitSet, holds, Empty, Inserted, SmallestMissing}
use Rattle.index_directory.proofs.Bits.{bit, zero_bit, with_bit, with_here, with_elsewhere, full_bit, LowestZero, lowest_zero}

-- ---- One number more

-- The set with the number, as the code makes it.
module _ (a : List ℕ) (number : ℕ) (l : IsBitSet a) (h : number < 4096) where
  abbrev with_number : List ℕ
  with_number = set a (number / 64) (with_bit (word a (number / 64)) (number % 64))

  rest : number % 64 < 64
  rest = omega arith

  changed : word with_number (number / 64) ≡ with_bit (word a (number / 64)) (number % 64)
  changed = word_set_same a (number / 64) _ (omega arith)

  holds_number : holds with_number number ≡ true
  unfolding holds
  holds_number = rw changed (eq-eqb _ 1 (with_here (word a (number / 64)) (number % 64) rest))

  same_word : (n : ℕ) → (number ≡ n → ⊥) → n / 64 ≡ number / 64 → holds with_number n ≡ holds a n
  unfolding holds
  same_word n ne q =
      let other : number % 64 ≡ n % 64 → ⊥ = λ e. ne (omega arith) in
      rw (q, changed) (ap (λ (b : ℕ). eqb b 1) (with_elsewhere (word a (number / 64)) (number % 64) rest (n % 64) other))

  other_word : (n : ℕ) → (n / 64 ≡ number / 64 → ⊥) → holds with_number n ≡ holds a n
  unfolding holds
  other_word n q = rw (word_set_other a (number / 64) (n / 64) (with_bit (word a (number / 64)) (number % 64)) q)

  pub inserted : Inserted number a with_number
  inserted n =
      by_test (eqb number n)
      (λ t. rw (t, ← eqb-true number n t) holds_number)
      (λ t. rw t (by_equal (n / 64) (number / 64) (λ s. same_word n (eqb-false number n t) s) (λ s. other_word n s)))

-- ---- The smallest that is missing

module _ (a : List ℕ) where
  -- Every number of the first i words is in the set.
  abbrev pub FullBelow : ℕ → Type 0
  FullBelow i = (n : ℕ) → n < 64 * i → holds a n ≡ true

  -- Where the first t bits of word i are 1, so many numbers more are in the set.
  module _ (i t : ℕ) (b : FullBelow i) (m : t ≤ 64) (ones : (k : ℕ) → k < t → bit (word a i) k ≡ 1) where
    held : (n : ℕ) → n < 64 * i + t → holds a n ≡ true
    unfolding holds
    held n k =
        by_less n (64 * i)
        (λ s. b n s)
        (λ l.
        let q : n / 64 ≡ i = omega arith in
        let r : n % 64 < t = omega arith in
        rw q (eq-eqb _ 1 (ones (n % 64) r)))

  pub full_word : (i : ℕ) → FullBelow i → word a i ≡ 2 ^ 64 - 1 → FullBelow (i + 1)
  full_word i b e n h = held i 64 b (omega arith) (λ k l. rw e (full_bit 64 k l)) n (omega arith)

  missing_at : (i t : ℕ) → FullBelow i → LowestZero 64 (word a i) t → SmallestMissing (64 * i + t) a
  unfolding holds
  missing_at i t b z =
      let m : t < 64 = z.inside in
      let q : (64 * i + t) / 64 ≡ i = omega arith in
      let r : (64 * i + t) % 64 ≡ t = omega arith in
      record { below_held = held i t b (omega arith) z.ones_below; missing = rw (q, r, z.zero_there) }

  -- In word i, the first that is not full; and behind the last word.
  pub missing_in_word : (i : ℕ) → FullBelow i → word a i < 2 ^ 64 → (word a i ≡ 2 ^ 64 - 1 → ⊥)
      → SmallestMissing (64 * i + count_trailing_zeros 64 (2 ^ 64 - 1 - word a i)) a
  missing_in_word i b h ne = missing_at i _ b (lowest_zero 64 (word a i) h ne)

  pub missing_behind : (i : ℕ) → length a ≡ i → FullBelow i → SmallestMissing (64 * i) a
  unfolding holds
  missing_behind i l b =
      let q : 64 * i / 64 ≡ i = omega arith in
      record { below_held = b; missing = rw (q, get_or-eq_default a 0 {n = i} (omega arith), zero_bit (64 * i % 64)) }

-- ---- The empty set

pub empty_set : (n : ℕ) → Empty (replicate n 0)
unfolding holds
empty_set n m = rw (zero_word (m / 64), zero_bit (m % 64))
  where
    zero_word : (i : ℕ) → word (replicate n 0) i ≡ 0
    zero_word i =
        by_less i n
        (λ t. get_or-replicate n i 0 0 t)
        (λ t. get_or-eq_default (replicate n 0) 0 {n = i} (rw (length-replicate {A = ℕ} n 0) t))
