-- Laws of the bits of a word: one bit more, a full word, and the lowest bit that is 0.
use mathlib.Core.Path.{◌≡◌, refl, sym, ap, ◌∙◌}
use Prim.Native.Nat.{ℕ, zero, suc, ◌+◌, ◌-◌, ◌*◌, ◌/◌, ◌%◌, ◌^◌, ◌≤◌, ◌<◌, max, suc-le-suc}
use native.Mathlib.Nat.{le_of_suc-le-suc, mod-lt, zero-lt-suc, max-le, max-zero, max-eq_right, div-one, div-eq_of_lt, div-div-eq-div-mul, pow-succ'}
use native.Mathlib.Omega.{arith}
use lib.Arith.{digits_mod}
use lib.Pow.{pow_pos, pow-lt, pow-add, shl-shr, shl_exact, ones_split, high, ones_lt}
use lib.Bits.{bit_or, or_step, or_shr, shifted_even}
use lib.Count.{count_trailing_zeros, under}
use Rattle.stores.proofs.Tests.{by_less}

-- ---- One bit more

-- Bit k of the word w.
abbrev pub bit : ℕ → ℕ → ℕ
bit w k = w / 2 ^ k % 2

bit_low : (w k : ℕ) → bit w k ≤ 1
bit_low w k = le_of_suc-le-suc (mod-lt (w / 2 ^ k) (zero-lt-suc 1))

pub zero_bit : (k : ℕ) → bit 0 k ≡ 0
zero_bit k = ap (λ (n : ℕ). n % 2) (div-eq_of_lt (pow_pos k))

-- A bit of either word is a bit of both together.
or_bit : (w v k : ℕ) → bit (bit_or w v) k ≡ max (bit w k) (bit v k)
or_bit w v k =
    ap (λ (n : ℕ). n % 2) (or_shr w v k ∙ or_step (w / 2 ^ k) (v / 2 ^ k))
    ∙ digits_mod (bit_or (w / 2 ^ k / 2) (v / 2 ^ k / 2)) (suc-le-suc (max-le (bit_low w k) (bit_low v k)))

-- The word whose only bit is j.
only_bit : (j : ℕ) → j < 64 → 1 * 2 ^ j % 2 ^ 64 ≡ 1 * 2 ^ j
only_bit j h = shl_exact 1 j 64 (omega arith) (omega arith)

only_here : (j : ℕ) → bit (1 * 2 ^ j) j ≡ 1
only_here j = ap (λ (n : ℕ). n % 2) (shl-shr 1 j)

only_elsewhere : (j k : ℕ) → (j ≡ k → ⊥) → bit (1 * 2 ^ j) k ≡ 0
only_elsewhere j k h =
    by_less j k
    (λ t.
    let small : 1 * 2 ^ j < 2 ^ k = omega (arith, pow-lt {i = j} {j = k} t) in
    ap (λ (n : ℕ). n % 2) (div-eq_of_lt small))
    (λ above.
    let apart : suc (j - suc k) + k ≡ j = omega (arith, h) in
    let parts : 1 * 2 ^ j ≡ 1 * 2 ^ suc (j - suc k) * 2 ^ k =
    ap (λ (n : ℕ). 1 * 2 ^ n) (sym apart) ∙ ap (λ (n : ℕ). 1 * n) (pow-add 2 (suc (j - suc k)) k) ∙ omega arith in
    ap (λ (n : ℕ). n / 2 ^ k % 2) parts ∙ ap (λ (n : ℕ). n % 2) (shl-shr (1 * 2 ^ suc (j - suc k)) k) ∙ shifted_even 1 (j - suc k))

-- The word w with bit j, as the code makes it.
abbrev pub with_bit : (w j : ℕ) → ℕ
with_bit w j = bit_or w (1 * 2 ^ j % 2 ^ 64)

module _ (w j : ℕ) (h : j < 64) where
  pub with_here : bit (with_bit w j) j ≡ 1
  with_here = rw (only_bit j h) (or_bit w (1 * 2 ^ j) j ∙ ap (max (bit w j)) (only_here j) ∙ max-eq_right (bit_low w j))

  pub with_elsewhere : (k : ℕ) → (j ≡ k → ⊥) → bit (with_bit w j) k ≡ bit w k
  with_elsewhere k ne =
      rw (only_bit j h) (or_bit w (1 * 2 ^ j) k ∙ ap (max (bit w k)) (only_elsewhere j k ne) ∙ max-zero (bit w k))

-- ---- The lowest bit that is 0

bit_next : (w n : ℕ) → bit w (suc n) ≡ bit (w / 2) n
bit_next w n = ap (λ (x : ℕ). w / x % 2) (pow-succ' 2 n) ∙ ap (λ (x : ℕ). x % 2) (sym (div-div-eq-div-mul w 2 (2 ^ n)))

pub full_bit : (k j : ℕ) → j < k → bit (2 ^ k - 1) j ≡ 1
full_bit k j h =
    let d = k - suc j in
    let apart : suc d + j ≡ k = omega arith in
    let odd : (2 ^ suc d - 1) % 2 ≡ 1 = omega (arith, pow_pos d) in
    ap (λ (n : ℕ). bit (2 ^ n - 1) j) (sym apart) ∙ ap (λ (n : ℕ). n / 2 ^ j % 2) (ones_split (suc d) j)
    ∙ ap (λ (n : ℕ). n % 2) (high (2 ^ suc d - 1) j (ones_lt j)) ∙ odd

-- Bit t is the lowest of the k bits of w that is 0.
pub record LowestZero (k w t : ℕ) : Type 0 where
  pub inside : t < k
  pub zero_there : bit w t ≡ 0
  pub ones_below : (n : ℕ) → n < t → bit w n ≡ 1

-- Where the lowest bit is 0, and where it is 1 and the rest is not full.
even_word : (k w : ℕ) → w % 2 ≡ 0 → LowestZero (suc k) w 0
even_word k w e = record { inside = omega arith; zero_there = ap (λ (n : ℕ). n % 2) (div-one w) ∙ e; ones_below = λ n h. absurd (omega arith) }

odd_word : (k w t : ℕ) → w % 2 ≡ 1 → LowestZero k (w / 2) t → LowestZero (suc k) w (suc t)
odd_word k w t e z =
    record { inside = suc-le-suc z.inside; zero_there = bit_next w t ∙ z.zero_there; ones_below = below }
  where
    below : (n : ℕ) → n < suc t → bit w n ≡ 1
    below zero h = ap (λ (n : ℕ). n % 2) (div-one w) ∙ e
    below (suc n) h = bit_next w n ∙ z.ones_below n (le_of_suc-le-suc h)

-- The trailing zeros of the complement of a word of k bits that is not full.
pub lowest_zero : (k w : ℕ) → w < 2 ^ k → (w ≡ 2 ^ k - 1 → ⊥) → LowestZero k w (count_trailing_zeros k (2 ^ k - 1 - w))
unfolding count_trailing_zeros
lowest_zero zero w h ne = absurd (ne (omega arith))
lowest_zero (suc k) w h ne =
    step ((2 ^ suc k - 1 - w) % 2) refl (λ o. lowest_zero k (w / 2) (omega arith) (λ (q : w / 2 ≡ 2 ^ k - 1). ne (omega arith)))
  where
    step : (r : ℕ) → (2 ^ suc k - 1 - w) % 2 ≡ r → (w % 2 ≡ 1 → LowestZero k (w / 2) (count_trailing_zeros k (2 ^ k - 1 - w / 2)))
        → LowestZero (suc k) w (under r (count_trailing_zeros k ((2 ^ suc k - 1 - w) / 2)))
    step zero e z =
        let odd : w % 2 ≡ 1 = omega arith in
        let half : (2 ^ suc k - 1 - w) / 2 ≡ 2 ^ k - 1 - w / 2 = omega arith in
        rw half (odd_word k w _ odd (z odd))
    step (suc r) e z = even_word k w (omega arith)
