-- Laws of the numbers below a bound, rising, and of the first of them that passes a test.
use mathlib.Core.Path.{◌≡◌, refl, ◌∙◌}
use mathlib.Core.Bool.{Bool, true, false}
use mathlib.Core.List.Memᴰ
use mathlib.Core.List.{List, [], ◌∷◌, ◌++◌, Memᴰ}
use mathlib.Core.Option.{Option, none, some}
use mathlib.Core.Logic.{⊎_elim}
use Prim.Native.Nat.{ℕ, zero, suc, ◌≤◌, ◌<◌}
use native.Mathlib.Nat.{le_refl, le_step, not-suc-le-zero, eq-or-lt_of_le, le_of_suc-le-suc}
use native.Mathlib.Omega.{arith}
use Rattle.stores.specs.Lists.{each, first_in}
use Rattle.stores.proofs.Lists.{each_suc, first_same, first_next, first_here, first_append, first_append_some, first_some}

-- The numbers below n, rising.
abbrev pub numbers : ℕ → List ℕ
numbers n = each (λ s. s ∷ []) n

pub range_lt : (x n : ℕ) → Memᴰ x (numbers n) → x < n
unfolding each
range_lt x zero m = absurd (Memᴰ.not-nil m)
range_lt x (suc n) m =
    ⊎_elim
    (λ (k : Memᴰ x (numbers n)). le_step (range_lt x n k))
    (λ (k : Memᴰ x (n ∷ [])). let e : x ≡ n = Memᴰ.eq_of_singleton k in omega arith)
    (Memᴰ.append_cases (numbers n) m)

pub lt_range : (x n : ℕ) → x < n → Memᴰ x (numbers n)
unfolding each
lt_range x zero h = absurd (not-suc-le-zero h)
lt_range x (suc n) h =
    ⊎_elim
    (λ (e : x ≡ n). Memᴰ.append_right (numbers n) (Memᴰ.head e))
    (λ (k : x < n). Memᴰ.append_left (n ∷ []) (lt_range x n k))
    (eq-or-lt_of_le (le_of_suc-le-suc h))

-- Only the test of the numbers below the bound counts.
pub first_same_below : (p q : ℕ → Bool) (n : ℕ) → ((s : ℕ) → s < n → p s ≡ q s) → first_in p (numbers n) ≡ first_in q (numbers n)
first_same_below p q n h = first_same p q (numbers n) (λ s m. h s (range_lt s n m))

-- None passes; and the first that does.
module _ (p : ℕ → Bool) where
  pub first_nowhere : (n : ℕ) → ((s : ℕ) → s < n → p s ≡ false) → first_in p (numbers n) ≡ none
  unfolding first_in each
  first_nowhere zero h = refl
  first_nowhere (suc n) h =
      first_append p (numbers n) (n ∷ []) (first_nowhere n (λ s k. h s (le_step k))) ∙ first_next p n [] (h n (le_refl (suc n)))

  pub first_at : (n r : ℕ) → r < n → ((s : ℕ) → s < r → p s ≡ false) → p r ≡ true → first_in p (numbers n) ≡ some r
  unfolding each
  first_at zero r k h e = absurd (not-suc-le-zero k)
  first_at (suc n) r k h e =
      ⊎_elim
      (λ (q : r ≡ n). first_append p (numbers n) (n ∷ []) (first_nowhere n (rw q at h)) ∙ rw q (first_here p n [] (rw q at e)))
      (λ (l : r < n). first_append_some p (numbers n) (n ∷ []) r (first_at n r l h e))
      (eq-or-lt_of_le (le_of_suc-le-suc k))

-- The first of the numbers below S that passes a test is not behind any that does.
pub first_below : (test : ℕ → Bool) (S n : ℕ) → n < S → test n ≡ true → (m : ℕ) × (first_in test (numbers S) ≡ some m) × (m ≤ n)
first_below test zero n h t = absurd (not-suc-le-zero h)
first_below test (suc S) n h t =
    ⊎_elim
    (λ (e : n ≡ S). rw (each_suc (λ s. s ∷ []) S) (here (first_in test (numbers S)) refl e))
    (λ (l : n < S).
    let r = first_below test S n l t in
    (r.0, rw (each_suc (λ s. s ∷ []) S) (first_append_some test (numbers S) (S ∷ []) r.0 r.1), r.2))
    (eq-or-lt_of_le (le_of_suc-le-suc h))
  where
    here : (o : Option ℕ) → first_in test (numbers S) ≡ o → n ≡ S
        → (m : ℕ) × (first_in test (numbers S ++ (S ∷ [])) ≡ some m) × (m ≤ n)
    here (some m) q e =
        let low : m < S = range_lt m S (first_some test (numbers S) m q).0 in
        (m, first_append_some test (numbers S) (S ∷ []) m q, omega arith)
    here none q e =
        (S, first_append test (numbers S) (S ∷ []) q ∙ first_here test S [] (rw e at t), omega arith)
