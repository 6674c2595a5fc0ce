-- How much one number can change: one store more, and a store with another value.
use mathlib.Core.Path.{◌≡◌, refl, sym, ◌∙◌}
use mathlib.Core.List.{List, [], ◌∷◌, ◌++◌}
use Prim.Native.Nat.{ℕ, zero, suc, ◌-◌, ◌≤◌, ◌<◌}
use native.Mathlib.Omega.{arith}
use lib.ListN.{length, set, take, length-set, length-append}
use lib.Seq.{take-nil}
use Rattle.stores.specs.Store.{Store, store, apply, exec}
use Rattle.stores.specs.Difference.{SameBut, DifferAt, address_behind}
use Rattle.stores.proofs.Stores.{length_apply, exec_all, exec_not_made, exec_append, word_set_other, apply_same}

-- The first n and the first n + 1 of a list of stores: what they leave differs at most in the word of store number n + 1.
pub one_more_holds : (ss : List Store) (n : ℕ) (a : List ℕ) → DifferAt (address_behind n ss) (exec ss n a) (exec ss (suc n) a)
unfolding exec apply address_behind
one_more_holds [] n a = rw (take-nil {A = Store} n)
one_more_holds (s ∷ ss) zero a =
    record {
      lengths = sym (length-set a s.at s.value);
      words = λ i other. sym (word_set_other a s.at i s.value other);
    }
one_more_holds (s ∷ ss) (suc n) a = one_more_holds ss n (set a s.at s.value)

exec_first : (s : Store) (ss : List Store) (n : ℕ) (a : List ℕ) → exec (s ∷ ss) (suc n) a ≡ exec ss n (set a s.at s.value)
unfolding exec apply
exec_first s ss n a = refl

-- Stores of which one, at the address `at`, has the value v in one list and w in the other.
abbrev pub valued : (front : List Store) (at : ℕ) (behind : List Store) (value : ℕ) → List Store
valued front at behind value = front ++ (store at value ∷ behind)

-- With that store made, the stores in front of it are, and behind it as many as the allowance still reaches.
pub value_made : (front : List Store) (at : ℕ) (behind : List Store) (v n : ℕ) (a : List ℕ) → length front < n
    → exec (valued front at behind v) n a ≡ exec behind (n - suc (length front)) (set (apply front a) at v)
value_made front at behind v n a h =
    let left : n - length front ≡ suc (n - suc (length front)) = omega arith in
    exec_append front (store at v ∷ behind) n a ∙ rw (exec_all front n a (omega arith), left) (exec_first (store at v) behind _ _)

module _ (front : List Store) (at : ℕ) (behind : List Store) (v w : ℕ) where
  pub valued_length : length (valued front at behind v) ≡ length (valued front at behind w)
  valued_length = length-append front (store at v ∷ behind) ∙ sym (length-append front (store at w ∷ behind))

  module _ (n : ℕ) (a : List ℕ) where
    -- Cut before that store, they leave the same.
    pub before_value : n ≤ length front → exec (valued front at behind v) n a ≡ exec (valued front at behind w) n a
    before_value h =
        rw (exec_append front (store at v ∷ behind) n a, exec_append front (store at w ∷ behind) n a)
        (exec_not_made (store at v ∷ behind) (n - length front) (exec front n a) (omega arith)
        ∙ sym (exec_not_made (store at w ∷ behind) (n - length front) (exec front n a) (omega arith)))

    -- With that store made, they leave arrays that differ at most in its word.
    pub with_value_holds : length front < n → SameBut at (exec (valued front at behind v) n a) (exec (valued front at behind w) n a)
    unfolding exec
    with_value_holds h =
        let b : List ℕ = apply front a in
        let kept : length (set b at v) ≡ length (set b at w) = length-set b at v ∙ sym (length-set b at w) in
        let last : List Store = take (n - suc (length front)) behind in
        rw (value_made front at behind v n a h, value_made front at behind w n a h)
        (record {
          lengths = length_apply last (set b at v) ∙ kept ∙ sym (length_apply last (set b at w));
          words = λ i other.
              apply_same last (set b at v) (set b at w) i kept (word_set_other b at i v other ∙ sym (word_set_other b at i w other));
        })
