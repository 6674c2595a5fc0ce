-- Stores in a part of an array, and the same stores in the whole.
use mathlib.Core.Path.{◌≡◌, refl, ap, ◌∙◌}
use mathlib.Core.List.{List, [], ◌∷◌, ◌++◌}
use Prim.Native.Nat.{ℕ, zero, suc, ◌+◌, ◌<◌}
use lib.ListN.{length, set, take, length-set}
use lib.Seq.{set-append_left}
use Rattle.stores.specs.Store.{Store, store, apply, exec, shifted, Every}
use Rattle.stores.proofs.Lists.{every_take}

-- A store behind the front xs.
set_behind : (xs ys : List ℕ) (i v : ℕ) → set (xs ++ ys) (length xs + i) v ≡ xs ++ set ys i v
set_behind [] ys i v = rw (native.Mathlib.Nat.zero-add i)
set_behind (x ∷ xs) ys i v =
    rw (native.Mathlib.Nat.suc-add (length xs) i) (ap (λ (r : List ℕ). x ∷ r) (set_behind xs ys i v))

-- Stores that stay within a part leave, in the whole, what they leave in the part, and all else as it was.
pub apply_part : (front part back : List ℕ) (ss : List Store) → Every (λ s. s.at < length part) ss
    → apply (shifted (length front) ss) (front ++ (part ++ back)) ≡ front ++ (apply ss part ++ back)
unfolding apply shifted
apply_part front part back [] h = refl
apply_part front part back (s ∷ ss) h =
    ap (apply (shifted (length front) ss))
    (set_behind front (part ++ back) s.at s.value
    ∙ ap (λ (r : List ℕ). front ++ r) (set-append_left part back s.at s.value h.0))
    ∙ apply_part front (set part s.at s.value) back ss (rw length-set h.1)

pub shifted_append : (base : ℕ) (ss tt : List Store) → shifted base (ss ++ tt) ≡ shifted base ss ++ shifted base tt
unfolding shifted
shifted_append base [] tt = refl
shifted_append base (s ∷ ss) tt = ap (λ (r : List Store). store (base + s.at) s.value ∷ r) (shifted_append base ss tt)

pub length_shifted : (base : ℕ) (ss : List Store) → length (shifted base ss) ≡ length ss
unfolding shifted
length_shifted base [] = refl
length_shifted base (s ∷ ss) = ap suc (length_shifted base ss)

take_shifted : (base n : ℕ) (ss : List Store) → take n (shifted base ss) ≡ shifted base (take n ss)
unfolding shifted
take_shifted base zero ss = refl
take_shifted base (suc n) [] = refl
take_shifted base (suc n) (s ∷ ss) = ap (λ (r : List Store). store (base + s.at) s.value ∷ r) (take_shifted base n ss)

-- The same under an allowance.
pub exec_part : (front part back : List ℕ) (ss : List Store) (n : ℕ) → Every (λ s. s.at < length part) ss
    → exec (shifted (length front) ss) n (front ++ (part ++ back)) ≡ front ++ (exec ss n part ++ back)
unfolding exec
exec_part front part back ss n h =
    rw (take_shifted (length front) n ss)
    (apply_part front part back (take n ss) (every_take (λ s. s.at < length part) n ss h))
