-- Tests that are true or false: which parts of them hold, and how they are split by cases.
use mathlib.Core.Path.{◌≡◌, refl, sym}
use mathlib.Core.Bool.{Bool, true, false, not, ◌&&◌, ◌||◌, false≢true}
use mathlib.Core.Logic.{◌⊎◌, inl, inr}
use Prim.Native.Nat.{ℕ, ◌<◌, ◌≤◌}
use borrow.Author.Tests.{eqb-true, eqb-false, leb-true, leb-false, ltb-true, ltb-false}
use lib.Dec.{eqb, leb, ltb}
use Rattle.stores.specs.Lists.{pick}

-- A test is true or false, with the equation.
pub cases : (b : Bool) → (b ≡ true) ⊎ (b ≡ false)
cases true = inl refl
cases false = inr refl

-- What holds where a test is true and where it is false holds.
pub by_test : {A : Type 0} (b : Bool) → (b ≡ true → A) → (b ≡ false → A) → A
by_test true f g = f refl
by_test false f g = g refl

-- The same of the three tests of numbers, each case with what it says of them.
pub by_equal : {A : Type 0} (m n : ℕ) → (m ≡ n → A) → ((m ≡ n → ⊥) → A) → A
by_equal m n f g = by_test (eqb m n) (λ t. f (eqb-true m n t)) (λ t. g (eqb-false m n t))

pub by_at_most : {A : Type 0} (m n : ℕ) → (m ≤ n → A) → (n < m → A) → A
by_at_most m n f g = by_test (leb m n) (λ t. f (leb-true m n t)) (λ t. g (leb-false m n t))

pub by_less : {A : Type 0} (m n : ℕ) → (m < n → A) → (n ≤ m → A) → A
by_less m n f g = by_test (ltb m n) (λ t. f (ltb-true m n t)) (λ t. g (ltb-false m n t))

pub and_left : (a b : Bool) → a && b ≡ true → a ≡ true
and_left true b e = refl
and_left false b e = absurd (false≢true e)

pub and_right : (a b : Bool) → a && b ≡ true → b ≡ true
and_right true b e = e
and_right false b e = absurd (false≢true e)

pub and_true : {a b : Bool} → a ≡ true → b ≡ true → a && b ≡ true
and_true {a} {b} p q = rw (p, q)

pub or_cases : (a b : Bool) → a || b ≡ true → (a ≡ true) ⊎ (b ≡ true)
or_cases true b e = inl refl
or_cases false b e = inr e

pub or_right : (a : Bool) {b : Bool} → b ≡ true → a || b ≡ true
or_right true e = refl
or_right false e = e

pub or_left : {a : Bool} (b : Bool) → a ≡ true → a || b ≡ true
or_left b e = rw e

-- Two tests that imply each other are equal.
pub same_test : (p q : Bool) → (p ≡ true → q ≡ true) → (q ≡ true → p ≡ true) → p ≡ q
same_test true q f b = sym (f refl)
same_test false true f b = b refl
same_test false false f b = refl

-- What is chosen of two numbers below m is below m.
pub pick_below : (t : Bool) (x y m : ℕ) → x < m → y < m → pick t x y < m
pick_below true x y m p q = p
pick_below false x y m p q = q

pub pick_not : {A : Type 0} (t : Bool) (x y : A) → pick (not t) x y ≡ pick t y x
pick_not true x y = refl
pick_not false x y = refl
