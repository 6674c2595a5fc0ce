-- A text that was put together of parts is parted into them again.
use Prim.Native.Nat.{ℕ, ◌≤◌, ◌<◌}
use mathlib.Core.Path.{◌≡◌, refl}
use mathlib.Core.Bool.{Bool, true, not, ◌&&◌}
use mathlib.Core.List.{List, [], ◌∷◌, ◌++◌}
use native.Mathlib.Omega.{arith}
use borrow.Author.Tests.{not-true, eq-eqb, ne_eqb, leb-true}
use lib.Dec.{eqb, leb}
use lib.ListN.{length}
use Rattle.stores.proofs.Tests.{and_left, and_right, and_true}
use Rattle.text.specs.Parts.{line_feed, started_by, parts, nonempty, lines_of}
use Rattle.text.specs.Number.{is_digit, all_digits, decimal}
use Rattle.text.proofs.Digits.{spelled_digits}

-- ---- Bytes without a separator

-- No byte is b.
unfoldable pub without : (b : ℕ) → List ℕ → Bool
without b [] = true
without b (x ∷ xs) = not (eqb x b) && without b xs

pub without_append : (b : ℕ) (xs ys : List ℕ) → without b xs ≡ true → without b ys ≡ true → without b (xs ++ ys) ≡ true
unfolding without
without_append b [] ys h k = k
without_append b (x ∷ xs) ys h k =
    and_true (and_left (not (eqb x b)) (without b xs) h) (without_append b xs ys (and_right (not (eqb x b)) (without b xs) h) k)

-- Digits have no byte below them.
digits_without : (b : ℕ) (xs : List ℕ) → b < 48 → all_digits xs ≡ true → without b xs ≡ true
unfolding without all_digits is_digit
digits_without b [] h d = refl
digits_without b (x ∷ xs) h d =
    let digit = and_left (leb 48 x && leb x 57) (all_digits xs) d in
    let high : 48 ≤ x = leb-true 48 x (and_left (leb 48 x) (leb x 57) digit) in
    let other : not (eqb x b) ≡ true = rw (ne_eqb x b (omega arith)) refl in
    and_true other (digits_without b xs h (and_right (leb 48 x && leb x 57) (all_digits xs) d))

pub decimal_without : (b n : ℕ) → b < 48 → without b (decimal n) ≡ true
unfolding decimal
decimal_without b n h = digits_without b _ h (spelled_digits 20 n)

-- ---- Parts

pub parts_alone : (b : ℕ) (xs : List ℕ) → without b xs ≡ true → parts b xs ≡ xs ∷ []
unfolding parts started_by without
parts_alone b [] h = refl
parts_alone b (x ∷ xs) h =
    rw (not-true (eqb x b) (and_left (not (eqb x b)) (without b xs) h), parts_alone b xs (and_right (not (eqb x b)) (without b xs) h)) refl

pub parts_joined : (b : ℕ) (xs ys : List ℕ) → without b xs ≡ true → parts b (xs ++ b ∷ ys) ≡ xs ∷ parts b ys
unfolding parts started_by without
parts_joined b [] ys h = rw (eq-eqb b b refl) refl
parts_joined b (x ∷ xs) ys h =
    rw (not-true (eqb x b) (and_left (not (eqb x b)) (without b xs) h), parts_joined b xs ys (and_right (not (eqb x b)) (without b xs) h)) refl

-- A line with a byte, and its line feed.
pub lines_joined : (line ys : List ℕ) → 0 < length line → without line_feed line ≡ true → lines_of (line ++ line_feed ∷ ys) ≡ line ∷ lines_of ys
unfolding lines_of nonempty
lines_joined [] ys k h = absurd (omega arith)
lines_joined (x ∷ xs) ys k h = rw (parts_joined line_feed (x ∷ xs) ys h) refl
