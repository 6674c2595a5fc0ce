-- Choices, lists and tests over a range of numbers, as the definitions of plans use them.
use Rattle.std.specs.Prelude.{ℕ, zero, suc, Bool, true, false, ◌&&◌, ◌||◌, List, [], ◌∷◌, ◌++◌, eqb}
use Rattle.std.proofs.Math.Option.{Option, none, some}

-- One of two values by a test: the first where the test is true.
abbrev pub pick : {A : Type 0} → Bool → A → A → A
pick true x y = x
pick false x y = y

-- The lists f 0, f 1, .. f (n - 1), joined in this order: what a rising loop adds, turn by turn.
unfoldable pub each : {A : Type 0} → (ℕ → List A) → ℕ → List A
each f zero = []
each f (suc n) = each f n ++ f n

-- The first element of a list that passes the test.
unfoldable pub first_in : (ℕ → Bool) → List ℕ → Option ℕ
first_in test [] = none
first_in test (x ∷ xs) =
    let later : Option ℕ = first_in test xs in
    pick (test x) (some x) later

-- Every number below n passes the test.
unfoldable pub all_below : (ℕ → Bool) → ℕ → Bool
all_below test zero = true
all_below test (suc n) = all_below test n && test n

-- Some number below n passes the test.
unfoldable pub any_below : (ℕ → Bool) → ℕ → Bool
any_below test zero = false
any_below test (suc n) = any_below test n || test n

-- Two lists of numbers are the same.
unfoldable pub numbers_same : List ℕ → List ℕ → Bool
numbers_same [] [] = true
numbers_same [] (y ∷ ys) = false
numbers_same (x ∷ xs) [] = false
numbers_same (x ∷ xs) (y ∷ ys) = eqb x y && numbers_same xs ys

-- Two lists of such lists are the same.
unfoldable pub lists_same : (xs ys : List (List ℕ)) → Bool
lists_same [] [] = true
lists_same [] (y ∷ ys) = false
lists_same (x ∷ xs) [] = false
lists_same (x ∷ xs) (y ∷ ys) = numbers_same x y && lists_same xs ys

-- A number that may be there, as a list.
abbrev pub if_any : Option ℕ → List ℕ
if_any none = []
if_any (some n) = n ∷ []
