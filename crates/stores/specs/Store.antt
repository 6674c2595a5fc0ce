-- A store, and what stores leave in an array of words.
use Rattle.std.specs.Prelude.{ℕ, ◌+◌, Bool, false, ◌||◌, List, [], ◌∷◌, eqb, set, take, get_or}

-- The word at address i of the array a; 0 where the array has no such word.
abbrev pub word : List ℕ → ℕ → ℕ
word a i = get_or a i 0

-- One store: the word at the address `at` becomes `value`, whole.
pub record Store : Type 0 where
  pub at : ℕ
  pub value : ℕ

-- The store of v at i.
abbrev pub store : ℕ → ℕ → Store
store i v = record { at = i; value = v }

-- The array that the stores ss leave, made in their order from the array a.
unfoldable pub apply : List Store → List ℕ → List ℕ
apply [] a = a
apply (s ∷ ss) a = apply ss (set a s.at s.value)

-- The array that the first n of the stores ss leave: what a power cut after n stores leaves.
unfoldable pub exec : List Store → ℕ → List ℕ → List ℕ
exec ss n a = apply (take n ss) a

-- Stores in a part of an array as stores in the whole, where the part starts at `base`.
unfoldable pub shifted : ℕ → List Store → List Store
shifted base [] = []
shifted base (s ∷ ss) = store (base + s.at) s.value ∷ shifted base ss

-- Every store of a list is of the kind P.
abbrev pub Every : (Store → Type 0) → List Store → Type 0
Every P [] = Unit {0}
Every P (s ∷ ss) = P s × Every P ss

-- Some store of the list is at address i.
unfoldable pub writes : List Store → ℕ → Bool
writes [] i = false
writes (s ∷ ss) i = eqb s.at i || writes ss i
