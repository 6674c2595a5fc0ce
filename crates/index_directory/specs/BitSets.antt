-- A set of numbers as words of 64 bits: which numbers it holds, and what its functions leave and answer.
use Rattle.std.specs.Prelude.{ℕ, ◌/◌, ◌%◌, ◌^◌, ◌<◌, ◌≡◌, Bool, true, false, ◌||◌, List, eqb, length}
use Rattle.stores.specs.Store.{word}

-- The words are a set of numbers below 4,096: there are 64.
abbrev pub IsBitSet : List ℕ → Type 0
IsBitSet set = length set ≡ 64

-- Number n is in the set: bit n mod 64 of word n / 64 is 1. No number of 4,096 or more is in a set of 64 words.
unfoldable pub holds : List ℕ → ℕ → Bool
holds set n = eqb (word set (n / 64) / 2 ^ (n % 64) % 2) 1

-- No number is in the set.
abbrev pub Empty : List ℕ → Type 0
Empty set = (n : ℕ) → holds set n ≡ false

-- Besides what it held, the set holds the number, and nothing else.
abbrev pub Inserted : ℕ → List ℕ → List ℕ → Type 0
Inserted number before after = (n : ℕ) → holds after n ≡ (eqb number n || holds before n)

-- The number r is not in the set, and every smaller one is.
pub record SmallestMissing (r : ℕ) (set : List ℕ) : Type 0 where
  pub below_held : (n : ℕ) → n < r → holds set n ≡ true
  pub missing : holds set r ≡ false
