-- Document 01, 'Replies that say no', last column, with what document 02 adds: which call can give which refusal.
use Rattle.std.specs.Prelude.{ℕ, Bool, false, ◌||◌, List, [], ◌∷◌, eqb}
use Rattle.index_rules.specs.declared.Call.{Call}
use Rattle.index_rules.specs.declared.Call.TheVariants.{Format, Get, Put, Remove, Merge, Mend, List as ListCall, ListBlock}

-- The numbers of the refusals that a call can give.
unfoldable pub refusals_of : Call → List ℕ
refusals_of (Format D S allowance) = 7 ∷ 8 ∷ 9 ∷ []
refusals_of (Get key) = 1 ∷ 2 ∷ 3 ∷ []
refusals_of (Put key value allowance) = 1 ∷ 2 ∷ 3 ∷ 4 ∷ 5 ∷ 6 ∷ 7 ∷ []
refusals_of (Remove key allowance) = 1 ∷ 2 ∷ 3 ∷ 4 ∷ 7 ∷ []
refusals_of (Merge key allowance) = 1 ∷ 2 ∷ 3 ∷ 4 ∷ 7 ∷ 14 ∷ 15 ∷ []
refusals_of (Mend allowance) = 1 ∷ 3 ∷ 7 ∷ []
refusals_of ListCall = 1 ∷ 3 ∷ 4 ∷ 10 ∷ []
refusals_of (ListBlock i) = 1 ∷ 3 ∷ 4 ∷ 10 ∷ 16 ∷ []

-- The list has the number n.
unfoldable pub has : List ℕ → (n : ℕ) → Bool
has [] n = false
has (x ∷ xs) n = eqb x n || has xs n

-- The call can give the refusal with this number.
unfoldable pub gives : Call → (number : ℕ) → Bool
gives call n = has (refusals_of call) n
