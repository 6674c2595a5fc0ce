-- What the search for a free segment notes, and what it answers.
use Rattle.std.specs.Prelude.{ℕ, ◌≤◌, ◌<◌, ◌≡◌, false, not, ◌&&◌, ◌||◌, List, [], ◌∷◌, eqb, ltb}
use Rattle.std.proofs.Math.Option.{Option}
use Rattle.stores.specs.Lists.{each, first_in}
use Rattle.index_rules.specs.Layout.{segments, segment_of}
use Rattle.index_rules.specs.Slots.{named}
use Rattle.index_directory.specs.BitSets.{holds}

-- Besides what it held, the set holds the segment that entry e names, if that is below S, and nothing else.
abbrev pub NotedEntry : (e S : ℕ) → List ℕ → List ℕ → Type 0
NotedEntry e S before after = (s : ℕ) → holds after s ≡ (ltb s S && eqb (segment_of e) s || holds before s)

-- Of the numbers below S, the set holds exactly those that some entry of the array's directory names (document 02, wish 8); and no others.
pub record HoldsNamed (set a : List ℕ) : Type 0 where
  pub exactly_named : (s : ℕ) → s < segments a → holds set s ≡ named a s
  pub no_others : (s : ℕ) → segments a ≤ s → holds set s ≡ false

-- The smallest number below S that is not in the set.
unfoldable pub free_in : List ℕ → (S : ℕ) → Option ℕ
free_in set S = first_in (λ s. not (holds set s)) (each (λ s. s ∷ []) S)
