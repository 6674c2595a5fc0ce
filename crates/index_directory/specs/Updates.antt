-- What the functions that store ask of their callers, the stores of one half of an entry update, and those of one turn of a mend.
use Rattle.std.specs.Prelude.{ℕ, suc, ◌+◌, ◌-◌, ◌^◌, ◌≤◌, ◌<◌, List, [], ◌∷◌, length, eqb}
use Rattle.stores.specs.Lists.{pick, each}
use Rattle.stores.specs.Store.{Store, store, word}
use Rattle.index_rules.specs.Keys.{width}
use Rattle.index_rules.specs.Split.{updating}
use Rattle.index_directory.specs.declared.update.Halves.{Halves}

-- The entries of the block can be given to its two segments, half each.
pub record Updatable (h : Halves) (a : List ℕ) : Type 0 where
  pub not_full : h.local_depth < h.depth
  pub depth_high : h.depth ≤ 12
  pub inside : h.start + width h.depth h.local_depth ≤ 2 ^ h.depth
  pub old_fits : h.segment < 2 ^ 32
  pub new_fits : h.new_segment < 2 ^ 32
  pub room : 2 ^ suc h.depth ≤ length a

-- The stores of step 4 of a split for such a block.
abbrev pub updating_of : Halves → List Store
updating_of h = updating h.depth h.local_depth h.start h.segment h.new_segment

-- The entry e in the words `first` to first + count - 1, from right to left.
unfoldable pub filling : (first count e : ℕ) → List Store
filling first count e = each (λ t. store (first + (count - suc t)) e ∷ []) count

-- The store of the entry e at the address `at` of the array a, unless it stands there.
abbrev pub correction : List ℕ → (at e : ℕ) → List Store
correction a at e = pick (eqb (word a at) e) [] (store at e ∷ [])
