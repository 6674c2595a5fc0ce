-- The next line of a script, as its reader finds it.
use Rattle.std.specs.Prelude.{ℕ, ◌-◌, ◌≤◌, ◌≡◌, List, [], ◌∷◌, ltb, length, take, drop}
use Rattle.stores.specs.Lists.{pick}
use Rattle.text.specs.Parts.{lines_of}

-- From position `from` on, the script's next line stands from `start` to `end`; where none is left, both are its length, also
-- for a position behind its end.
pub record NextLine (script : List ℕ) (from start end : ℕ) : Type 0 where
  pub forward : from ≤ length script → from ≤ start
  pub ordered : start ≤ end
  pub within : end ≤ length script
  pub none_left : start ≡ end → end ≡ length script
  pub lines : lines_of (drop from script)
      ≡ pick (ltb start end) (take (end - start) (drop start script) ∷ lines_of (drop end script)) []
