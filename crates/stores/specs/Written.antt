-- A list written into another, as a listing's words or a line's bytes.
use Rattle.std.specs.Prelude.{ℕ, ◌+◌, ◌≡◌, List, ◌++◌, length, take, drop}

-- The words in front, and behind them what stood there.
abbrev pub at_front : (words before : List ℕ) → List ℕ
at_front words before = words ++ drop (length words) before

-- The words have been written to the list from position `at` on, all else in it is as it was, and `next` is the position
-- behind them.
pub record Written (words : List ℕ) (at : ℕ) (before : List ℕ) (next : ℕ) (after : List ℕ) : Type 0 where
  pub behind : next ≡ at + length words
  pub list : after ≡ take at before ++ words ++ drop (at + length words) before
