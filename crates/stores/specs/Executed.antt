-- What code that stores under an allowance promises.
use Rattle.std.specs.Prelude.{ℕ, ◌+◌, ◌-◌, ◌≡◌, List, length}
use Rattle.stores.specs.Store.{Store, exec}
use Rattle.stores.specs.declared.Budget.{Budget}

-- The budget of a call that may make so many stores, before the first.
abbrev pub begun : (allowance : ℕ) → Budget
begun allowance = record { allowance = allowance; due = 0 }

-- The stores ss have come due in a call, by its budget before them and behind them. The count of due stores has risen by their number, and of
-- the stores those are made that the allowance still reached.
pub record Executed (ss : List Store) (b : Budget) (before : List ℕ) (b' : Budget) (after : List ℕ) : Type 0 where
  pub allowance : b'.allowance ≡ b.allowance
  pub count : b'.due ≡ b.due + length ss
  pub words : after ≡ exec ss (b.allowance - b.due) before

-- A bound on the stores that are due before in the same call, far above what any call has: a put makes at most 9,764.
abbrev pub due_limit : ℕ
due_limit = 1000000
