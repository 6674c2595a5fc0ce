-- A plan under an allowance: what is said, how many stores are made, and what is left.
use mathlib.Core.Path.{◌≡◌, refl}
use mathlib.Core.List.{List}
use Prim.Native.Nat.{ℕ, ◌≤◌, ◌<◌}
use native.Mathlib.Nat.{min-le_left, min-eq_left, min-eq_right}
use borrow.Author.Tests.{le-leb, lt-leb}
use lib.ListN.{length, take}
use Rattle.stores.specs.Store.{apply, exec}
use Rattle.stores.specs.Plan.{Plan, cut}
use Rattle.stores.proofs.Stores.{exec_all, length_exec}

module _ {R : Type 0} (cut_off : R) (n : ℕ) (p : Plan R) (a : List ℕ) where
  -- Where at most n stores are due, the call is whole.
  pub cut_whole : length p.due ≤ n → cut cut_off n p a ≡ record { reply = p.reply; made = length p.due; after = apply p.due a }
  unfolding cut
  cut_whole h = rw (le-leb _ _ h, min-eq_right h, exec_all p.due n a h)

  -- Where more than n are due, exactly n are made, and the call is cut off.
  pub cut_short : n < length p.due → cut cut_off n p a ≡ record { reply = cut_off; made = n; after = exec p.due n a }
  unfolding cut
  cut_short h = rw (lt-leb _ _ h, min-eq_left (native.Mathlib.Nat.le_of_lt h))

  -- The array after the first n stores of a call is the array that allowance n leaves.
  pub after_cut : (cut cut_off n p a).after ≡ apply (take n p.due) a
  unfolding cut exec
  after_cut = refl

  pub length_cut : length (cut cut_off n p a).after ≡ length a
  unfolding cut
  length_cut = length_exec p.due n a

  pub made_allowed : (cut cut_off n p a).made ≤ n
  unfolding cut
  made_allowed = min-le_left n (length p.due)
