-- Mends that antt computes from the definitions, of the store of Samples.antt. This file imports no proof.
use Prim.Native.Nat.{ℕ}
use mathlib.Core.Path.{◌≡◌, refl}
use mathlib.Core.Bool.{Bool, true, false, ◌&&◌}
use mathlib.Core.List.{List, [], ◌∷◌}
use Rattle.stores.specs.Lists.{numbers_same}
use Rattle.replies.specs.Replies.{done, said_same}
use Rattle.runs.specs.Map.{keeps, empty, fed}
use Rattle.runs.specs.Run.{start, is_recovery, recovery_after, claimed, next, finish}
use Rattle.runs.specs.BeforeMending.{mends_behind}
use Rattle.runs.specs.Check.{same_answers, mends_unseen}
use Rattle.runs.proofs.Samples.{Was, was, lookup, told, same, none0, five, six, done_mend, cut_mend, get_finds}

-- Calls on an array that has 5 for key 1, and whether they mend it to completion with every lookup as before.
pub record Mending : Type 0 where
  pub calls : List Was
  pub unseen : Bool

abbrev row : List Was → (unseen : Bool) → Mending
row calls unseen = record { calls = calls; unseen = unseen }

passes : Mending → Bool
passes s = same (mends_unseen (told true) lookup (0 ∷ 1 ∷ 2 ∷ []) (start five) s.calls) s.unseen

pub all_pass : List Mending → Bool
all_pass [] = true
all_pass (s ∷ ss) = passes s && all_pass ss

-- An array with another word for key 0 than `five`.
abbrev five7 : List ℕ
five7 = 7 ∷ 5 ∷ 0 ∷ []

pub mendings : List Mending
mendings =
    -- mends, the last of them done, whatever the others say
    row (done_mend five ∷ []) true
    ∷ row (cut_mend five ∷ cut_mend six ∷ done_mend five ∷ []) true
    -- no mend, a last one that is not done, another call
    ∷ row [] false
    ∷ row (cut_mend five ∷ []) false
    ∷ row (done_mend five ∷ cut_mend five ∷ []) false
    ∷ row (get_finds 5 five ∷ done_mend five ∷ []) false
    ∷ row (done_mend five ∷ was keeps (done []) five ∷ []) false
    -- a lookup that changes is seen; not one of key 0
    ∷ row (done_mend six ∷ []) false
    ∷ row (cut_mend none0 ∷ done_mend none0 ∷ []) false
    ∷ row (done_mend five7 ∷ []) true
    ∷ []

pub mendings_pass : all_pass mendings ≡ true
unfolding lookup same passes all_pass mendings numbers_same said_same empty fed is_recovery recovery_after claimed next finish mends_behind same_answers mends_unseen
mendings_pass = refl
