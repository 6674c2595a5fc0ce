-- Runs that antt computes from the definitions, of a store that has no code: each call carries what it has said and the array
-- that it has left, and a lookup of key k says word k, or absent where that is 0. This file imports no proof.
use Prim.Native.Nat.{ℕ}
use mathlib.Core.Path.{◌≡◌, refl}
use mathlib.Core.Bool.{Bool, true, false, false≢true, not, ◌&&◌, ◌||◌}
use mathlib.Core.List.{List, [], ◌∷◌}
use lib.Dec.{eqb}
use Rattle.stores.specs.Lists.{pick, numbers_same}
use Rattle.stores.specs.Store.{word}
use Rattle.replies.specs.Replies.{Said, done, absent, refused, said_same}
use Rattle.runs.specs.Map.{View, formats, gets, puts, removes, mends, looks, keeps, empty, updated, fed}
use Rattle.runs.specs.Run.{Machine, start, may_follow, is_recovery, recovery_after, claimed, next, finish, valid_run}
use Rattle.runs.specs.Check.{get_agrees, calls_agree, gets_agree, agrees}

-- A call as it was.
pub record Was : Type 0 where
  pub view : View
  pub said : Said
  pub after : List ℕ

abbrev pub was : View → Said → List ℕ → Was
was view said after = record { view = view; said = said; after = after }

unfoldable pub lookup : List ℕ → ℕ → Said
lookup a key = pick (eqb (word a key) 0) absent (done (word a key ∷ []))

-- The store of such calls; `cuts` says whether a cut begins the need of recovery.
abbrev pub told : (cuts : Bool) → Machine
told cuts =
    record {
      Call = Was;
      Made = λ a c. Unit {0};
      step = λ a c. record { reply = c.said; made = 0; after = c.after };
      view = λ c. c.view;
      Says = λ a key said. said ≡ lookup a key;
      cut_needs_recovery = cuts;
    }

-- A run from three words of 0, the keys asked for at its end, whether it is valid, and whether it agrees with the map.
pub record Sample : Type 0 where
  pub cuts : Bool
  pub calls : List Was
  pub valid : Bool
  pub agreed : Bool

unfoldable pub same : Bool → Bool → Bool
same x y = x && y || not x && not y

pub same_tests : (x y : Bool) → same x y ≡ true → x ≡ y
unfolding same
same_tests true true e = refl
same_tests true false e = absurd (false≢true e)
same_tests false true e = absurd (false≢true e)
same_tests false false e = refl

passes : Sample → Bool
passes s =
    same (valid_run (told s.cuts) (start (0 ∷ 0 ∷ 0 ∷ [])) s.calls) s.valid
    && same (agrees (told s.cuts) lookup (0 ∷ 1 ∷ 2 ∷ []) (start (0 ∷ 0 ∷ 0 ∷ [])) s.calls) s.agreed

pub all_pass : List Sample → Bool
all_pass [] = true
all_pass (s ∷ ss) = passes s && all_pass ss

-- Arrays with nothing, with 5 for key 1, with 6 for it, and with 7 for key 0.
abbrev pub none0 : List ℕ
none0 = 0 ∷ 0 ∷ 0 ∷ []

abbrev pub five : List ℕ
five = 0 ∷ 5 ∷ 0 ∷ []

abbrev pub six : List ℕ
six = 0 ∷ 6 ∷ 0 ∷ []

abbrev seven0 : List ℕ
seven0 = 7 ∷ 0 ∷ 0 ∷ []

-- A sample of a store whose cuts need recovery.
abbrev row : List Was → (valid agreed : Bool) → Sample
row calls valid agreed = record { cuts = true; calls = calls; valid = valid; agreed = agreed }

-- Calls that leave the array given: a put of 5 for key 1, done or cut off; another call, a mend, each done or cut off.
abbrev done_put : List ℕ → Was
done_put = was (puts 1 5) (done [])

abbrev cut_put : List ℕ → Was
cut_put = was (puts 1 5) (refused 7)

abbrev done_other : List ℕ → Was
done_other = was keeps (done [])

abbrev cut_other : List ℕ → Was
cut_other = was keeps (refused 7)

abbrev pub done_mend : List ℕ → Was
done_mend = was mends (done [])

abbrev pub cut_mend : List ℕ → Was
cut_mend = was mends (refused 7)

-- Gets of key 1 on the array given, that find a value or nothing.
abbrev pub get_finds : (value : ℕ) → List ℕ → Was
get_finds value = was (gets 1) (done (value ∷ []))

abbrev get_misses : List ℕ → Was
get_misses = was (gets 1) absent

pub samples : List Sample
samples =
    row [] true true
    -- a done put is told to the map, and a done remove; a lost page and an invented one are seen
    ∷ row (done_put five ∷ get_finds 5 five ∷ []) true true
    ∷ row (done_put none0 ∷ []) true false
    ∷ row (done_put five ∷ get_misses five ∷ []) true false
    ∷ row (done_put five ∷ was (removes 1) (done []) none0 ∷ []) true true
    ∷ row (done_put five ∷ was (removes 1) (done []) five ∷ []) true false
    ∷ row (done_other five ∷ []) true false
    -- a refused put is not told, nor one that is cut off
    ∷ row (was (puts 1 5) (refused 6) none0 ∷ []) true true
    ∷ row (was (puts 1 5) (refused 6) five ∷ []) true false
    ∷ row (cut_put none0 ∷ done_mend none0 ∷ []) true true
    -- key 0 is not claimed
    ∷ row (was (gets 0) (refused 2) seven0 ∷ []) true true
    -- where a mend is awaited the claim stands at the end of the run: a cut put that shows, or a page that is gone, is seen
    ∷ row (cut_put none0 ∷ []) true true
    ∷ row (cut_put five ∷ []) true false
    ∷ row (done_put five ∷ was (removes 2) (refused 7) none0 ∷ []) true false
    ∷ row (done_put five ∷ cut_other five ∷ cut_mend five ∷ was formats (refused 9) five ∷ []) true true
    ∷ row (done_put five ∷ cut_other five ∷ cut_mend six ∷ []) true false
    -- gets and calls made of lookups may come there, and gets are claimed: a cut put that shows before the mend alone is seen
    ∷ row (cut_put none0 ∷ get_misses none0 ∷ was looks (done []) none0 ∷ done_mend none0 ∷ []) true true
    ∷ row (cut_put five ∷ get_finds 5 five ∷ done_mend none0 ∷ []) true false
    ∷ row (done_put five ∷ was (puts 1 6) (refused 7) five ∷ get_finds 5 five ∷ cut_mend five ∷ get_finds 5 five ∷ []) true true
    ∷ row (done_put five ∷ cut_other five ∷ cut_mend six ∷ get_finds 6 six ∷ done_mend five ∷ []) true false
    -- all other calls but mends and refused formats wait
    ∷ row (cut_put none0 ∷ done_put five ∷ []) false true
    ∷ row (was (removes 1) (refused 7) none0 ∷ was (removes 1) absent none0 ∷ []) false true
    ∷ row (cut_put none0 ∷ done_other none0 ∷ []) false true
    -- a done mend ends the need; a refused one does not, nor does a get
    ∷ row (cut_put none0 ∷ done_mend none0 ∷ done_other none0 ∷ []) true true
    ∷ row (cut_put none0 ∷ was mends (refused 3) none0 ∷ done_other none0 ∷ []) false true
    ∷ row (cut_put none0 ∷ get_misses none0 ∷ done_other none0 ∷ []) false true
    -- a format that is done or cut off is in no run
    ∷ row (was formats (done []) none0 ∷ []) false true
    ∷ row (was formats (refused 7) none0 ∷ []) false true
    ∷ row (was formats (refused 8) none0 ∷ []) true true
    -- a store whose cuts need no recovery: any call may follow, and the claim stands
    ∷ record { cuts = false; calls = cut_put none0 ∷ done_put five ∷ []; valid = true; agreed = true }
    ∷ record { cuts = false; calls = cut_put five ∷ []; valid = true; agreed = false }
    ∷ []

pub samples_pass : all_pass samples ≡ true
unfolding lookup same passes all_pass samples numbers_same said_same empty updated fed may_follow is_recovery recovery_after claimed next finish valid_run get_agrees calls_agree gets_agree agrees
samples_pass = refl
