-- Lookups before mending: mends may come at every point of a run, and tell the map nothing.
use Prim.Native.Nat.{ℕ}
use mathlib.Core.Path.{◌≡◌, refl, sym, ap, ◌∙◌}
use mathlib.Core.Bool.{Bool, true, false≢true}
use mathlib.Core.List.{List, [], ◌∷◌}
use Rattle.stores.proofs.Tests.{and_left, and_right, and_true}
use Rattle.replies.specs.Replies.{Said, is_done}
use Rattle.runs.specs.Map.{Map, View, formats, gets, puts, removes, mends, looks, keeps, fed, map_says}
use Rattle.runs.specs.Run.{Machine, Point, may_follow, is_mend, next, finish, valid_run}
use Rattle.runs.specs.BeforeMending.{mends_behind, LookupsBeforeMending}
use Rattle.runs.proofs.Runs.{Invariant, reached_good, reached_run}

-- ---- One mend

is_mends : (view : View) → is_mend view ≡ true → view ≡ mends
is_mends formats e = absurd (false≢true e)
is_mends (gets key) e = absurd (false≢true e)
is_mends (puts key value) e = absurd (false≢true e)
is_mends (removes key) e = absurd (false≢true e)
is_mends mends e = refl
is_mends looks e = absurd (false≢true e)
is_mends keeps e = absurd (false≢true e)

mend_may_follow : (waits : Bool) (view : View) (said : Said) → is_mend view ≡ true → may_follow waits view said ≡ true
unfolding may_follow
mend_may_follow waits view said e = rw (is_mends view e) refl

mend_tells_nothing : (view : View) (d : Bool) (m : Map) → is_mend view ≡ true → fed view d m ≡ m
unfolding fed
mend_tells_nothing view d m e = rw (is_mends view e) refl

-- ---- Mends, one behind the other

module _ (M : Machine) where
  module _ (b : Bool) (p : Point) (c : M.Call) (cs : List M.Call) (e : mends_behind M b p (c ∷ cs) ≡ true) where
    first_mends : is_mend (M.view c) ≡ true
    unfolding mends_behind
    first_mends = and_left (is_mend (M.view c)) _ e

    rest_mends : mends_behind M (is_done (M.step p.array c).reply) (next M p c) cs ≡ true
    unfolding mends_behind
    rest_mends = and_right (is_mend (M.view c)) _ e

  mends_valid : (b : Bool) (p : Point) (cs : List M.Call) → mends_behind M b p cs ≡ true → valid_run M p cs ≡ true
  unfolding valid_run
  mends_valid b p [] e = refl
  mends_valid b p (c ∷ cs) e =
      and_true (mend_may_follow p.needs_recovery (M.view c) (M.step p.array c).reply (first_mends b p c cs e))
      (mends_valid (is_done (M.step p.array c).reply) (next M p c) cs (rest_mends b p c cs e))

  mends_keep_map : (b : Bool) (p : Point) (cs : List M.Call) → mends_behind M b p cs ≡ true → (finish M p cs).map ≡ p.map
  unfolding finish next
  mends_keep_map b p [] e = refl
  mends_keep_map b p (c ∷ cs) e =
      mends_keep_map (is_done (M.step p.array c).reply) (next M p c) cs (rest_mends b p c cs e)
      ∙ mend_tells_nothing (M.view c) (is_done (M.step p.array c).reply) p.map (first_mends b p c cs e)

-- THE THEOREM, of every store that has an invariant under which its gets agree with the map. (That the last mend is done is not needed.)
pub lookups_before_mending : (M : Machine) (Start : List ℕ → Type 0) (Good : Point → Type 0) (P : Point → M.Call → Type 0)
    → Invariant M Start Good P → LookupsBeforeMending M Start
lookups_before_mending M Start Good P inv p reached calls linked e key k before after says-before says-after =
    let good = reached_good M Start Good P inv in
    let later = reached_run M Start p reached calls linked (mends_valid M _ p calls e) in
    inv.says p (good p reached) key k before says-before
    ∙ sym
    (inv.says (finish M p calls) (good (finish M p calls) later) key k after says-after
    ∙ ap (λ (m : Map). map_says (m key)) (mends_keep_map M _ p calls e))
