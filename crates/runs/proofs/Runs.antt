-- The one induction over the runs of a store that has an invariant, and what follows from it.
use Prim.Native.Nat.{ℕ}
use mathlib.Core.Path.{◌≡◌, refl, sym, ap, ◌∙◌}
use mathlib.Core.Bool.{true}
use mathlib.Core.List.{List, [], ◌∷◌, ◌++◌}
use Rattle.stores.proofs.Tests.{and_left, and_right, and_true}
use Rattle.runs.specs.Run.{Machine, Point, start, next, finish, Linked, may_call, valid_run, Reached, EachCall, CallAgrees, LookupsAgree, RunsAgree}

-- ---- A run of one call more

module _ (M : Machine) (p : Point) (c : M.Call) (cs : List M.Call) (v : valid_run M p (c ∷ cs) ≡ true) where
  first_may : may_call M p c ≡ true
  unfolding valid_run
  first_may = and_left (may_call M p c) (valid_run M (next M p c) cs) v

  rest_valid : valid_run M (next M p c) cs ≡ true
  unfolding valid_run
  rest_valid = and_right (may_call M p c) (valid_run M (next M p c) cs) v

-- ---- The induction

-- A store has an invariant: it holds where a run starts, every call that may come next keeps it, and lookups agree with the map
-- where it holds. P holds besides of every such call.
pub record Invariant (M : Machine) (Start : List ℕ → Type 0) (Good : Point → Type 0) (P : Point → M.Call → Type 0) : Type 0 where
  pub at_start : (a : List ℕ) → Start a → Good (start a)
  pub kept : (p : Point) → Good p → (c : M.Call) → M.Made p.array c → may_call M p c ≡ true → P p c × Good (next M p c)
  pub says : (p : Point) → Good p → LookupsAgree M p

module _ (M : Machine) (Start : List ℕ → Type 0) (Good : Point → Type 0) (P : Point → M.Call → Type 0) (inv : Invariant M Start Good P) where
  -- THE INDUCTION: P holds of each call of a run, and the invariant at its end.
  pub run_kept : (p : Point) → Good p → (calls : List M.Call) → Linked M p calls → valid_run M p calls ≡ true
      → EachCall M P p calls × Good (finish M p calls)
  unfolding EachCall Linked finish
  run_kept p good [] linked v = (Prim.tt, good)
  run_kept p good (c ∷ cs) linked v =
      let now = inv.kept p good c linked.0 (first_may M p c cs v) in
      let later = run_kept (next M p c) now.1 cs linked.1 (rest_valid M p c cs v) in
      ((now.0, later.0), later.1)

  -- From where a run may start.
  pub each_call : (a : List ℕ) → Start a → (calls : List M.Call) → Linked M (start a) calls → valid_run M (start a) calls ≡ true
      → EachCall M P (start a) calls
  each_call a s calls linked v = (run_kept (start a) (inv.at_start a s) calls linked v).0

  -- Every point that a run comes to is good.
  pub reached_good : (p : Point) → Reached M Start p → Good p
  reached_good p r = rw r.comes (run_kept (start r.first) (inv.at_start r.first r.started) r.calls r.linked r.valid).1

-- THE THEOREM: a store that has an invariant, under which its gets agree with the map, keeps the history rule.
pub runs_agree : (M : Machine) (Start : List ℕ → Type 0) (Good : Point → Type 0) → Invariant M Start Good (CallAgrees M) → RunsAgree M Start
runs_agree M Start Good inv a s calls linked v =
    let run = run_kept M Start Good (CallAgrees M) inv (start a) (inv.at_start a s) calls linked v in
    (run.0, inv.says (finish M (start a) calls) run.1)

-- ---- Calls one behind the other

-- Where every call can be made on every array, all calls are linked.
pub all_linked : (M : Machine) → ((a : List ℕ) (c : M.Call) → M.Made a c) → (p : Point) (calls : List M.Call) → Linked M p calls
unfolding Linked
all_linked M made p [] = Prim.tt
all_linked M made p (c ∷ cs) = (made p.array c, all_linked M made (next M p c) cs)

-- ---- Runs one behind the other

module _ (M : Machine) where
  finish_append : (p : Point) (cs ds : List M.Call) → finish M p (cs ++ ds) ≡ finish M (finish M p cs) ds
  unfolding finish
  finish_append p [] ds = refl
  finish_append p (c ∷ cs) ds = finish_append (next M p c) cs ds

  linked_append : (p : Point) (cs ds : List M.Call) → Linked M p cs → Linked M (finish M p cs) ds → Linked M p (cs ++ ds)
  unfolding finish Linked
  linked_append p [] ds l k = k
  linked_append p (c ∷ cs) ds l k = (l.0, linked_append (next M p c) cs ds l.1 k)

  valid_append : (p : Point) (cs ds : List M.Call) → valid_run M p cs ≡ true → valid_run M (finish M p cs) ds ≡ true
      → valid_run M p (cs ++ ds) ≡ true
  unfolding finish valid_run
  valid_append p [] ds v w = w
  valid_append p (c ∷ cs) ds v w = and_true (first_may M p c cs v) (valid_append (next M p c) cs ds (rest_valid M p c cs v) w)

  -- A valid run from a point that a run comes to comes to such a point.
  pub reached_run : (Start : List ℕ → Type 0) (p : Point) → Reached M Start p → (ds : List M.Call) → Linked M p ds → valid_run M p ds ≡ true
      → Reached M Start (finish M p ds)
  reached_run Start p r ds linked v =
      record {
        first = r.first;
        started = r.started;
        calls = r.calls ++ ds;
        linked = linked_append (start r.first) r.calls ds r.linked (rw r.comes at linked);
        valid = valid_append (start r.first) r.calls ds r.valid (rw r.comes at v);
        comes = ap (λ (q : Point). finish M q ds) r.comes ∙ sym (finish_append (start r.first) r.calls ds);
      }

  -- So does one call that may come next.
  pub reached_next : (Start : List ℕ → Type 0) (p : Point) → Reached M Start p → (c : M.Call) → M.Made p.array c → may_call M p c ≡ true
      → Reached M Start (next M p c)
  unfolding finish Linked valid_run
  reached_next Start p r c made may = reached_run Start p r (c ∷ []) (made, Prim.tt) (and_true may refl)
