-- What a plan is to the map, and what the call it is the plan of leaves of a run's point, under every allowance; of any store.
use mathlib.Core.Path.{◌≡◌, refl, sym, ◌∙◌}
use mathlib.Core.Bool.{Bool, true, false, true≢false}
use mathlib.Core.List.{List, ◌++◌}
use mathlib.Core.Option.{none}
use mathlib.Core.Logic.{⊎_elim}
use Prim.Native.Nat.{ℕ, ◌-◌, ◌<◌}
use native.Mathlib.Nat.{not-suc-le-zero}
use native.Mathlib.Omega.{arith}
use lib.ListN.{length, length-append}
use Rattle.stores.specs.Store.{Store, apply, exec}
use Rattle.stores.specs.Plan.{Plan, reply_only, ◌then◌}
use Rattle.stores.proofs.Tests.{by_at_most}
use Rattle.stores.proofs.Stores.{apply_append, exec_append, exec_all, exec_not_made}
use Rattle.stores.proofs.Prefixes.{Always}
use Rattle.replies.specs.declared.Refusal.{Refusal}
use Rattle.replies.specs.Replies.{Said, refused, refuse, changed, is_done, is_refusal, says_damage}
use Rattle.replies.proofs.Outcomes.{Complete, CutShort, changed_cases}
use Rattle.runs.specs.Map.{Map, View, fed}
use Rattle.runs.specs.Run.{Point, is_recovery, recovery_after, advance, GetAgrees}

-- How a store keeps a map in its array: what holds at every point of a run, and what where the store needs no recovery. Where a cut
-- does not begin that need, it leaves the latter.
pub record Keeping : Type 1 where
  pub Kept : Map → List ℕ → Type 0
  pub Whole : Map → List ℕ → Type 0
  pub whole_kept : (m : Map) (a : List ℕ) → Whole m a → Kept m a
  pub cut_needs_recovery : Bool
  pub kept_whole : cut_needs_recovery ≡ false → (m : Map) (a : List ℕ) → Kept m a → Whole m a

-- ---- A plan

-- A call's plan, against the map m: every number of its stores below all of them keeps m, and all of them leave, with no need
-- of recovery, what the map is told of the call. It says neither 7, nor 1, 3 or 4.
pub record PlanKept (K : Keeping) (view : View) (m : Map) (p : Plan Said) (a : List ℕ) : Type 0 where
  pub prefixes : (k : ℕ) → k < length p.due → K.Kept m (exec p.due k a)
  pub whole : K.Whole (fed view (is_done p.reply) m) (apply p.due a)
  pub not_cut : is_refusal 7 p.reply ≡ false
  pub no_damage : says_damage p.reply ≡ false

module _ (K : Keeping) where
  -- A plan that refuses, and stores nothing.
  pub refusal_kept : (view : View) (r : Refusal) (m : Map) (a : List ℕ) → fed view false m ≡ m → is_refusal 7 (refuse r) ≡ false
      → says_damage (refuse r) ≡ false
      → K.Whole m a
      → PlanKept K view m (reply_only (refuse r)) a
  unfolding apply
  refusal_kept view r m a e n b w = record { prefixes = λ k h. absurd (not-suc-le-zero h); whole = rw e w; not_cut = n; no_damage = b }

  -- Stores that keep the map, and then a plan.
  module _ (view : View) (m : Map) (a : List ℕ) (ss : List Store) (p : Plan Said) (kept : Always (K.Kept m) ss a)
      (later : PlanKept K view m p (apply ss a)) where
    prefixes_after : (k : ℕ) → k < length (ss ++ p.due) → K.Kept m (exec (ss ++ p.due) k a)
    prefixes_after k h =
        by_at_most k (length ss)
        (λ l.
        rw (exec_append ss p.due k a, exec_not_made p.due (k - length ss) (exec ss k a) (omega (arith, l)))
        (kept k))
        (λ past.
        rw (exec_append ss p.due k a, exec_all ss k a (omega arith))
        (later.prefixes (k - length ss) (omega (arith, rw (length-append ss p.due) at h))))

    pub plan_after : PlanKept K view m (ss then p) a
    plan_after =
        record {
          prefixes = prefixes_after;
          whole = rw (apply_append ss p.due a) later.whole;
          not_cut = later.not_cut;
          no_damage = later.no_damage;
        }

-- ---- The points of a run

-- What holds at every point of a run: the array keeps the map, where no recovery is needed it does so whole, and the map has
-- nothing for key 0.
pub record Good (K : Keeping) (p : Point) : Type 0 where
  pub kept : K.Kept p.map p.array
  pub whole : p.needs_recovery ≡ false → K.Whole p.map p.array
  pub zero_none : p.map 0 ≡ none

-- A call with this view, reply and array afterwards leaves a good point, and its reply is right.
pub record CallKept (K : Keeping) (p : Point) (view : View) (said : Said) (after : List ℕ) : Type 0 where
  pub good : Good K (advance K.cut_needs_recovery p view said after)
  pub agrees : GetAgrees view said p.map
  pub no_damage : says_damage said ≡ false

-- A call that changes nothing neither begins nor ends the need of recovery.
recovery_same : (cuts waits : Bool) (view : View) (said : Said) → is_refusal 7 said ≡ false → is_recovery view said ≡ false
    → recovery_after cuts waits view said ≡ waits
unfolding recovery_after
recovery_same true true view said c r = rw (c, r)
recovery_same true false view said c r = rw c
recovery_same false true view said c r = rw r
recovery_same false false view said c r = refl

-- Where no recovery is needed behind a cut, a cut does not begin the need.
cut_needs_none : (cuts waits : Bool) (view : View) → recovery_after cuts waits view (refused 7) ≡ false → cuts ≡ false
unfolding recovery_after
cut_needs_none true waits view e = absurd (true≢false e)
cut_needs_none false waits view e = refl

module _ (K : Keeping) (p : Point) (view : View) where
  pub nothing_changed : (said : Said) → Good K p → fed view (is_done said) p.map ≡ p.map → is_refusal 7 said ≡ false
      → is_recovery view said ≡ false
      → GetAgrees view said p.map
      → says_damage said ≡ false
      → CallKept K p view said p.array
  nothing_changed said g same no_cut no-recovery agrees no_damage =
      record {
        good =
            record {
              kept = rw same g.kept;
              whole = λ e. rw same (g.whole (sym (recovery_same K.cut_needs_recovery p.needs_recovery view said no_cut no-recovery) ∙ e));
              zero_none = rw same g.zero_none;
            };
        agrees = agrees;
        no_damage = no_damage;
      }

  -- A call that carries out a plan.
  pub plan_carried_out : (allowance : ℕ) (plan : Plan Said) → PlanKept K view p.map plan p.array
      → ((said : Said) → GetAgrees view said p.map)
      → p.map 0 ≡ none
      → fed view (is_done plan.reply) p.map 0 ≡ none
      → fed view false p.map ≡ p.map
      → CallKept K p view (changed allowance plan p.array).reply (changed allowance plan p.array).after
  plan_carried_out allowance plan k agrees zero-before zero_after same =
      ⊎_elim
      (λ (c : Complete plan p.array (changed allowance plan p.array)).
      rw (c.reply, c.after)
      (record {
        good = record { kept = K.whole_kept _ _ k.whole; whole = λ e. k.whole; zero_none = zero_after };
        agrees = agrees plan.reply;
        no_damage = k.no_damage;
      }))
      (λ (c : CutShort allowance plan p.array (changed allowance plan p.array)).
      let before = k.prefixes allowance c.fewer in
      rw (c.reply, c.after)
      (record {
        good =
            record {
              kept = rw same before;
              whole = λ e.
                  rw same (K.kept_whole (cut_needs_none K.cut_needs_recovery p.needs_recovery view e) _ _ before);
              zero_none = rw same zero-before;
            };
        agrees = agrees (refused 7);
        no_damage = refl;
      }))
      (changed_cases allowance plan p.array)
