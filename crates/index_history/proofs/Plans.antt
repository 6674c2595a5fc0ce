-- What a plan is to the map, and what the call it is the plan of leaves of a run's point, under every allowance.
use mathlib.Core.Path.{◌≡◌, refl, sym, ◌∙◌}
use mathlib.Core.Bool.{Bool, true, false, true≢false}
use mathlib.Core.List.{List, ◌++◌}
use mathlib.Core.Option.{none}
use mathlib.Core.Logic.{⊎_elim}
use Prim.Native.Nat.{ℕ, ◌-◌, ◌<◌}
use native.Mathlib.Nat.{not-suc-le-zero}
use native.Mathlib.Omega.{arith}
use lib.ListN.{length, length-append}
use Rattle.stores.specs.Store.{Store, apply, exec}
use Rattle.stores.specs.Plan.{Plan, reply_only, ◌then◌}
use Rattle.stores.proofs.Tests.{by_at_most}
use Rattle.stores.proofs.Stores.{apply_append, exec_append, exec_all, exec_not_made}
use Rattle.stores.proofs.Prefixes.{Always}
use Rattle.replies.specs.declared.Refusal.{Refusal}
use Rattle.replies.specs.Replies.{Said, refused, refuse, changed, is_done, is_refusal, says_damage}
use Rattle.replies.proofs.Outcomes.{Complete, CutShort, changed_cases}
use Rattle.runs.specs.Map.{Map, View, fed}
use Rattle.runs.specs.Run.{Point, is_recovery, recovery_after, advance, GetAgrees}
use Rattle.index_history.proofs.Kept.{Kept, Whole, whole_kept}

-- A call's plan, against the map m: every number of its stores below all of them keeps m, and all of them leave, with no need
-- of recovery, what the map is told of the call. It says neither 7, nor 1, 3 or 4.
pub record PlanKept (view : View) (m : Map) (d S : ℕ) (p : Plan Said) (a : List ℕ) : Type 0 where
  pub prefixes : (k : ℕ) → k < length p.due → Kept m d S (exec p.due k a)
  pub whole : Whole (fed view (is_done p.reply) m) d S (apply p.due a)
  pub not_cut : is_refusal 7 p.reply ≡ false
  pub no_damage : says_damage p.reply ≡ false

-- A plan that refuses, and stores nothing.
pub refusal_kept : (view : View) (r : Refusal) {m : Map} {d S : ℕ} {a : List ℕ} → fed view false m ≡ m → is_refusal 7 (refuse r) ≡ false
    → says_damage (refuse r) ≡ false
    → Whole m d S a
    → PlanKept view m d S (reply_only (refuse r)) a
unfolding apply
refusal_kept view r e n b w = record { prefixes = λ k h. absurd (not-suc-le-zero h); whole = rw e w; not_cut = n; no_damage = b }

-- Stores that keep the map, and then a plan.
module _ (view : View) {m : Map} {d S : ℕ} (a : List ℕ) (ss : List Store) (p : Plan Said) (kept : Always (Kept m d S) ss a)
    (later : PlanKept view m d S p (apply ss a)) where
  prefixes_after : (k : ℕ) → k < length (ss ++ p.due) → Kept m d S (exec (ss ++ p.due) k a)
  prefixes_after k h =
      by_at_most k (length ss)
      (λ l.
      rw (exec_append ss p.due k a, exec_not_made p.due (k - length ss) (exec ss k a) (omega (arith, l)))
      (kept k))
      (λ past.
      rw (exec_append ss p.due k a, exec_all ss k a (omega arith))
      (later.prefixes (k - length ss) (omega (arith, rw (length-append ss p.due) at h))))

  pub plan_after : PlanKept view m d S (ss then p) a
  plan_after =
      record {
        prefixes = prefixes_after;
        whole = rw (apply_append ss p.due a) later.whole;
        not_cut = later.not_cut;
        no_damage = later.no_damage;
      }

-- ---- The points of a run

-- What holds at every point of a run: the array keeps the map; where no recovery is needed, all entries are mended; and the map
-- has nothing for key 0.
pub record Good (p : Point) : Type 0 where
  pub d : ℕ
  pub S : ℕ
  pub kept : Kept p.map d S p.array
  pub whole : p.needs_recovery ≡ false → Whole p.map d S p.array
  pub zero_none : p.map 0 ≡ none

-- A call with this view, reply and array afterwards leaves a good point, and its reply is right.
pub record CallKept (p : Point) (view : View) (said : Said) (after : List ℕ) : Type 0 where
  pub good : Good (advance true p view said after)
  pub agrees : GetAgrees view said p.map
  pub no_damage : says_damage said ≡ false

-- A call that changes nothing, and neither begins nor ends the need of recovery.
recovery_same : (waits : Bool) (view : View) (said : Said) → is_refusal 7 said ≡ false → is_recovery view said ≡ false
    → recovery_after true waits view said ≡ waits
unfolding recovery_after
recovery_same true view said c r = rw (c, r)
recovery_same false view said c r = rw c

-- From a cut on, recovery is needed.
recovery_needed : (waits : Bool) (view : View) → recovery_after true waits view (refused 7) ≡ true
unfolding recovery_after
recovery_needed waits view = refl

pub nothing_changed : (p : Point) (view : View) (said : Said) → Good p → fed view (is_done said) p.map ≡ p.map → is_refusal 7 said ≡ false
    → is_recovery view said ≡ false
    → GetAgrees view said p.map
    → says_damage said ≡ false
    → CallKept p view said p.array
nothing_changed p view said g same no_cut no-recovery agrees no_damage =
    record {
      good =
          record {
            d = g.d;
            S = g.S;
            kept = rw same g.kept;
            whole = λ e. rw same (g.whole (sym (recovery_same p.needs_recovery view said no_cut no-recovery) ∙ e));
            zero_none = rw same g.zero_none;
          };
      agrees = agrees;
      no_damage = no_damage;
    }

-- A call that carries out a plan.
pub plan_carried_out : (p : Point) (view : View) (allowance : ℕ) (plan : Plan Said) {d S : ℕ}
    → PlanKept view p.map d S plan p.array
    → ((said : Said) → GetAgrees view said p.map)
    → p.map 0 ≡ none
    → fed view (is_done plan.reply) p.map 0 ≡ none
    → fed view false p.map ≡ p.map
    → CallKept p view (changed allowance plan p.array).reply (changed allowance plan p.array).after
plan_carried_out p view allowance plan {d} {S} k agrees zero-before zero_after same =
    ⊎_elim
    (λ (c : Complete plan p.array (changed allowance plan p.array)).
    rw (c.reply, c.after)
    (record {
      good =
          record {
            d = d;
            S = S;
            kept = whole_kept k.whole;
            whole = λ e. k.whole;
            zero_none = zero_after;
          };
      agrees = agrees plan.reply;
      no_damage = k.no_damage;
    }))
    (λ (c : CutShort allowance plan p.array (changed allowance plan p.array)).
    rw (c.reply, c.after)
    (record {
      good =
          record {
            d = d;
            S = S;
            kept = rw same (k.prefixes allowance c.fewer);
            whole = λ e. absurd (true≢false (sym (recovery_needed p.needs_recovery view) ∙ e));
            zero_none = rw same zero-before;
          };
      agrees = agrees (refused 7);
      no_damage = refl;
    }))
    (changed_cases allowance plan p.array)
