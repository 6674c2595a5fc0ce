-- What a call that changes the array says and leaves, by whether it is cut off; plans behind tests; and refused effects.
use mathlib.Core.Path.{◌≡◌, refl, sym, ap, ◌∙◌}
use mathlib.Core.List.{List, []}
use mathlib.Core.Option.{Option, none, some}
use mathlib.Core.Logic.{◌⊎◌, inl, inr, ⊎_elim}
use Prim.Native.Nat.{ℕ, ◌≤◌, ◌<◌}
use native.Mathlib.Omega.{arith}
use lib.ListN.{length}
use Rattle.stores.specs.Store.{apply, exec}
use Rattle.stores.specs.Plan.{Plan, Outcome, reply_only, cut}
use Rattle.stores.proofs.Tests.{by_at_most}
use Rattle.stores.proofs.Plans.{cut_whole, cut_short}
use Rattle.replies.specs.declared.Refusal.{Refusal}
use Rattle.replies.specs.declared.Refusal.TheVariants.{CutOff}
use Rattle.replies.specs.Replies.{Said, done, refused, refuse, tested, replied, changed}
use Rattle.replies.specs.Effects.{Effect, changes, answers, carried_out, reply_by, due_by, Unchanged}

-- ---- Cut off or not

-- The call is whole: all due stores are made, and the reply is the plan's.
pub record Complete (p : Plan Said) (a : List ℕ) (o : Outcome Said) : Type 0 where
  pub reply : o.reply ≡ p.reply
  pub made : o.made ≡ length p.due
  pub after : o.after ≡ apply p.due a

-- The call is cut off: fewer stores than are due are made, and the reply is 7.
pub record CutShort (n : ℕ) (p : Plan Said) (a : List ℕ) (o : Outcome Said) : Type 0 where
  pub fewer : n < length p.due
  pub reply : o.reply ≡ refused 7
  pub made : o.made ≡ n
  pub after : o.after ≡ exec p.due n a

module _ (n : ℕ) (p : Plan Said) (a : List ℕ) where
  pub changed_complete : length p.due ≤ n → Complete p a (changed n p a)
  unfolding changed
  changed_complete h =
      let e = cut_whole (refuse CutOff) n p a h in
      record {
        reply = ap (λ (o : Outcome Said). o.reply) e;
        made = ap (λ (o : Outcome Said). o.made) e;
        after = ap (λ (o : Outcome Said). o.after) e;
      }

  -- Whole or cut off, the stores allowed are made.
  pub changed_after : (changed n p a).after ≡ exec p.due n a
  unfolding changed cut
  changed_after = refl

  pub changed_cut : n < length p.due → CutShort n p a (changed n p a)
  unfolding changed
  changed_cut h =
      let e = cut_short (refuse CutOff) n p a h in
      record {
        fewer = h;
        reply = ap (λ (o : Outcome Said). o.reply) e;
        made = ap (λ (o : Outcome Said). o.made) e;
        after = ap (λ (o : Outcome Said). o.after) e;
      }

  -- One of the two.
  pub changed_cases : Complete p a (changed n p a) ⊎ CutShort n p a (changed n p a)
  changed_cases = by_at_most (length p.due) n (λ t. inl (changed_complete t)) (λ t. inr (changed_cut t))

-- ---- Replies

pub refused_not_done : (n : ℕ) (v : List ℕ) → refused n ≡ done v → ⊥
refused_not_done n v e = let z : ◌≡◌ {A = ℕ} 0 1 = cc in omega arith

pub refused_inj : {m n : ℕ} → refused m ≡ refused n → m ≡ n
refused_inj e = cc

-- ---- Tests

pub tested_none : (p : Plan Said) → tested none p ≡ p
unfolding tested
tested_none p = refl

pub tested_some : (r : Refusal) (p : Plan Said) → tested (some r) p ≡ reply_only (refuse r)
unfolding tested
tested_some r p = refl

pub replied_none : (s : Said) → replied none s ≡ s
unfolding replied
replied_none s = refl

-- A plan that says done has passed its tests.
pub tests_passed : (t : Option Refusal) (p : Plan Said) (v : List ℕ) → (tested t p).reply ≡ done v → t ≡ none
unfolding tested
tests_passed none p v e = refl
tests_passed (some r) p v e = absurd (refused_not_done _ v e)

-- ---- Refused effects, which store nothing

-- A call whose plan has no store where it says n.
unchanged_by : (allowance : ℕ) (p : Plan Said) (a : List ℕ) (n : ℕ) → (changed allowance p a).reply ≡ refused n → (n ≡ 7 → ⊥)
    → (p.reply ≡ refused n → p.due ≡ []) → Unchanged a (changed allowance p a)
unfolding apply
unchanged_by allowance p a n says not_cut empty =
    ⊎_elim
    (λ (c : Complete p a (changed allowance p a)).
    let nothing : p.due ≡ [] = empty (sym c.reply ∙ says) in
    record { after = c.after ∙ rw nothing; made = c.made ∙ rw nothing })
    (λ (c : CutShort allowance p a (changed allowance p a)). absurd (not_cut (refused_inj (sym says ∙ c.reply))))
    (changed_cases allowance p a)

-- A plan behind tests that says no refusal of its own.
pub tested_empty : (t : Option Refusal) (p : Plan Said) (n : ℕ) → (p.reply ≡ refused n → ⊥) → (tested t p).reply ≡ refused n → (tested t p).due ≡ []
unfolding tested
tested_empty none p n other says = absurd (other says)
tested_empty (some r) p n other says = refl

-- An effect that stores nothing where it says n.
pub unchanged_carried : (e : Effect) (a : List ℕ) (n : ℕ) → (carried_out e a).reply ≡ refused n → (n ≡ 7 → ⊥)
    → (reply_by e ≡ refused n → due_by e ≡ []) → Unchanged a (carried_out e a)
unchanged_carried (changes allowance p) a n says not_cut empty = unchanged_by allowance p a n says not_cut empty
unchanged_carried (answers w) a n e not_cut empty = record { after = refl; made = refl }
