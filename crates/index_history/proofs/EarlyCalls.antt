-- Calls that wait for the mend, made before it all the same: they are refused with 2 or 4, or there is nothing to mend.
use mathlib.Core.Path.{◌≡◌, refl, sym, ◌∙◌}
use mathlib.Core.Bool.{Bool, true, false, false≢true, ◌||◌}
use mathlib.Core.List.{List, []}
use mathlib.Core.Option.{Option, some}
use mathlib.Core.Logic.{◌⊎◌, inl, inr, ⊎_elim}
use Prim.Native.Nat.{ℕ}
use native.Mathlib.Omega.{arith}
use lib.Dec.{eqb}
use lib.ListN.{length}
use Rattle.stores.specs.Plan.{Plan, reply_only}
use Rattle.stores.proofs.Tests.{by_test}
use Rattle.replies.specs.declared.Refusal.{Refusal}
use Rattle.replies.specs.declared.Refusal.TheVariants.{NoKey, Unmended}
use Rattle.replies.specs.Replies.{Said, refuse, unless, tested, changed, is_refusal}
use Rattle.replies.specs.Writing.{Writing, behind_tests}
use Rattle.replies.proofs.Outcomes.{changed_complete, tested_some}
use Rattle.index_rules.specs.declared.Call.TheVariants.{Format, Get, Put, Remove, Merge, Mend, List as ListCall, ListBlock}
use Rattle.index_rules.specs.Layout.{depth}
use Rattle.index_rules.specs.Scan.{entries_agree}
use Rattle.index_rules.specs.Get.{key_tests}
use Rattle.index_rules.specs.Put.{directory_tests, put_tests, put}
use Rattle.index_rules.specs.Remove.{remove_tests, remove}
use Rattle.index_rules.specs.Merge.{merge_tests, merge}
use Rattle.index_rules.specs.Mend.{mending}
use Rattle.index_rules.specs.Listing.{listing_tests, list_tests, list}
use Rattle.index_rules.specs.ListBlock.{list_block_tests, list_block}
use Rattle.index_rules.specs.Step.{effect, step}
use Rattle.index_laws.proofs.Words.{header_valid}
use Rattle.index_laws.proofs.Mending.{nothing_to_mend}
use Rattle.index_laws.proofs.Put.{put_refused}
use Rattle.runs.specs.Map.{Map}
use Rattle.runs.specs.Run.{may_follow}
use Rattle.index_history.specs.Further.{EarlyCalls}
use Rattle.index_history.proofs.Invariant.{Inv, shape_depth, shape_segments, shape_valid}
use Rattle.index_history.proofs.Recover.{inv_leaders_valid}
use Rattle.index_history.proofs.Theorem.{covered_good}

-- ---- Where an entry differs from its leader

-- The refusal 2 or 4.
abbrev Waits : Option Refusal → Type 0
Waits t = (t ≡ some NoKey) ⊎ (t ≡ some Unmended)

module _ {m : Map} {g d S : ℕ} {f : ℕ → ℕ} {a : List ℕ} (inv : Inv m g d S f a) (apart : entries_agree a (depth a) ≡ false) where
  directory_waits : (later : Option Refusal) → directory_tests a later ≡ some Unmended
  unfolding directory_tests unless
  directory_waits later = rw (apart, shape_depth inv.shape, shape_segments inv.shape, inv_leaders_valid inv) refl

  key_waits : (key : ℕ) (later : Option Refusal) → Waits (key_tests a key (directory_tests a later))
  unfolding key_tests unless
  key_waits key later =
      by_test (eqb key 0)
      (λ z. inl (rw (header_valid (shape_valid inv.shape), z) refl))
      (λ z. inr (rw (header_valid (shape_valid inv.shape), z) (directory_waits later)))

  listing_waits : (later : Option Refusal) → Waits (listing_tests a later)
  unfolding listing_tests unless
  listing_waits later = inr (rw (header_valid (shape_valid inv.shape)) (directory_waits later))

-- ---- A call behind its tests

-- The call says what its tests refuse.
abbrev Follows : Option Refusal → Said → Type 0
Follows t said = (r : Refusal) → t ≡ some r → said ≡ refuse r

refusal_said : (allowance : ℕ) (r : Refusal) (a : List ℕ) → (changed allowance (reply_only (refuse r)) a).reply ≡ refuse r
refusal_said allowance r a = (changed_complete allowance (reply_only (refuse r)) a (omega arith)).reply

plan_follows : (allowance : ℕ) (t : Option Refusal) (p : Plan Said) (a : List ℕ) → Follows t (changed allowance (tested t p) a).reply
plan_follows allowance t p a r e = rw (e, tested_some r p) (refusal_said allowance r a)

writing_follows : (t : Option Refusal) (w : Writing) → Follows t (behind_tests t w).reply
unfolding behind_tests
writing_follows t w r e = rw e refl

put_follows : (allowance : ℕ) (a : List ℕ) (key value : ℕ) → Follows (put_tests a key) (changed allowance (put a key value) a).reply
put_follows allowance a key value r e = rw (put_refused a key value r e) (refusal_said allowance r a)

-- ---- The theorem

-- The reply is 2 or 4.
abbrev says_wait : Said → Bool
says_wait said = is_refusal 2 said || is_refusal 4 said

waits_said : (t : Option Refusal) (said : Said) → Waits t → Follows t said → says_wait said ≡ true
waits_said t said w follows =
    ⊎_elim
    (λ (e : t ≡ some NoKey). rw (follows NoKey e) refl)
    (λ (e : t ≡ some Unmended). rw (follows Unmended e) refl)
    w

-- A call whose tests say 2 or 4 where an entry differs from its leader.
unless_waiting : (a : List ℕ) (t : Option Refusal) (said : Said) → (entries_agree a (depth a) ≡ false → Waits t) → Follows t said
    → says_wait said ≡ false
    → mending a ≡ []
unless_waiting a t said waits follows other =
    by_test (entries_agree a (depth a))
    (λ agree. nothing_to_mend a agree)
    (λ apart. absurd (false≢true (sym other ∙ waits_said t said (waits apart) follows)))

pub early_calls : EarlyCalls
unfolding effect step may_follow put_tests remove_tests remove merge_tests merge list_tests list list_block_tests list_block
early_calls p c l (Format D S allowance) w other = absurd (false≢true w)
early_calls p c l (Get key) w other = absurd (false≢true w)
early_calls p c l (Put key value allowance) w other =
    unless_waiting p.array (put_tests p.array key) _ (λ apart. key_waits (covered_good p c).kept.inv apart key _)
    (put_follows allowance p.array key value) other
early_calls p c l (Remove key allowance) w other =
    unless_waiting p.array (remove_tests p.array key) _ (λ apart. key_waits (covered_good p c).kept.inv apart key _)
    (plan_follows allowance (remove_tests p.array key) _ p.array) other
early_calls p c l (Merge key allowance) w other =
    unless_waiting p.array (merge_tests p.array key) _ (λ apart. key_waits (covered_good p c).kept.inv apart key _)
    (plan_follows allowance (merge_tests p.array key) _ p.array) other
early_calls p c l (Mend allowance) w other = absurd (false≢true w)
early_calls p c l ListCall w other =
    unless_waiting p.array (list_tests p.array (length l)) _ (λ apart. listing_waits (covered_good p c).kept.inv apart _)
    (writing_follows (list_tests p.array (length l)) _) other
early_calls p c l (ListBlock i) w other =
    unless_waiting p.array (list_block_tests p.array i (length l)) _ (λ apart. listing_waits (covered_good p c).kept.inv apart _)
    (writing_follows (list_block_tests p.array i (length l)) _) other
