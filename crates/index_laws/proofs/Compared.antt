-- Rows about several calls on one array: the listings of one block joined, a call allowed one store more, a put with another value;
-- and the test that a row passes.
use Prim.Native.Nat.{ℕ, zero, suc, ◌+◌}
use native.Mathlib.Nat.{add-zero}
use native.Mathlib.Omega.{arith}
use borrow.Author.Tests.{eqb-true}
use mathlib.Core.Path.{◌≡◌, refl, ap}
use mathlib.Core.Bool.{Bool, true, false, false≢true, ◌&&◌}
use mathlib.Core.List.Memᴰ
use mathlib.Core.List.{List, [], ◌∷◌, Memᴰ}
use mathlib.Core.Option.{Option, none, some}
use lib.Dec.{eqb}
use lib.ListN.{replicate}
use Rattle.stores.specs.Lists.{pick, numbers_same, lists_same, if_any}
use Rattle.stores.specs.Store.{Store, word}
use Rattle.stores.specs.Plan.{Outcome}
use Rattle.stores.specs.Difference.{address_behind}
use Rattle.stores.proofs.Tests.{by_test, and_left, and_right}
use Rattle.stores.proofs.Lists.{same_lists, same_if_any}
use Rattle.replies.specs.Replies.{Said, said_same}
use Rattle.index_rules.specs.declared.Call.{Call}
use Rattle.index_rules.specs.declared.Call.TheVariants.{Put}
use Rattle.index_rules.specs.Step.{effect, outcome_of}
use Rattle.index_rules.proofs.Table.{computed, after_calls, prepared}
use Rattle.index_laws.specs.JoinedListing.{in_front, gathered_from, gather}
use Rattle.index_laws.specs.OneNumber.{one_more, next_address, value_word}

-- ---- Rows

pub data Compared : Type 0 where
  -- The listings of one block, joined: from index 0 on, with `calls` calls at most and `room` words, these parts are to be gathered; none
  -- where a call is refused or the last block does not come.
  gathers : (lent : ℕ) (before : List Call) (damage : List Store) (calls room : ℕ) (parts : Option (List (List ℕ))) → Compared
  -- A call with its allowance and with one larger by one, behind the same. The address of the store that one more allows is to be
  -- `next`, nothing where there is none; the arrays left are to differ at the addresses `apart` and at no other.
  one_more_allowed : (lent : ℕ) (before : List Call) (damage : List Store) (call : Call) (next apart : List ℕ) → Compared
  -- A put of the key with the value v and with w, behind the same. Replies and store counts are to be the same, and the arrays left
  -- to differ at the addresses `apart` and at no other: the value word of the put's slot, or nothing.
  other_value : (lent : ℕ) (before : List Call) (damage : List Store) (key v w allowance : ℕ) (apart : List ℕ) → Compared

-- ---- The test

parts_gathered : (found wanted : Option (List (List ℕ))) → Bool
parts_gathered none none = true
parts_gathered none (some parts) = false
parts_gathered (some found) none = false
parts_gathered (some found) (some parts) = lists_same found parts

-- The addresses, from i on, at which two arrays differ; beyond the shorter one all of the longer one's.
differing : (i : ℕ) → (x y : List ℕ) → List ℕ
differing i [] [] = []
differing i [] (w ∷ y) = i ∷ differing (suc i) [] y
differing i (v ∷ x) [] = i ∷ differing (suc i) x []
differing i (v ∷ x) (w ∷ y) = pick (eqb v w) (differing (suc i) x y) (i ∷ differing (suc i) x y)

-- Nothing is apart; or one word, which in either array is the value word of the slot where a put of the key goes.
value_apart : (x y : List ℕ) → (key : ℕ) → (apart : List ℕ) → Bool
value_apart x y key [] = true
value_apart x y key (i ∷ is) = numbers_same (if_any (value_word x key)) (i ∷ is) && numbers_same (if_any (value_word y key)) (i ∷ is)

other_passes : Outcome Said → Outcome Said → (key : ℕ) → (apart : List ℕ) → Bool
other_passes o p key apart =
    (said_same o.reply p.reply && eqb o.made p.made)
    && (numbers_same (differing 0 o.after p.after) apart && value_apart o.after p.after key apart)

agrees : Compared → Bool
agrees (gathers lent before damage calls room parts) =
    parts_gathered (gather (prepared lent before damage) calls 0 (replicate room 5)) parts
agrees (one_more_allowed lent before damage call next apart) =
    let a : List ℕ = prepared lent before damage in
    numbers_same (if_any (next_address (effect a 0 call))) next
    && numbers_same (differing 0 (outcome_of a call).after (outcome_of a (one_more call)).after) apart
agrees (other_value lent before damage key v w allowance apart) =
    let a : List ℕ = prepared lent before damage in
    other_passes (outcome_of a (Put key v allowance)) (outcome_of a (Put key w allowance)) key apart

-- Every row of the table passes.
unfoldable pub all_agree : List Compared → Bool
unfolding computed numbers_same said_same after_calls in_front gathered_from gather lists_same parts_gathered address_behind differing value_apart other_passes prepared agrees
all_agree [] = true
all_agree (r ∷ rs) = agrees r && all_agree rs

-- ---- What the tests find is so

parts_gathered_holds : (found wanted : Option (List (List ℕ))) → parts_gathered found wanted ≡ true → found ≡ wanted
unfolding parts_gathered
parts_gathered_holds none none e = refl
parts_gathered_holds none (some parts) e = absurd (false≢true e)
parts_gathered_holds (some found) none e = absurd (false≢true e)
parts_gathered_holds (some found) (some parts) e = ap some (same_lists found parts e)

shift : (i j : ℕ) → i + suc j ≡ suc i + j
shift i j = omega arith

-- A word that differs is among those that are named.
all_differing : (i : ℕ) (x y : List ℕ) (j : ℕ) → (Memᴰ (i + j) (differing i x y) → ⊥) → word x j ≡ word y j
unfolding differing
all_differing i [] [] j other = refl
all_differing i [] (w ∷ y) zero other = absurd (other (Memᴰ.head (add-zero i)))
all_differing i [] (w ∷ y) (suc j) other = all_differing (suc i) [] y j (λ m. other (Memᴰ.tail (Memᴰ.cast (shift i j) m)))
all_differing i (v ∷ x) [] zero other = absurd (other (Memᴰ.head (add-zero i)))
all_differing i (v ∷ x) [] (suc j) other = all_differing (suc i) x [] j (λ m. other (Memᴰ.tail (Memᴰ.cast (shift i j) m)))
all_differing i (v ∷ x) (w ∷ y) zero other =
    by_test (eqb v w) (λ e. eqb-true v w e) (λ e. absurd (other (rw e (Memᴰ.head (add-zero i)))))
all_differing i (v ∷ x) (w ∷ y) (suc j) other =
    all_differing (suc i) x y j
    (λ m.
    other
    (by_test (eqb v w) (λ e. rw e (Memᴰ.cast (shift i j) m)) (λ e. rw e (Memᴰ.tail (Memᴰ.cast (shift i j) m)))))

value_apart_holds : (x y : List ℕ) (key i : ℕ) → value_apart x y key (i ∷ []) ≡ true → (value_word x key ≡ some i) × (value_word y key ≡ some i)
unfolding value_apart
value_apart_holds x y key i e =
    let first : Bool = numbers_same (if_any (value_word x key)) (i ∷ []) in
    let second : Bool = numbers_same (if_any (value_word y key)) (i ∷ []) in
    (same_if_any (value_word x key) (some i) (and_left first second e), same_if_any (value_word y key) (some i) (and_right first second e))
