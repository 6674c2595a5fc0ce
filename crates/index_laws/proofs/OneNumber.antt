-- How much one number can change: an allowance larger by one, and a put with another value.
use mathlib.Core.Path.{◌≡◌, refl, sym, ap, ◌∙◌}
use mathlib.Core.Bool.{false}
use mathlib.Core.List.{List, [], ◌∷◌, ◌++◌, append_assoc}
use mathlib.Core.Logic.{◌⊎◌, inl, inr, ⊎_elim}
use mathlib.Core.Option.{Option, none, some}
use Prim.Native.Nat.{ℕ, suc, ◌-◌, ◌≤◌, ◌<◌}
use native.Mathlib.Omega.{arith}
use lib.ListN.{length, set, length-set, length-append}
use Rattle.stores.specs.Store.{Store, word, store, apply, exec}
use Rattle.stores.specs.Plan.{Plan, ◌then◌, cut}
use Rattle.stores.specs.Difference.{DifferAt}
use Rattle.stores.proofs.Tests.{by_at_most}
use Rattle.stores.proofs.Stores.{apply_append, word_set_same}
use Rattle.stores.proofs.Prefixes.{always_none, always_one}
use Rattle.stores.proofs.Differences.{one_more_holds, valued, valued_length, value_made, before_value, with_value_holds}
use Rattle.replies.specs.declared.Answer.{Answer}
use Rattle.replies.specs.Replies.{Said, done, is_done, changed}
use Rattle.replies.proofs.Outcomes.{Complete, CutShort, changed_cut, changed_cases}
use Rattle.index_rules.specs.declared.Call.{Call}
use Rattle.index_rules.specs.declared.Call.TheVariants.{Format, Get, Put, Remove, Merge, Mend, List as ListCall, ListBlock}
use Rattle.index_rules.specs.Layout.{max_depth, segments, local_depth, key_address, value_address}
use Rattle.index_rules.specs.Slots.{Choice, found, into, hit, choose}
use Rattle.index_rules.specs.Get.{key_entry, key_segment}
use Rattle.index_rules.specs.Split.{splitting}
use Rattle.index_rules.specs.Put.{key_choice, put}
use Rattle.index_rules.specs.Step.{Effect, changes, answers, effect, carried_out, step, Performed}
use Rattle.index_laws.specs.OneNumber.{AtMostOneWord, one_more, next_address, OneMoreAllowed, OneMoreAllowedAt, OtherValue, value_in, value_word, NotStored, Stored, OtherValueAt, outcome_by, OneMorePerformed, OtherValuePerformed}
use Rattle.index_laws.proofs.Words.{Inside}
use Rattle.index_laws.proofs.Keys.{window_lt}
use Rattle.index_laws.proofs.Slots.{chosen_at_hit, choose_same, key_after_value, hit_after_value, value_after_key, hit_after_key}
use Rattle.index_laws.proofs.Halving.{key_bits}
use Rattle.index_laws.proofs.Put.{Passed, KeyInto, choice_found, choice_into, put_refused, put_found, put_into, put_too_deep, put_no_segment, put_again, renewed, inserted, put_induction}
use Rattle.index_laws.proofs.Range.{hit_slot, key_in_range, value_in_range}
use Rattle.index_laws.proofs.Agree.{SameFront, front_itself, front_word_0, front_key_entry, front_key_segment, front_store}

-- At most the word at an address, or none: at most one word.
pub at_most_one : (at : Option ℕ) (x y : List ℕ) → DifferAt at x y → AtMostOneWord x y
at_most_one none x y e =
    record { address = 0; same = record { lengths = ap length e; words = λ i other. ap (λ (a : List ℕ). word a i) e } }
at_most_one (some at) x y s = record { address = at; same = s }

-- ---- An allowance larger by one

-- What a call does, with an allowance larger by one.
abbrev more_allowed : Effect → Effect
more_allowed (changes allowance p) = changes (suc allowance) p
more_allowed (answers w) = answers w

more_effect : (a : List ℕ) (room : ℕ) (c : Call) → effect a room (one_more c) ≡ more_allowed (effect a room c)
unfolding effect
more_effect a room (Format D S allowance) = refl
more_effect a room (Get key) = refl
more_effect a room (Put key value allowance) = refl
more_effect a room (Remove key allowance) = refl
more_effect a room (Merge key allowance) = refl
more_effect a room (Mend allowance) = refl
more_effect a room ListCall = refl
more_effect a room (ListBlock i) = refl

carried_more : (e : Effect) (a : List ℕ) → DifferAt (next_address e) (carried_out e a).after (carried_out (more_allowed e) a).after
unfolding changed cut
carried_more (changes allowance p) a = one_more_holds p.due allowance a
carried_more (answers w) a = refl

pub one_more_allowed_at : OneMoreAllowedAt
unfolding step
one_more_allowed_at a l call = rw (more_effect a (length l) call) (carried_more (effect a (length l) call) a)

pub one_more_allowed_holds : OneMoreAllowed
one_more_allowed_holds a l call = at_most_one (next_address (effect a (length l) call)) _ _ (one_more_allowed_at a l call)

-- ---- The slot where a put goes, once its value is stored

-- The array b has the value u at this address, and it is the value word of the slot where a put of the key goes on b.
record Took (key at u : ℕ) (b : List ℕ) : Type 0 where
  pub slot : value_word b key ≡ some at
  pub value : word b at ≡ u

module _ (a : List ℕ) (key : ℕ) (p : Passed a key) where
  -- In an array with the same word 0 and the same entries a put chooses its slot in the same segment.
  choice_there : (b : List ℕ) → SameFront a b
      → key_choice b key ≡ choose b (key_segment a key) (local_depth (key_entry a key)) (key_bits a key) key
  unfolding key_choice
  choice_there b s =
      rw (← front_key_segment s p.valid.present key, ← front_key_entry s p.valid.present key, ← front_word_0 s)

  -- The value u stored in slot j, and behind it perhaps the key.
  module _ (j : ℕ) (small : j < 64) (u : ℕ) where
    abbrev with_value : List ℕ
    with_value = set a (value_address (key_segment a key) j) u

    abbrev with_key : List ℕ
    with_key = set with_value (key_address (key_segment a key) j) key

    value_at_holds : Inside (max_depth a) (segments a) (value_address (key_segment a key) j)
    value_at_holds = value_in_range a key j p.segment_below small

    key_at_holds : Inside (max_depth a) (segments a) (key_address (key_segment a key) j)
    key_at_holds = key_in_range a key j p.segment_below small

    front_valued : SameFront a with_value
    front_valued = front_store (front_itself a) (value_address (key_segment a key) j) u value_at_holds.behind

    front_keyed : SameFront a with_key
    front_keyed = front_store front_valued (key_address (key_segment a key) j) key key_at_holds.behind

    value_stands : word with_value (value_address (key_segment a key) j) ≡ u
    value_stands = word_set_same a (value_address (key_segment a key) j) u (omega (arith, value_at_holds.below, p.valid.room))

    -- With the value alone a put chooses as before.
    choice_valued : key_choice with_value key ≡ key_choice a key
    unfolding key_choice
    choice_valued =
        choice_there with_value front_valued
        ∙ choose_same with_value a (key_segment a key) (key_segment a key) (λ k h. key_after_value a (key_segment a key) j u k) key
        (local_depth (key_entry a key)) (key_bits a key)

    took_value : (c : Choice) → key_choice a key ≡ c → value_in (key_segment a key) c ≡ some (value_address (key_segment a key) j)
        → Took key (value_address (key_segment a key) j) u with_value
    took_value c e s =
        record {
          slot = rw (← front_key_segment front_valued p.valid.present key, choice_valued, e) s;
          value = value_stands;
        }

    -- With the key too it finds the key there.
    took_key : KeyInto a key j → Took key (value_address (key_segment a key) j) u with_key
    took_key s =
        let base : ℕ = key_segment a key in
        let inside : key_address base j < length with_value = rw length-set (omega (arith, key_at_holds.below, p.valid.room)) in
        let there : hit with_key base key ≡ some j =
        hit_after_key with_value base key j inside s.in_window (hit_after_value a base j u key ∙ s.missing) in
        let choice : key_choice with_key key ≡ found j =
        choice_there with_key front_keyed ∙ chosen_at_hit with_key base (local_depth (key_entry a key)) (key_bits a key) key j there in
        record {
          slot = rw (← front_key_segment front_keyed p.valid.present key, choice);
          value = value_after_key with_value base j key j ∙ value_stands;
        }

-- ---- The plans of two puts that differ in the value

-- A plan that is done and has one store of the value u, behind the stores `front`.
abbrev value_plan : (front : List Store) (at : ℕ) (behind : List Store) (u : ℕ) → Plan Said
value_plan front at behind u = record { due = valued front at behind u; reply = done [] }

-- Each plan has one store of the value, the same ones before it and the same ones behind it. Once it is made, it stands where a put
-- of the key goes.
record OneStore (key v w : ℕ) (a : List ℕ) (p q : Plan Said) : Type 0 where
  pub front : List Store
  pub at : ℕ
  pub behind : List Store
  pub first : p ≡ value_plan front at behind v
  pub second : q ≡ value_plan front at behind w
  pub took : (u n : ℕ) → Took key at u (exec behind n (set (apply front a) at u))

-- The plan has no store of the value, and refuses.
record NoStoreOfValue (p q : Plan Said) : Type 0 where
  pub refuses : is_done p.reply ≡ false
  pub same : p ≡ q

-- How the plans of two puts compare.
abbrev Plans : (key v w : ℕ) → List ℕ → (p q : Plan Said) → Type 0
Plans key v w a p q = NoStoreOfValue p q ⊎ OneStore key v w a p q

module _ (key v w : ℕ) where
  -- Both puts find the key, or both take the slot for a new key.
  both_found : (a : List ℕ) (j : ℕ) → Passed a key → key_choice a key ≡ found j → OneStore key v w a (renewed a key v j) (put a key w)
  unfolding apply
  both_found a j p c =
      let small : j < 64 = hit_slot a _ key j (choice_found a key j c) in
      record {
        front = [];
        at = value_address (key_segment a key) j;
        behind = [];
        first = refl;
        second = put_found a key w p.tests j c;
        took = λ u.
            always_none (Took key (value_address (key_segment a key) j) u) (with_value a key p j small u)
            (took_value a key p j small u (found j) c refl);
      }

  both_into : (a : List ℕ) (j : ℕ) → Passed a key → key_choice a key ≡ into j → OneStore key v w a (inserted a key v j) (put a key w)
  unfolding apply
  both_into a j p c =
      let s = choice_into a key j c in
      let small : j < 64 = window_lt key j s.in_window in
      let key-store : Store = store (key_address (key_segment a key) j) key in
      record {
        front = [];
        at = value_address (key_segment a key) j;
        behind = key-store ∷ [];
        first = refl;
        second = put_into a key w p.tests j c;
        took = λ u.
            always_one (Took key (value_address (key_segment a key) j) u) key-store (with_value a key p j small u)
            (took_value a key p j small u (into j) c refl) (took_key a key p j small u s);
      }

  -- Behind a split as before it.
  both_split : (a : List ℕ) (n : ℕ) (p q : Plan Said) → Plans key v w (apply (splitting a key n) a) p q
      → Plans key v w a (splitting a key n then p) (splitting a key n then q)
  both_split a n p q (inl r) = inl (record { refuses = r.refuses; same = ap (λ (x : Plan Said). splitting a key n then x) r.same })
  both_split a n p q (inr r) =
      let ss : List Store = splitting a key n in
      inr
      (record {
        front = ss ++ r.front;
        at = r.at;
        behind = r.behind;
        first = rw (r.first, append_assoc ss r.front (store r.at v ∷ r.behind));
        second = rw (r.second, append_assoc ss r.front (store r.at w ∷ r.behind));
        took = rw (apply_append ss r.front a) r.took;
      })

  -- On every array: by induction over the splits of the first put.
  put_plans : (a : List ℕ) → Plans key v w a (put a key v) (put a key w)
  put_plans =
      put_induction key v (λ a p. Plans key v w a p (put a key w))
      (record {
        when_refused = λ a r e. inl (record { refuses = refl; same = sym (put_refused a key w r e) });
        when_found = λ a j p c. inr (both_found a j p c);
        when_into = λ a j p c. inr (both_into a j p c);
        when_deep = λ a p c d. inl (record { refuses = refl; same = sym (put_too_deep a key w p.tests c d) });
        when_none = λ a p c d f. inl (record { refuses = refl; same = sym (put_no_segment a key w p.tests c d f) });
        when_split = λ a n p c f s rest. rw (put_again a key w p.tests c s.local_room n f) (both_split a n _ _ rest);
      })

-- ---- A put with another value

module _ (key v w n : ℕ) (a : List ℕ) where
  -- Where the value is in no store.
  not_stored : (p q : Plan Said) → NoStoreOfValue p q → NotStored (changed n p a) (changed n q a)
  not_stored p q r =
      record {
        not_done = ⊎_elim
            (λ (c : Complete p a (changed n p a)). rw c.reply r.refuses)
            (λ (c : CutShort n p a (changed n p a)). rw c.reply)
            (changed_cases n p a);
        same = ap (λ (x : Plan Said). (changed n x a).after) r.same;
      }

  -- Where it is in one.
  module _ (front : List Store) (at : ℕ) (behind : List Store)
      (took : (u m : ℕ) → Took key at u (exec behind m (set (apply front a) at u))) where
    abbrev plan_of : (u : ℕ) → Plan Said
    plan_of u = value_plan front at behind u

    cut_before : n ≤ length front → NotStored (changed n (plan_of v) a) (changed n (plan_of w) a)
    unfolding changed cut
    cut_before h =
        let fewer : n < length (valued front at behind v) = rw (length-append front (store at v ∷ behind)) (omega arith) in
        record {
          not_done = rw (changed_cut n (plan_of v) a fewer).reply;
          same = before_value front at behind v w n a h;
        }

    took_at : (u : ℕ) → length front < n → Took key at u (changed n (plan_of u) a).after
    unfolding changed cut
    took_at u h = rw (value_made front at behind u n a h) (took u (n - suc (length front)))

    value_stored : length front < n → Stored key v w (changed n (plan_of v) a) (changed n (plan_of w) a)
    unfolding changed cut
    value_stored h =
        record {
          reply = ⊎_elim
              (λ (c : Complete (plan_of v) a (changed n (plan_of v) a)). inl c.reply)
              (λ (c : CutShort n (plan_of v) a (changed n (plan_of v) a)). inr c.reply)
              (changed_cases n (plan_of v) a);
          address = at;
          first = (took_at v h).slot;
          second = (took_at w h).slot;
          first_value = (took_at v h).value;
          second_value = (took_at w h).value;
          same = with_value_holds front at behind v w n a h;
        }

    stored_or_not : NotStored (changed n (plan_of v) a) (changed n (plan_of w) a) ⊎ Stored key v w (changed n (plan_of v) a) (changed n (plan_of w) a)
    stored_or_not = by_at_most n (length front) (λ t. inl (cut_before t)) (λ t. inr (value_stored t))

  -- In either case.
  plans_leave : (p q : Plan Said) → Plans key v w a p q
      → NotStored (changed n p a) (changed n q a) ⊎ Stored key v w (changed n p a) (changed n q a)
  plans_leave p q (inl r) = inl (not_stored p q r)
  plans_leave p q (inr r) = rw (r.first, r.second) (stored_or_not r.front r.at r.behind r.took)

  -- Reply and store count follow from the number of stores and from the plan's reply, which are the same.
  same_said : (p q : Plan Said) → length p.due ≡ length q.due → p.reply ≡ q.reply
      → ((changed n p a).reply ≡ (changed n q a).reply) × ((changed n p a).made ≡ (changed n q a).made)
  unfolding changed cut
  same_said p q l r = (rw (l, r), rw l)

  plans_say : (p q : Plan Said) → Plans key v w a p q
      → ((changed n p a).reply ≡ (changed n q a).reply) × ((changed n p a).made ≡ (changed n q a).made)
  plans_say p q (inl r) = same_said p q (ap (λ (x : Plan Said). length x.due) r.same) (ap (λ (x : Plan Said). x.reply) r.same)
  plans_say p q (inr r) =
      rw (r.first, r.second)
      (same_said (value_plan r.front r.at r.behind v) (value_plan r.front r.at r.behind w)
      (valued_length r.front r.at r.behind v w) refl)

pub other_value_at : OtherValueAt
unfolding step effect
other_value_at a l key v w n = plans_leave key v w n a (put a key v) (put a key w) (put_plans key v w a)

pub other_value_holds : OtherValue
unfolding step effect
other_value_holds a l key v w n =
    let said = plans_say key v w n a (put a key v) (put a key w) (put_plans key v w a) in
    record {
      reply = said.0;
      made = said.1;
      words = ⊎_elim
          (λ (r : NotStored _ _). at_most_one none _ _ r.same)
          (λ (r : Stored key v w _ _). at_most_one (some r.address) _ _ r.same)
          (other_value_at a l key v w n);
    }

-- ---- Performed calls

-- What was answered and left is the outcome.
performed_outcome : (call : Call) (a l : List ℕ) (r : Answer) (x l' : List ℕ) → Performed call a l r x l' → outcome_by r x ≡ (step a l call).outcome
performed_outcome call a l r x l' p = rw (p.answered.reply, p.answered.stores, p.answered.words)

pub one_more_performed : OneMorePerformed
one_more_performed call a l r x l' s y m' p q =
    rw (p.answered.words, q.answered.words) (one_more_allowed_holds a l call, one_more_allowed_at a l call)

pub other_value_performed : OtherValuePerformed
other_value_performed key v w n a l r x l' s y m' p q =
    rw (performed_outcome (Put key v n) a l r x l' p, performed_outcome (Put key w n) a l s y m' q)
    (other_value_holds a l key v w n, other_value_at a l key v w n)
