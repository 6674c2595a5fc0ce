-- The cases of a put from what the code read, and a put behind a split.
use mathlib.Core.Path.{◌≡◌, refl, sym, ap, ◌∙◌}
use mathlib.Core.List.{List}
use mathlib.Core.Option.{some}
use Prim.Native.Nat.{ℕ, suc, ◌+◌, ◌-◌, ◌≤◌, ◌<◌, min}
use native.Mathlib.Nat.{min-eq_left, le_of_lt, sub-zero, zero-add}
use native.Mathlib.Omega.{arith}
use borrow.Author.Tests.{le-leb, lt-leb, leb-true}
use lib.Dec.{leb}
use Rattle.std.specs.Prelude.{Ok, Err}
use lib.ListN.{length, length-append}
use Rattle.stores.specs.Store.{Store, exec, apply}
use Rattle.stores.specs.Plan.{Plan, ◌then◌, cut}
use Rattle.stores.specs.declared.Budget.{Budget}
use Rattle.stores.specs.Executed.{Executed, begun}
use Rattle.stores.proofs.Tests.{same_test}
use Rattle.stores.proofs.Stores.{exec_append, exec_all, exec_not_made}
use Rattle.stores.proofs.Plans.{made_allowed}
use Rattle.replies.specs.declared.Refusal.{Refusal}
use Rattle.replies.specs.declared.Refusal.TheVariants.{TooDeep, NoSegment, CutOff}
use Rattle.replies.specs.declared.Answer.{Answer}
use Rattle.index_rules.specs.declared.Call.TheVariants.{Put}
use Rattle.index_rules.specs.Layout.{max_depth, local_depth}
use Rattle.index_rules.specs.Slots.{Choice, found, into, full, free_segment}
use Rattle.replies.specs.Replies.{Said, refuse, said_by, changed}
use Rattle.index_rules.specs.Get.{key_entry, key_segment}
use Rattle.index_rules.specs.Split.{splitting}
use Rattle.index_rules.specs.Put.{put_tests, key_choice, unused, put}
use Rattle.index_rules.specs.Step.{effect, step, outcome_of}
use Rattle.index_laws.proofs.Split.{Splittable, unused_falls}
use Rattle.index_laws.proofs.Keys.{window_lt}
use Rattle.index_laws.proofs.Range.{hit_slot}
use Rattle.index_laws.proofs.Put.{put_refused, put_found, put_into, put_too_deep, put_no_segment, put_again, put_splittable, choice_found, choice_into}
use Rattle.index_layout.specs.declared.place.Place.{Place}
use Rattle.index_structure.specs.Splits.{SplitBy}
use Rattle.replies.specs.Answered.{Answered, AfterStores}
use Rattle.index.specs.Slots.{value_put, record_put}
use Rattle.replies.proofs.Answers.{answered_only}
use Rattle.index.proofs.Places.{Stands}

-- ---- A plan behind stores

module _ (n : ℕ) (ss : List Store) (p : Plan Said) (a : List ℕ) where
  leb_sub : (l d : ℕ) → l ≤ n → leb (l + d) n ≡ leb d (n - l)
  leb_sub l d h =
      same_test (leb (l + d) n) (leb d (n - l))
      (λ t. le-leb d (n - l) (omega (arith, leb-true (l + d) n t)))
      (λ t. le-leb (l + d) n (omega (arith, leb-true d (n - l) t)))

  min_sub : (l d : ℕ) → l ≤ n → min n (l + d) ≡ l + min (n - l) d
  min_sub l d h = omega arith

  -- Where the stores are allowed, the rest has what is left of the allowance.
  pub changed_then : length ss ≤ n
      → changed n (ss then p) a
      ≡ record {
        reply = (changed (n - length ss) p (apply ss a)).reply;
        made = length ss + (changed (n - length ss) p (apply ss a)).made;
        after = (changed (n - length ss) p (apply ss a)).after;
      }
  unfolding changed cut
  changed_then h =
      rw (length-append ss p.due, leb_sub (length ss) (length p.due) h, min_sub (length ss) (length p.due) h, exec_append ss p.due n a, exec_all ss n a h)

  -- Where they are not, the call is cut off among them.
  pub changed_then_cut : n < length ss → changed n (ss then p) a ≡ record { reply = refuse CutOff; made = n; after = exec ss n a }
  unfolding changed cut
  changed_then_cut h =
      let none_left : n - length ss ≡ 0 = omega arith in
      let few : min n (length ss + length p.due) ≡ n = min-eq_left (omega arith) in
      rw (length-append ss p.due, lt-leb (length ss + length p.due) n (omega arith), few, exec_append ss p.due n a, none_left)
      (rw (exec_not_made p.due 0 (exec ss n a) refl))

-- ---- What the code has read

-- The window is full, and the split into the free segment `new` was made, as far as allowed: it left b.
pub record SplitOf (p : Place) (key allowance : ℕ) (x : Budget) (a b : List ℕ) : Type 0 where
  pub new : ℕ
  pub stands : Stands p a key (put_tests a key)
  pub window_full : key_choice a key ≡ full
  pub room : local_depth (key_entry a key) < max_depth a
  pub free : free_segment a ≡ some new
  pub made : Executed (splitting a key new) (begun allowance) a x b

module _ {p : Place} {a : List ℕ} {key : ℕ} (k : Stands p a key (put_tests a key)) where
  -- What was chosen at the key's place.
  pub choice_read : {x : Choice} → x ≡ key_choice a p.key → key_choice a key ≡ x
  choice_read c = sym (rw k.1 at c)

  pub found_slot : {j : ℕ} → found j ≡ key_choice a p.key → j < 64
  found_slot {j} c = hit_slot a (key_segment a key) key j (choice_found a key j (choice_read c))

  pub into_slot : {j : ℕ} → into j ≡ key_choice a p.key → j < 64
  into_slot {j} c = window_lt key j (choice_into a key j (choice_read c)).in_window

  base_is : key_segment a key ≡ p.base
  base_is = rw k.1 at k.2.base_is

  module _ (value allowance : ℕ) (r : Answer) (after : List ℕ) where
    pub answers_found : {j : ℕ} → found j ≡ key_choice a p.key → Answered (changed allowance (value_put p value j) a) r after
        → Answered (outcome_of a (Put key value allowance)) r after
    unfolding effect step
    answers_found {j} c m = rw (put_found a key value k.0 j (choice_read c), base_is) m

    pub answers_into : {j : ℕ} → into j ≡ key_choice a p.key → Answered (changed allowance (record_put p value j) a) r after
        → Answered (outcome_of a (Put key value allowance)) r after
    unfolding effect step
    answers_into {j} c m = rw (put_into a key value k.0 j (choice_read c), base_is, ← k.1) m

-- ---- Refusals

pub answers_refused : (a : List ℕ) (key value allowance : ℕ) (q : Refusal) (r : Answer) → put_tests a key ≡ some q
    → (r.reply ≡ Err q) × (r.stores ≡ 0) → Answered (outcome_of a (Put key value allowance)) r a
unfolding effect step
answers_refused a key value allowance q r t e =
    rw (put_refused a key value q t) (answered_only allowance (refuse q) a r (ap said_by e.0) e.1)

module _ {p : Place} {a : List ℕ} {key : ℕ} (k : Stands p a key (put_tests a key)) (full-window : full ≡ key_choice a p.key) where
  window_full : key_choice a key ≡ full
  window_full = choice_read k full-window

  depth_is : local_depth (key_entry a key) ≡ p.local_depth
  depth_is = rw k.1 at k.2.depth_is

  room : p.local_depth < p.header.max_depth → local_depth (key_entry a key) < max_depth a
  room l = rw (depth_is, k.2.header_read.max_depth_read) l

  -- What the split has answered, and left as b.
  module _ (allowance : ℕ) (b : List ℕ) where
    -- It has refused.
    pub answers_not_split : (q : Refusal) → SplitBy (Err q) p allowance a b → (value : ℕ) (r : Answer) → (r.reply ≡ Err q) × (r.stores ≡ 0)
        → Answered (outcome_of a (Put key value allowance)) r b
    unfolding effect step
    answers_not_split TooDeep t value r e =
        let deep : local_depth (key_entry a key) ≡ max_depth a = depth_is ∙ t.0 ∙ sym k.2.header_read.max_depth_read in
        rw (t.1, put_too_deep a key value k.0 window_full deep)
        (answered_only allowance (refuse TooDeep) a r (ap said_by e.0) e.1)
    answers_not_split NoSegment t value r e =
        rw (t.2, put_no_segment a key value k.0 window_full (room t.0) t.1)
        (answered_only allowance (refuse NoSegment) a r (ap said_by e.0) e.1)
    answers_not_split _ t value r e = absurd t

    pub split_of : {x : Budget} → SplitBy (Ok x) p allowance a b → SplitOf p key allowance x a b
    split_of t =
        record {
          new = t.0;
          stands = k;
          window_full = window_full;
          room = room t.1.local_room;
          free = t.1.free;
          made = rw (← k.1) t.1.made;
        }

-- ---- A split, and the put behind it

module _ {p : Place} {key allowance : ℕ} {x : Budget} {a b : List ℕ} (m : SplitOf p key allowance x a b) (value : ℕ) where
  plan : put a key value ≡ splitting a key m.new then put (apply (splitting a key m.new) a) key value
  plan = put_again a key value m.stands.0 m.window_full m.room m.new m.free

  due_length : x.due ≡ length (splitting a key m.new)
  due_length = m.made.count ∙ zero-add (length (splitting a key m.new))

  pub answers_cut : x.allowance < x.due → (s : Said) {r : Answer} → AfterStores r s x → Answered (outcome_of a (Put key value allowance)) r b
  unfolding effect step
  answers_cut l s k =
      rw (
        plan,
        changed_then_cut allowance (splitting a key m.new) (put (apply (splitting a key m.new) a) key value) a
            (omega (arith, l, due_length, m.made.allowance)),
      )
      (record {
        reply = rw (lt-leb x.due x.allowance l) at k.0;
        stores = k.1 ∙ min-eq_left (le_of_lt l) ∙ m.made.allowance;
        words = m.made.words ∙ rw (sub-zero allowance);
      })

  -- The call goes on, and n stores were made.
  module _ (whole : x.due ≤ x.allowance) {n : ℕ} (made_is : n ≡ min x.allowance x.due) where
    made_length : n ≡ length (splitting a key m.new)
    made_length = omega (arith, made_is, whole, due_length)

    pub made_below : n ≤ allowance
    made_below = omega (arith, made_is, m.made.allowance)

    split_whole : b ≡ apply (splitting a key m.new) a
    split_whole = m.made.words ∙ exec_all (splitting a key m.new) (allowance - 0) a (omega (arith, made_length, made_below))

    pub put_falls : unused b key < unused a key
    unfolding unused
    put_falls =
        let u : ℕ = max_depth a - suc (local_depth (key_entry a key)) in
        let here : unused a key ≡ suc u = let l = m.room in omega arith in
        let can : Splittable a key m.new = put_splittable a key value m.stands.0 m.window_full m.room m.new m.free in
        let behind : unused b key ≡ u = rw split_whole (unused_falls a key m.new can u here) in
        omega arith

    module _ {rest : Answer} {after : List ℕ} (again : Answered (outcome_of b (Put key value (allowance - n))) rest after) where
      pub rest_allowed : rest.stores ≤ allowance - n
      unfolding effect step changed
      rest_allowed = rw again.stores (made_allowed (refuse CutOff) (allowance - n) (put b key value) b)

      pub answers_again : Answered (outcome_of a (Put key value allowance)) (record { reply = rest.reply; stores = n + rest.stores }) after
      unfolding effect step
      answers_again =
          let o = rw (split_whole, made_length) at again in
          rw (plan, changed_then allowance (splitting a key m.new) (put (apply (splitting a key m.new) a) key value) a (rw made_length at made_below))
          (record {
            reply = o.reply;
            stores = rw made_length (ap (λ (k : ℕ). length (splitting a key m.new) + k) o.stores);
            words = o.words;
          })
