-- No plan stores outside the words that D and S take, on any array; and every call keeps the array's length.
use mathlib.Core.Path.{◌≡◌, refl}
use mathlib.Core.Bool.{Bool, true, false, ◌&&◌}
use mathlib.Core.List.{List, [], ◌∷◌}
use mathlib.Core.Option.{Option, none, some}
use Prim.Native.Nat.{ℕ, suc, ◌^◌, ◌≤◌, ◌<◌}
use native.Mathlib.Omega.{arith}
use borrow.Author.Tests.{leb-true}
use lib.Dec.{leb, eqb}
use lib.ListN.{length, take}
use lib.Pow.{pow_mono}
use Rattle.stores.specs.Lists.{pick, each}
use Rattle.stores.specs.Store.{Store, word, store, apply, Every}
use Rattle.stores.specs.Plan.{Plan}
use Rattle.stores.proofs.Tests.{and_left, and_right}
use Rattle.stores.proofs.Lists.{every_append, every_each, every_map}
use Rattle.stores.proofs.Stores.{word_elsewhere}
use Rattle.stores.proofs.Lists.{every_take}
use Rattle.stores.proofs.Plans.{after_cut, length_cut}
use Rattle.replies.specs.declared.Refusal.{Refusal}
use Rattle.replies.specs.declared.Refusal.TheVariants.{NoStore, CutOff, BadShape}
use Rattle.index_rules.specs.declared.Call.{Call}
use Rattle.index_rules.specs.declared.Call.TheVariants.{Format, Get, Put, Remove, Merge, Mend, List as ListCall, ListBlock}
use Rattle.index_rules.specs.Keys.{index}
use Rattle.index_rules.specs.Layout.{header, depth, max_depth, segments, words_for, valid_shape, valid_header, entry_address, entry_at, segment_of, segment_address, key_address, value_address}
use Rattle.index_rules.specs.Scan.{leading_entry}
use Rattle.index_rules.specs.Slots.{hit}
use Rattle.replies.specs.Replies.{Said, done, refuse, tested, changed}
use Rattle.index_rules.specs.Format.{format_tests, format_stores, format}
use Rattle.index_rules.specs.Get.{key_entry, key_segment}
use Rattle.index_rules.specs.Split.{splitting}
use Rattle.index_rules.specs.Put.{put_tests, put}
use Rattle.index_rules.specs.Remove.{remove_tests, cleared_at, remove}
use Rattle.index_rules.specs.Merge.{merge_tests, merging_of, merge}
use Rattle.index_rules.specs.Mend.{mend_tests, mend_entry, mending, mend}
use Rattle.index_rules.specs.Step.{Effect, changes, answers, effect, carried_out, step}
use Rattle.index_laws.specs.Limits.{extent, Below, due_by}
use Rattle.index_laws.proofs.Slots.{hit_window}
use Rattle.index_laws.proofs.Words.{ValidHeader, valid_header_holds, Inside, entry_inside, key_inside, value_inside, directories_below}
use Rattle.index_laws.proofs.Keys.{window_lt}
use Rattle.index_laws.proofs.Put.{unless_none, passed, choice_found, choice_into, put_induction}
use Rattle.index_laws.proofs.Merge.{merge_passed, merging_in_range}
use Rattle.index_laws.proofs.Split.{splitting_in_range, AfterSplit, after_split}

-- A plan behind tests: what holds of its stores where the tests pass, holds of the stores due.
tested_every : (P : Store → Type 0) (o : Option Refusal) (p : Plan Said) → (o ≡ none → Every P p.due) → Every P (tested o p).due
unfolding tested
tested_every P none p h = h refl
tested_every P (some r) p h = Prim.tt

-- ---- Format

-- A valid shape has a segment.
shape_segment : (D S : ℕ) → valid_shape D S ≡ true → 1 ≤ S
unfolding valid_shape
shape_segment D S e =
    let h : leb 1 S && leb S (2 ^ D) ≡ true = and_right (leb 2 D && leb D 12) (leb 1 S && leb S (2 ^ D)) e in
    leb-true 1 S (and_left (leb 1 S) (leb S (2 ^ D)) h)

pub format_range : (a : List ℕ) (D S : ℕ) → Every (Below D S) (format a D S).due
unfolding format format_tests format_stores
format_range a D S =
    tested_every (Below D S) (format_tests a D S) (record { due = format_stores D S; reply = done [] })
    (λ e.
    let s : 1 ≤ S = shape_segment D S (unless_none (valid_shape D S) BadShape _ e).0 in
    let two : 2 ^ 1 ≤ 2 ^ suc D = pow_mono {i = 1} {j = suc D} (omega arith) in
    let below : 2 ^ suc D ≤ words_for D S = directories_below D S in (
      omega arith,
      (
        omega arith,
        every_append (Below D S) (each (λ j. store (key_address (segment_address D 0) j) 0 ∷ []) 64) (store 0 (header 0 D S) ∷ [])
            (every_each (Below D S) (λ j. store (key_address (segment_address D 0) j) 0 ∷ []) 64
            (λ j h. ((key_inside D S 0 j s h).below, Prim.tt)))
            (omega arith, Prim.tt),
      ),
    ))

-- ---- The slot that a search finds

pub hit_slot : (a : List ℕ) (base key j : ℕ) → hit a base key ≡ some j → j < 64
hit_slot a base key j e = window_lt key j (hit_window a base key j e)

module _ (a : List ℕ) (key j : ℕ) (s : segment_of (key_entry a key) < segments a) (h : j < 64) where
  pub key_in_range : Inside (max_depth a) (segments a) (key_address (key_segment a key) j)
  unfolding key_segment
  key_in_range = key_inside (max_depth a) (segments a) (segment_of (key_entry a key)) j s h

  pub value_in_range : Inside (max_depth a) (segments a) (value_address (key_segment a key) j)
  unfolding key_segment
  value_in_range = value_inside (max_depth a) (segments a) (segment_of (key_entry a key)) j s h

-- ---- Put, remove, merge and mend

pub put_range : (a : List ℕ) (key value : ℕ) → Every (Below (max_depth a) (segments a)) (put a key value).due
put_range a key value =
    put_induction key value (λ a p. Every (Below (max_depth a) (segments a)) p.due)
    (record {
      when_refused = λ a r e. Prim.tt;
      when_found = λ a j p c. ((value_in_range a key j p.segment_below (hit_slot a _ key j (choice_found a key j c))).below, Prim.tt);
      when_into = λ a j p c.
          let h : j < 64 = window_lt key j (choice_into a key j c).in_window in
          ((value_in_range a key j p.segment_below h).below, ((key_in_range a key j p.segment_below h).below, Prim.tt));
      when_deep = λ a p c d. Prim.tt;
      when_none = λ a p c d f. Prim.tt;
      when_split = λ a n p c f s behind.
          let b : List ℕ = apply (splitting a key n) a in
          let k : AfterSplit a key n b = after_split a key n s in
          every_append (Below (max_depth a) (segments a)) (splitting a key n) (put b key value).due (splitting_in_range a key n s)
          (rw (k.max_depth_kept, k.segments_kept) at behind);
    })
    a

cleared_every : (P : Store → Type 0) (base : ℕ) (o : Option ℕ)
    → ((j : ℕ) → o ≡ some j → P (store (key_address base j) 0)) → Every P (cleared_at base o).due
unfolding cleared_at
cleared_every P base none h = Prim.tt
cleared_every P base (some j) h = (h j refl, Prim.tt)

pub remove_range : (a : List ℕ) (key : ℕ) → Every (Below (max_depth a) (segments a)) (remove a key).due
unfolding remove remove_tests put_tests
remove_range a key =
    tested_every (Below (max_depth a) (segments a)) (remove_tests a key) (cleared_at (key_segment a key) (hit a (key_segment a key) key))
    (λ e.
    cleared_every (Below (max_depth a) (segments a)) (key_segment a key) (hit a (key_segment a key) key)
    (λ j k. (key_in_range a key j (passed a key e).segment_below (hit_slot a (key_segment a key) key j k)).below))

pub merge_range : (a : List ℕ) (key : ℕ) → Every (Below (max_depth a) (segments a)) (merge a key).due
unfolding merge
merge_range a key =
    tested_every (Below (max_depth a) (segments a)) (merge_tests a key)
    (record { due = merging_of a (index key (depth a)) (key_entry a key); reply = done [] })
    (λ e. merging_in_range (merge_passed a key e))

pub mend_range : (a : List ℕ) → Every (Below (max_depth a) (segments a)) (mend a).due
unfolding mend mend_tests mending mend_entry
mend_range a =
    tested_every (Below (max_depth a) (segments a)) (mend_tests a) (record { due = mending a; reply = done [] })
    (λ e.
    let v : ValidHeader a = valid_header_holds a (unless_none (valid_header a) NoStore _ e).0 in
    every_each (Below (max_depth a) (segments a)) (mend_entry a (depth a)) (2 ^ depth a)
    (λ i h.
    one (eqb (entry_at a (depth a) i) (leading_entry a (depth a) i)) (store (entry_address (depth a) i) (leading_entry a (depth a) i))
    (omega (arith, entry_inside (max_depth a) (depth a) i v.present h, directories_below (max_depth a) (segments a)))))
  where
    one : (t : Bool) (s : Store) → Below (max_depth a) (segments a) s → Every (Below (max_depth a) (segments a)) (pick t [] (s ∷ []))
    one true s h = Prim.tt
    one false s h = (h, Prim.tt)

-- ---- Every call

-- Every call keeps the array's length.
pub carried_length : (e : Effect) (a : List ℕ) → length (carried_out e a).after ≡ length a
unfolding changed
carried_length (changes allowance p) a = length_cut (refuse CutOff) allowance p a
carried_length (answers w) a = refl

pub step_length : (a l : List ℕ) (c : Call) → length (step a l c).outcome.after ≡ length a
unfolding step
step_length a l c = carried_length (effect a (length l) c) a

-- No call's due store is beyond its extent.
pub effect_range : (a : List ℕ) (room : ℕ) (c : Call) → Every (λ s. s.at < extent a c) (due_by (effect a room c))
unfolding effect
effect_range a room (Format D S allowance) = format_range a D S
effect_range a room (Get key) = Prim.tt
effect_range a room (Put key value allowance) = put_range a key value
effect_range a room (Remove key allowance) = remove_range a key
effect_range a room (Merge key allowance) = merge_range a key
effect_range a room (Mend allowance) = mend_range a
effect_range a room ListCall = Prim.tt
effect_range a room (ListBlock i) = Prim.tt

carried_untouched : (e : Effect) (a : List ℕ) (end i : ℕ) → Every (λ s. s.at < end) (due_by e) → end ≤ i → word (carried_out e a).after i ≡ word a i
unfolding changed
carried_untouched (changes allowance p) a end i h k =
    rw (after_cut (refuse CutOff) allowance p a)
    (word_elsewhere (take allowance p.due) a i
    (every_map (λ s. s.at < end) (λ s. s.at ≡ i → ⊥) (λ s l e. omega arith) (take allowance p.due)
    (every_take (λ s. s.at < end) allowance p.due h)))
carried_untouched (answers w) a end i h k = refl

-- No call changes a word beyond its extent.
pub step_untouched : (a l : List ℕ) (c : Call) (i : ℕ) → extent a c ≤ i → word (step a l c).outcome.after i ≡ word a i
unfolding step
step_untouched a l c i h = carried_untouched (effect a (length l) c) a (extent a c) i (effect_range a (length l) c) h
