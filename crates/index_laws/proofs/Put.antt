-- The cases of a put as laws, what its passed tests say, and induction over its splits.
use mathlib.Core.Path.{◌≡◌, refl, ap, ◌∙◌}
use mathlib.Core.Bool.{Bool, true, false, not}
use mathlib.Core.List.{List, [], ◌∷◌}
use mathlib.Core.Option.{Option, none, some}
use mathlib.Core.Logic.{⊎_elim}
use Prim.Native.Nat.{ℕ, zero, suc, ◌-◌, ◌≤◌, ◌<◌}
use native.Mathlib.Nat.{eq-or-lt_of_le}
use native.Mathlib.Omega.{arith}
use borrow.Author.Tests.{eqb-false, not-true, not-false, leb-true}
use lib.Dec.{leb, eqb}
use Rattle.stores.specs.Store.{store, apply}
use Rattle.stores.specs.Plan.{Plan, reply_only, ◌then◌}
use Rattle.stores.proofs.Lists.{first_some, first_none, some_none}
use Rattle.stores.proofs.Numbers.{numbers, range_lt, lt_range, first_below}
use Rattle.replies.specs.declared.Refusal.{Refusal}
use Rattle.replies.specs.declared.Refusal.TheVariants.{NoStore, NoKey, Broken, Unmended, TooDeep, NoSegment}
use Rattle.index_rules.specs.Layout.{valid_header, depth, max_depth, segments, segment_of, local_depth, key_address, value_address}
use Rattle.index_rules.specs.Keys.{index}
use Rattle.index_rules.specs.Scan.{in_range, leaders_valid, entries_agree}
use Rattle.index_rules.specs.Slots.{hit, Choice, found, into, full, named, free_segment}
use Rattle.replies.specs.Replies.{Said, done, number_of, refuse, unless, tested}
use Rattle.replies.proofs.Sayable.{given_by, unless_given}
use Rattle.index_rules.specs.Get.{key_entry, key_segment, key_tests}
use Rattle.index_rules.specs.Split.{splitting}
use Rattle.index_rules.specs.Put.{directory_tests, put_tests, key_choice, placed, into_free, put_unused, unused, put}
use Rattle.index_laws.specs.Full.{KeyFull}
use Rattle.index_laws.proofs.Words.{ValidHeader, valid_header_holds}
use Rattle.index_laws.proofs.Keys.{index_lt}
use Rattle.index_laws.proofs.Slots.{IntoSlot, found_by_choose, into_by_choose, full_by_choose}
use Rattle.index_laws.proofs.Scan.{range_depth, range_segment, consistent_in_range}
use Rattle.index_laws.proofs.Doubling.{entry_of_key}
use Rattle.index_laws.proofs.Halving.{key_bits}
use Rattle.index_laws.proofs.Split.{Splittable, unused_falls}

-- ---- The tests

-- All tests pass: this one does, and those after it do.
pub unless_none : (t : Bool) (r : Refusal) (later : Option Refusal) → unless t r later ≡ none → (t ≡ true) × (later ≡ none)
unfolding unless
unless_none true r later e = (refl, e)
unless_none false r later e = absurd (some_none r e)

-- The tests of a put pass, and what they say of word 0, of the key and of its own entry. Of the rest of the directory the laws of where
-- stores go, of how many they are and of what is looked at need nothing.
pub record Passed (a : List ℕ) (key : ℕ) : Type 0 where
  pub valid : ValidHeader a
  pub nonzero : key ≡ 0 → ⊥
  pub local_low : local_depth (key_entry a key) ≤ depth a
  pub segment_below : segment_of (key_entry a key) < segments a
  pub tests : put_tests a key ≡ none

-- The same tests, with others behind them.
pub passed_behind : (a : List ℕ) (key : ℕ) (later : Option Refusal) → key_tests a key (directory_tests a later) ≡ none
    → Passed a key × (later ≡ none)
unfolding put_tests key_tests directory_tests unless
passed_behind a key later e =
    let t₁ = unless_none (valid_header a) NoStore _ e in
    let t₂ = unless_none (not (eqb key 0)) NoKey _ t₁.1 in
    let t₃ = unless_none (leaders_valid a (depth a) (segments a)) Broken _ t₂.1 in
    let t₄ = unless_none (entries_agree a (depth a)) Unmended later t₃.1 in
    let range : in_range (depth a) (segments a) (key_entry a key) ≡ true =
    rw (entry_of_key a key (depth a) refl)
    (consistent_in_range a (depth a) (segments a) (index key (depth a)) t₃.0 t₄.0 (index_lt key (depth a))) in (
      record {
        valid = valid_header_holds a t₁.0;
        nonzero = eqb-false key 0 (not-true (eqb key 0) t₂.0);
        local_low = range_depth (depth a) (segments a) (key_entry a key) range;
        segment_below = range_segment (depth a) (segments a) (key_entry a key) range;
        tests = rw (t₁.0, t₂.0, t₃.0, t₄.0);
      },
      t₄.1,
    )

pub passed : (a : List ℕ) (key : ℕ) → put_tests a key ≡ none → Passed a key
unfolding put_tests
passed a key e = (passed_behind a key none e).0

-- What they say of the directory: it is consistent.
pub tests_consistent : (a : List ℕ) (key : ℕ) → put_tests a key ≡ none
    → (leaders_valid a (depth a) (segments a) ≡ true) × (entries_agree a (depth a) ≡ true)
unfolding put_tests key_tests directory_tests
tests_consistent a key e =
    let t₁ = unless_none (valid_header a) NoStore _ e in
    let t₂ = unless_none (not (eqb key 0)) NoKey _ t₁.1 in
    let t₃ = unless_none (leaders_valid a (depth a) (segments a)) Broken _ t₂.1 in
    (t₃.0, (unless_none (entries_agree a (depth a)) Unmended none t₃.1).0)

-- A put's tests refuse with 1 to 4.
pub tests_number : (a : List ℕ) (key : ℕ) (r : Refusal) → put_tests a key ≡ some r → number_of r ≤ 4
unfolding put_tests key_tests directory_tests
tests_number a key r e =
    let few : ℕ → Bool = λ n. leb n 4 in
    leb-true (number_of r) 4
    (given_by few (put_tests a key) r
    (unless_given few (valid_header a) NoStore _ refl
    (unless_given few (not (eqb key 0)) NoKey _ refl
    (unless_given few (leaders_valid a (depth a) (segments a)) Broken _ refl
    (unless_given few (entries_agree a (depth a)) Unmended none refl Prim.tt))))
    e)

-- ---- The choice of a slot, in the segment of the key

-- The first hit; what is said of the slot for a new record of the key.
abbrev pub key_hit : List ℕ → (key : ℕ) → Option ℕ
key_hit a key = hit a (key_segment a key) key

abbrev pub KeyInto : List ℕ → (key j : ℕ) → Type 0
KeyInto a key j = IntoSlot a (key_segment a key) (local_depth (key_entry a key)) (key_bits a key) key j

module _ (a : List ℕ) (key : ℕ) where
  pub choice_found : (j : ℕ) → key_choice a key ≡ found j → key_hit a key ≡ some j
  unfolding key_choice
  choice_found = found_by_choose a (key_segment a key) (local_depth (key_entry a key)) (key_bits a key) key

  pub choice_into : (j : ℕ) → key_choice a key ≡ into j → KeyInto a key j
  unfolding key_choice
  choice_into = into_by_choose a (key_segment a key) (local_depth (key_entry a key)) (key_bits a key) key

  pub choice_full : key_choice a key ≡ full → KeyFull a key
  unfolding key_choice
  choice_full = full_by_choose a (key_segment a key) (local_depth (key_entry a key)) (key_bits a key) key

-- ---- The free segment

pub free_below : (a : List ℕ) (n : ℕ) → free_segment a ≡ some n → (n < segments a) × (named a n ≡ false)
unfolding free_segment
free_below a n e =
    let r = first_some (λ s. not (named a s)) (numbers (segments a)) n e in
    (range_lt n (segments a) r.0, not-true (named a n) r.1)

pub free_none : (a : List ℕ) → free_segment a ≡ none → (s : ℕ) → s < segments a → named a s ≡ true
unfolding free_segment
free_none a e s h =
    not-false (named a s)
    (first_none (λ s. not (named a s)) (numbers (segments a)) e s (lt_range s (segments a) h))

-- A segment that no entry names is found, or one before it.
pub free_found : (a : List ℕ) (n : ℕ) → n < segments a → named a n ≡ false → (m : ℕ) × (free_segment a ≡ some m) × (m ≤ n)
unfolding free_segment
free_found a n h u = first_below (λ s. not (named a s)) (segments a) n h (ap not u)

-- ---- The cases of a put

-- The stores of a put at the slot that has the key, and into the slot for a new key.
abbrev pub renewed : List ℕ → (key value j : ℕ) → Plan Said
renewed a key value j = record { due = store (value_address (key_segment a key) j) value ∷ []; reply = done [] }

abbrev pub inserted : List ℕ → (key value j : ℕ) → Plan Said
inserted a key value j =
    record {
      due = store (value_address (key_segment a key) j) value ∷ store (key_address (key_segment a key) j) key ∷ [];
      reply = done [];
    }

-- What the plan is where the window is full.
otherwise : (u : ℕ) → List ℕ → (key value : ℕ) → Plan Said
otherwise zero a key value = reply_only (refuse TooDeep)
otherwise (suc u) a key value =
    into_free (free_segment a) (λ n. splitting a key n then put_unused u (apply (splitting a key n) a) key value)

plan : (u : ℕ) (a : List ℕ) (key value : ℕ)
    → put_unused u a key value
    ≡ tested (put_tests a key) (placed (key_segment a key) key value (key_choice a key) (otherwise u a key value))
unfolding put_unused otherwise
plan zero a key value = refl
plan (suc u) a key value = refl

module _ (a : List ℕ) (key value : ℕ) where
  pub put_refused : (r : Refusal) → put_tests a key ≡ some r → put a key value ≡ reply_only (refuse r)
  unfolding put tested
  put_refused r e = rw (plan, e)

  module _ (ok : put_tests a key ≡ none) where
    pub put_found : (j : ℕ) → key_choice a key ≡ found j → put a key value ≡ renewed a key value j
    unfolding put tested placed
    put_found j c = rw (plan, ok, c)

    pub put_into : (j : ℕ) → key_choice a key ≡ into j → put a key value ≡ inserted a key value j
    unfolding put tested placed
    put_into j c = rw (plan, ok, c)

    module _ (c : key_choice a key ≡ full) where
      put_full : (u : ℕ) → unused a key ≡ u → put a key value ≡ otherwise u a key value
      unfolding put tested placed
      put_full u e = rw (e, plan, ok, c)

      pub put_too_deep : local_depth (key_entry a key) ≡ max_depth a → put a key value ≡ reply_only (refuse TooDeep)
      unfolding unused otherwise
      put_too_deep e = put_full 0 (omega arith)

      module _ (room : local_depth (key_entry a key) < max_depth a) where
        some_unused : unused a key ≡ suc (max_depth a - suc (local_depth (key_entry a key)))
        unfolding unused
        some_unused = omega arith

        pub put_no_segment : free_segment a ≡ none → put a key value ≡ reply_only (refuse NoSegment)
        unfolding otherwise into_free
        put_no_segment f = put_full (suc (max_depth a - suc (local_depth (key_entry a key)))) some_unused ∙ rw f

        pub put_splittable : (n : ℕ) → free_segment a ≡ some n → Splittable a key n
        put_splittable n f =
            let p : Passed a key = passed a key ok in
            record {
              valid = p.valid;
              local_low = p.local_low;
              local_room = room;
              segment_below = p.segment_below;
              new_below = (free_below a n f).0;
            }

        -- With a free segment, the plan is the stores of a split and then the plan of the put on the array that they leave.
        pub put_again : (n : ℕ) → free_segment a ≡ some n
            → put a key value ≡ splitting a key n then put (apply (splitting a key n) a) key value
        unfolding otherwise into_free put
        put_again n f =
            let u : ℕ = max_depth a - suc (local_depth (key_entry a key)) in
            let falls : unused (apply (splitting a key n) a) key ≡ u = unused_falls a key n (put_splittable n f) u some_unused in
            put_full (suc u) some_unused ∙ rw (f, falls)

-- ---- Induction over the splits of a put

-- That P holds of the array and the plan of a put on it, case by case: the tests refuse; the put finds the key, or a
-- slot for it; the window is full and the largest depth is reached, or no segment is free; or P holds behind a split.
pub record Cases (key value : ℕ) (P : List ℕ → Plan Said → Type 0) : Type 0 where
  pub when_refused : (a : List ℕ) (r : Refusal) → put_tests a key ≡ some r → P a (reply_only (refuse r))
  pub when_found : (a : List ℕ) (j : ℕ) → Passed a key → key_choice a key ≡ found j → P a (renewed a key value j)
  pub when_into : (a : List ℕ) (j : ℕ) → Passed a key → key_choice a key ≡ into j → P a (inserted a key value j)
  pub when_deep : (a : List ℕ) → Passed a key → key_choice a key ≡ full → local_depth (key_entry a key) ≡ max_depth a
      → P a (reply_only (refuse TooDeep))
  pub when_none : (a : List ℕ) → Passed a key → key_choice a key ≡ full → local_depth (key_entry a key) < max_depth a
      → free_segment a ≡ none → P a (reply_only (refuse NoSegment))
  pub when_split : (a : List ℕ) (n : ℕ) → Passed a key → key_choice a key ≡ full → free_segment a ≡ some n → Splittable a key n
      → P (apply (splitting a key n) a) (put (apply (splitting a key n) a) key value)
      → P a (splitting a key n then put (apply (splitting a key n) a) key value)

module _ (key value : ℕ) (P : List ℕ → Plan Said → Type 0) (c : Cases key value P) where
  -- One step: P behind a split is given.
  module _ (a : List ℕ)
      (behind : (n : ℕ) → Splittable a key n → P (apply (splitting a key n) a) (put (apply (splitting a key n) a) key value)) where
    step_free : put_tests a key ≡ none → key_choice a key ≡ full → local_depth (key_entry a key) < max_depth a
        → (f : Option ℕ) → free_segment a ≡ f → P a (put a key value)
    step_free ok e room none f = rw (put_no_segment a key value ok e room f) (c.when_none a (passed a key ok) e room f)
    step_free ok e room (some n) f =
        let s : Splittable a key n = put_splittable a key value ok e room n f in
        rw (put_again a key value ok e room n f) (c.when_split a n (passed a key ok) e f s (behind n s))

    step_choice : put_tests a key ≡ none → (h : Choice) → key_choice a key ≡ h → P a (put a key value)
    step_choice ok (found j) e = rw (put_found a key value ok j e) (c.when_found a j (passed a key ok) e)
    step_choice ok (into j) e = rw (put_into a key value ok j e) (c.when_into a j (passed a key ok) e)
    step_choice ok full e =
        let p : Passed a key = passed a key ok in
        ⊎_elim
        (λ (d : local_depth (key_entry a key) ≡ max_depth a). rw (put_too_deep a key value ok e d) (c.when_deep a p e d))
        (λ (d : local_depth (key_entry a key) < max_depth a). step_free ok e d (free_segment a) refl)
        (eq-or-lt_of_le (let l = p.local_low in let g = p.valid.present in omega arith))

    step_tests : (o : Option Refusal) → put_tests a key ≡ o → P a (put a key value)
    step_tests none e = step_choice e (key_choice a key) refl
    step_tests (some r) e = rw (put_refused a key value r e) (c.when_refused a r e)

  by_unused : (u : ℕ) (a : List ℕ) → unused a key ≡ u → P a (put a key value)
  unfolding unused
  by_unused zero a e =
      step_tests a (λ n s. absurd (let r = s.local_room in omega arith)) (put_tests a key) refl
  by_unused (suc u) a e =
      step_tests a (λ n s. by_unused u (apply (splitting a key n) a) (unused_falls a key n s u e)) (put_tests a key) refl

  pub put_induction : (a : List ℕ) → P a (put a key value)
  put_induction a = by_unused (unused a key) a refl
