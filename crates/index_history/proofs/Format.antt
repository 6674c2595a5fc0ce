-- A format that answers done leaves a store that the invariant holds of, with the empty map, whatever stood there before.
use mathlib.Core.Path.{◌≡◌, refl, sym, ◌∙◌}
use mathlib.Core.Bool.{true, ◌&&◌}
use mathlib.Core.List.{List, [], ◌∷◌, Memᴰ}
use mathlib.Core.Option.{none}
use mathlib.Core.Logic.{⊎_elim}
use Prim.Native.Nat.{ℕ, suc, ◌^◌, ◌≤◌, ◌<◌}
use native.Mathlib.Omega.{arith}
use borrow.Author.Tests.{eq-eqb, leb-true}
use lib.Dec.{leb, eqb}
use lib.ListN.{length, set}
use lib.Pow.{pow_pos}
use Rattle.stores.specs.Lists.{each}
use Rattle.stores.specs.Store.{Store, word, store, apply, writes}
use Rattle.stores.proofs.Tests.{and_left, and_right, or_right}
use Rattle.stores.proofs.Lists.{every_each, any_true}
use Rattle.stores.proofs.Stores.{apply_append, length_apply, word_apply, word_set_same, word_set_other, writes_each}
use Rattle.replies.specs.declared.Refusal.TheVariants.{BadShape, TooShort}
use Rattle.index_rules.specs.declared.Call.TheVariants.{Format}
use Rattle.index_rules.specs.Layout.{header, words_for, valid_shape, entry_address, segment_of, local_depth, segment_address, key_address, key_at}
use Rattle.index_rules.specs.Keys.{window}
use Rattle.replies.specs.Replies.{done, changed}
use Rattle.index_rules.specs.Format.{format_tests, format_stores, format}
use Rattle.index_rules.specs.Step.{effect, step, outcome_of}
use Rattle.replies.proofs.Outcomes.{Complete, CutShort, changed_cases, refused_not_done, tests_passed, tested_none}
use Rattle.index_laws.proofs.Put.{unless_none}
use Rattle.index_laws.proofs.Words.{within_inside, key_within}
use Rattle.index_laws.proofs.Keys.{live_nonzero, window_lt}
use Rattle.runs.specs.Map.{empty}
use Rattle.index_history.specs.History.{Formatted}
use Rattle.index_history.proofs.Holds.{Holds}
use Rattle.index_history.proofs.Invariant.{Directory, Inv, Recovered, LiveAt, base_at, recovered_lookups}

-- ---- A done format has made all its stores, on a shape and an array that allow it

record FormatDone (before : List ℕ) (D S : ℕ) (a : List ℕ) : Type 0 where
  shape : valid_shape D S ≡ true
  room : words_for D S ≤ length before
  left : a ≡ apply (format_stores D S) before

format_done : (before : List ℕ) (D S allowance : ℕ) → (outcome_of before (Format D S allowance)).reply ≡ done []
    → FormatDone before D S (outcome_of before (Format D S allowance)).after
unfolding effect step format format_tests
format_done before D S allowance e =
    ⊎_elim
    (λ (w : Complete (format before D S) before (changed allowance (format before D S) before)).
    let none_refused = tests_passed (format_tests before D S) _ [] (sym w.reply ∙ e) in
    let first = unless_none (valid_shape D S) BadShape _ none_refused in
    let second = unless_none (leb (words_for D S) (length before)) TooShort none first.1 in
    record {
      shape = first.0;
      room = leb-true (words_for D S) (length before) second.0;
      left = w.after ∙ rw (none_refused, tested_none);
    })
    (λ (s : CutShort allowance (format before D S) before (changed allowance (format before D S) before)).
    absurd (refused_not_done 7 [] (sym s.reply ∙ e)))
    (changed_cases allowance (format before D S) before)

-- ---- What its stores leave

module _ (before : List ℕ) (D S : ℕ) (valid : valid_shape D S ≡ true) (room : words_for D S ≤ length before) where
  -- All stores but the last, each of which stores 0.
  abbrev clearing : List Store
  clearing = store 0 0 ∷ store 1 0 ∷ each (λ j. store (key_address (segment_address D 0) j) 0 ∷ []) 64

  abbrev formatted : List ℕ
  formatted = apply (format_stores D S) before

  formatted_is : formatted ≡ set (apply clearing before) 0 (header 0 D S)
  unfolding format_stores apply
  formatted_is = apply_append clearing (store 0 (header 0 D S) ∷ []) before

  cleared : (i : ℕ) → i < length before → writes clearing i ≡ true → word (apply clearing before) i ≡ 0
  cleared i h w =
      word_apply (λ _. 0) clearing before
      (refl, (refl, every_each (λ s. s.value ≡ 0) (λ j. store (key_address (segment_address D 0) j) 0 ∷ []) 64 (λ j k. (refl, Prim.tt))))
      i h
      ∙ rw w

  bounds : (2 ≤ D) × (D ≤ 12) × (1 ≤ S) × (S ≤ 2 ^ D)
  unfolding valid_shape
  bounds =
      let depths = and_left (leb 2 D && leb D 12) (leb 1 S && leb S (2 ^ D)) valid in
      let counts = and_right (leb 2 D && leb D 12) (leb 1 S && leb S (2 ^ D)) valid in (
        leb-true 2 D (and_left (leb 2 D) (leb D 12) depths),
        leb-true D 12 (and_right (leb 2 D) (leb D 12) depths),
        leb-true 1 S (and_left (leb 1 S) (leb S (2 ^ D)) counts),
        leb-true S (2 ^ D) (and_right (leb 1 S) (leb S (2 ^ D)) counts),
      )

  two_words : 2 ≤ length before
  unfolding words_for
  two_words = omega (arith, pow_pos D, room)

  word_0_left : word formatted 0 ≡ header 0 D S
  word_0_left =
      rw formatted_is
      (word_set_same (apply clearing before) 0 (header 0 D S) (rw length_apply (omega (arith, two_words))))

  word_1_left : word formatted 1 ≡ 0
  unfolding writes
  word_1_left =
      rw formatted_is
      (word_set_other (apply clearing before) 0 1 (header 0 D S) (λ e. omega arith) ∙ cleared 1 (omega (arith, two_words)) refl)

  key_cleared : (j : ℕ) → j < 64 → writes clearing (key_address (segment_address D 0) j) ≡ true
  unfolding writes
  key_cleared j h =
      or_right (eqb 0 (key_address (segment_address D 0) j))
      (or_right (eqb 1 (key_address (segment_address D 0) j))
      (writes_each (λ k. store (key_address (segment_address D 0) k) 0 ∷ []) (key_address (segment_address D 0) j) 64
      ∙ any_true (λ k. writes (store (key_address (segment_address D 0) k) 0 ∷ []) (key_address (segment_address D 0) j)) 64 j h
      (rw (eq-eqb (key_address (segment_address D 0) j) (key_address (segment_address D 0) j) refl))))

  key_left : (j : ℕ) → j < 64 → key_at formatted (segment_address D 0) j ≡ 0
  key_left j h =
      let w = within_inside D S 0 (key_address (segment_address D 0) j) bounds.2 (key_within D 0 j h) in
      let low : 2 ^ suc D ≤ key_address (segment_address D 0) j = w.behind in
      let high : key_address (segment_address D 0) j < words_for D S = w.below in
      rw formatted_is
      (word_set_other (apply clearing before) 0 (key_address (segment_address D 0) j) (header 0 D S) (λ e. omega (arith, pow_pos (suc D)))
      ∙ cleared (key_address (segment_address D 0) j) (omega (arith, room)) (key_cleared j h))

  -- ---- The invariant

  -- One entry, of segment 0 with local depth 0.
  abbrev whole_directory : ℕ → ℕ
  whole_directory i = 0

  zero_segment : segment_of 0 ≡ 0
  unfolding segment_of
  zero_segment = refl

  zero_depth : local_depth 0 ≡ 0
  unfolding local_depth
  zero_depth = refl

  one_index : (i j : ℕ) → i < 2 ^ 0 → j < 2 ^ 0 → j ≡ i
  one_index i j h k = omega arith

  directory : Directory 0 S whole_directory
  directory =
      record {
        entries =
            record {
              depths = λ i h. rw zero_depth (omega arith);
              below = λ i h. rw zero_segment bounds.2;
              blocks = λ i j h k e. refl;
            };
        apart = λ i j h k e. rw (one_index i j h k);
      }

  formatted_recovered : Recovered 0 whole_directory formatted
  unfolding entry_address
  formatted_recovered i h = rw (one_index 0 i (omega arith) h) word_1_left

  -- No slot of segment 0 has a key but 0.
  holds : (i : ℕ) → i < 2 ^ 0 → (key : ℕ) → LiveAt 0 whole_directory i key → Holds (empty key) formatted (base_at D whole_directory i) key
  unfolding empty
  holds i h key t j w e =
      live_nonzero _ _ key t (sym e ∙ rw zero_segment (key_left j (window_lt key j w)))

  in_window : (i : ℕ) → i < 2 ^ 0 → (j : ℕ) → j < 64 → LiveAt 0 whole_directory i (key_at formatted (base_at D whole_directory i) j)
      → Memᴰ j (window (key_at formatted (base_at D whole_directory i) j))
  in_window i h j k t =
      absurd (live_nonzero _ _ (key_at formatted (base_at D whole_directory i) j) t (rw zero_segment (key_left j k)))

  formatted_inv : Inv empty 0 D S whole_directory formatted
  formatted_inv =
      record {
        shape =
            record {
              word_0 = word_0_left;
              deep = bounds.0;
              shallow = bounds.1;
              present = omega arith;
              some_segment = bounds.2;
              few_segments = bounds.3;
              room = rw length_apply room;
            };
        directory = directory;
        leaders_agree = λ i h e. formatted_recovered i h;
        holds = holds;
        in_window = in_window;
        lookups_agree = recovered_lookups directory holds formatted_recovered;
      }

-- A store that a format has just left.
pub record Fresh (a : List ℕ) : Type 0 where
  pub D : ℕ
  pub S : ℕ
  pub inv : Inv empty 0 D S (λ i. 0) a
  pub recovered : Recovered 0 (λ i. 0) a

pub format_leaves : {a : List ℕ} → Formatted a → Fresh a
format_leaves {a} p =
    let done-so = format_done p.before p.D p.S p.allowance p.reply in
    let e : a ≡ apply (format_stores p.D p.S) p.before = p.left ∙ done-so.left in
    record {
      D = p.D;
      S = p.S;
      inv = rw e (formatted_inv p.before p.D p.S done-so.shape done-so.room);
      recovered = rw e (formatted_recovered p.before p.D p.S done-so.shape done-so.room);
    }
