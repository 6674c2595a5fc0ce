-- Mending rolls an unfinished split back and keeps a finished one, on every array with a consistent directory; and it can be done.
use mathlib.Core.Path.{◌≡◌, refl, sym, ap, ◌∙◌}
use mathlib.Core.Bool.{Bool, true, false, true≢false}
use mathlib.Core.List.{List, [], ◌∷◌, ◌++◌}
use mathlib.Core.Logic.{◌⊎◌, inl, inr, ⊎_elim}
use mathlib.Core.Option.{none}
use Prim.Native.Nat.{ℕ, suc, ◌+◌, ◌-◌, ◌/◌, ◌^◌, ◌≤◌, ◌<◌, min}
use native.Mathlib.Nat.{le_refl}
use native.Mathlib.Omega.{arith}
use borrow.Author.Tests.{ltb-true, ltb-false, eqb-true}
use lib.Dec.{ltb, eqb}
use lib.ListN.{length, length-append}
use lib.Pow.{pow_pos}
use Rattle.stores.specs.Lists.{any_below}
use Rattle.stores.specs.Store.{Store, word, store, apply, exec, Every}
use Rattle.stores.specs.Plan.{Plan}
use Rattle.stores.proofs.Tests.{by_test, by_less, by_at_most}
use Rattle.stores.proofs.Lists.{some_none, any_true, any_at, any_same}
use Rattle.stores.proofs.Stores.{length_exec, exec_all}
use Rattle.stores.proofs.Prefixes.{exec_elsewhere}
use Rattle.replies.specs.Replies.{Said, done}
use Rattle.replies.proofs.Outcomes.{changed_after}
use Rattle.index_rules.specs.declared.Call.TheVariants.{Put, Mend}
use Rattle.index_rules.specs.Layout.{depth_in, segments_in, header, depth, max_depth, segments, entry_address, entry_at, segment_of, local_depth}
use Rattle.index_rules.specs.Keys.{index, width}
use Rattle.index_rules.specs.Slots.{named}
use Rattle.index_rules.specs.Get.{key_entry, key_segment}
use Rattle.index_rules.specs.Split.{doubling, doubling_for, splitting}
use Rattle.index_rules.specs.Put.{put_tests, put}
use Rattle.index_rules.specs.Step.{effect, step, outcome_of}
use Rattle.index_laws.specs.Finished.{MendedTo}
use Rattle.index_laws.specs.RolledBack.{Splits, SplitsInto, behind_splits, split_stores, CutInSplit, CutBehind, CutSomewhere, SameDirectory, doubled_within, stores_before_entries, split_from, made_in_split, up_to_entries, MendingRollsBack, MendingKeepsSplits, CutPutMends}
use Rattle.index_laws.proofs.Words.{ValidHeader, same_header, Inside, entry_to, directory_low, directory_fits, key_inside, value_inside}
use Rattle.index_laws.proofs.Keys.{index_lt, window_lt}
use Rattle.index_laws.proofs.Blocks.{Blocks, consistent_blocks}
use Rattle.index_laws.proofs.Doubling.{DirectoryWord, doubled_entries, doubled_entries_holds, doubling_parts, Doubled, after_doubling, entry_of_key}
use Rattle.index_laws.proofs.Updating.{length_updating, leaders_not_made}
use Rattle.index_laws.proofs.Halving.{key_copies, key_updates, key_start, halving_parts, copies_inside, updates_entries}
use Rattle.index_laws.proofs.Slots.{hit_window}
use Rattle.index_laws.proofs.Split.{Splittable, Ready, ready}
use Rattle.index_laws.proofs.Put.{Passed, passed, tests_consistent, choice_found, choice_into, choice_full, free_below, put_splittable, put_again, Cases, put_induction}
use Rattle.index_laws.proofs.Refusals.{dir_ready, tests_again}
use Rattle.index_laws.proofs.Mended.{exec_front, exec_behind, not_word_0, Settled, Toward, toward_itself, mended_to, enough_mends}

-- ---- Arrays that mending brings to another

-- Mending brings the array x to c, which has the directory of o.
record Rolls (o c x : List ℕ) : Type 0 where
  settled : Settled (depth o) (segments o) (entry_at o (depth o)) c
  valid : ValidHeader c
  number : segments c ≡ segments o
  toward : Toward (depth o) (entry_at o (depth o)) c x

-- It leaves an array that has word 0 and the directory of o, which is consistent.
front_rolls : (o c : List ℕ) → ValidHeader o → Blocks (depth o) (segments o) (entry_at o (depth o)) → length c ≡ length o
    → ((x : ℕ) → x < 2 ^ suc (depth o) → word c x ≡ word o x) → Rolls o c c
front_rolls o c v dir l same =
    let word_0 : word c 0 ≡ word o 0 = same 0 (pow_pos (suc (depth o))) in
    let s : Settled (depth o) (segments o) (entry_at o (depth o)) c =
    record {
      dir = dir;
      entries = λ j h. same (entry_address (depth o) j) (entry_to (depth o) j h);
      deep = ap depth_in word_0;
      room = rw l (directory_fits v);
    } in
    record { settled = s; valid = same_header o c word_0 l v; number = ap segments_in word_0; toward = toward_itself s }

-- Mending to completion comes to c, and with enough stores it is done.
module _ {o c x : List ℕ} (r : Rolls o c x) where
  rolls_to : {b : List ℕ} → MendedTo x b → b ≡ c
  rolls_to m = mended_to r.settled r.toward m

  rolls_directory : SameDirectory o c
  rolls_directory = record { depth_same = r.settled.deep; entries_same = r.settled.entries }

  rolls_done : (n : ℕ) → 2 ^ depth x ≤ n → (outcome_of x (Mend n)).reply ≡ done []
  rolls_done n enough =
      let deep : depth x ≡ depth o = ap depth_in (r.toward.elsewhere 0 (not_word_0 (depth o))) ∙ r.settled.deep in
      enough_mends r.settled r.toward r.valid r.number n (rw deep at enough)

-- ---- One split

module _ (a : List ℕ) (key n : ℕ) (ok : Passed a key) (s : Splittable a key n) where
  -- The stores of a doubling, if there is one; below, those of the copy step, and of the entries.
  abbrev ds : List Store
  ds = doubling_for a key

  -- The array after any doubling.
  abbrev c : List ℕ
  c = apply (doubling_for a key) a

  abbrev cs : List Store
  cs = key_copies (apply (doubling_for a key) a) key n

  abbrev us : List Store
  us = key_updates (apply (doubling_for a key) a) key n

  at_hand : Ready a key c
  at_hand = ready a key s.valid s.local_low s.local_room

  parts : splitting a key n ≡ ds ++ (cs ++ us)
  unfolding splitting
  parts = ap (λ (ss : List Store). ds ++ ss) (halving_parts c key n)

  updates_length : length us ≡ width (depth c) (local_depth (key_entry a key))
  updates_length =
      length_updating (depth c) (local_depth (key_entry c key)) (key_start c key) (segment_of (key_entry c key)) n
      ∙ ap (λ (e : ℕ). width (depth c) (local_depth e)) at_hand.key_entry_holds

  split_length : length (splitting a key n) ≡ length ds + (length cs + length us)
  split_length = ap length parts ∙ length-append ds (cs ++ us) ∙ ap (λ (x : ℕ). length ds + x) (length-append cs us)

  before_entries : stores_before_entries a key n ≡ length ds + length cs
  before_entries = omega (arith, split_length, updates_length)

  -- ---- Within a doubling: the old directory stands.

  doubling_front : (k : ℕ) → k < length ds → (x : ℕ) → x < 2 ^ suc (depth a) → word (exec ds k a) x ≡ word a x
  unfolding doubling_for
  doubling_front k early x h =
      by_test (eqb (local_depth (key_entry a key)) (depth a))
      (λ t.
      let last : List Store = store 0 (header (suc (depth a)) (max_depth a) (segments a)) ∷ [] in
      let most : k ≤ length (doubled_entries a) = omega (arith, rw (t, doubling_parts a, length-append (doubled_entries a) last) at early) in
      rw (t, doubling_parts a, exec_front (doubled_entries a) last k a most)
      (exec_elsewhere (DirectoryWord (suc (depth a))) (doubled_entries a) k a x (doubled_entries_holds a) (λ w. omega (arith, w.from))))
      (λ t. absurd (omega (arith, rw t at early)))

  -- ---- Behind it: that of after any doubling.

  dir : Blocks (depth c) (segments c) (entry_at c (depth c))
  dir = rw at_hand.segments_kept (dir_ready a key n ok s)

  new : n < segments c
  new = rw at_hand.segments_kept s.new_below

  copies_front : (k x : ℕ) → x < 2 ^ suc (depth c) → word (exec cs k c) x ≡ word c x
  copies_front k x h =
      exec_elsewhere (Inside (max_depth c) (segments c)) cs k c x (copies_inside c key n at_hand.valid new)
      (λ w. omega (arith, w.behind, directory_low at_hand.valid))

  copies_roll : (k : ℕ) → Rolls c (exec cs k c) (exec cs k c)
  copies_roll k = front_rolls c (exec cs k c) at_hand.valid dir (length_exec cs k c) (copies_front k)

  -- The whole copy step.
  copied : exec cs (length cs) c ≡ apply cs c
  copied = exec_all cs (length cs) c (le_refl (length cs))

  -- Some of the entries are stored, but not the last, which leads the block.
  own : key_entry c key ≡ entry_at c (depth c) (index key (depth c))
  own = entry_of_key c key (depth c) refl

  local_room : local_depth (key_entry c key) < depth c
  local_room = rw at_hand.key_entry_holds at_hand.local_room

  entries_toward : (t : ℕ) → t < length us → Toward (depth c) (entry_at c (depth c)) (apply cs c) (exec us t (apply cs c))
  entries_toward t early =
      let b : List ℕ = apply cs c in
      let same : (j : ℕ) → j < 2 ^ depth c → entry_at b (depth c) j ≡ entry_at c (depth c) j = rw copied at (copies_roll (length cs)).settled.entries in
      record {
        length_same = length_exec us t b;
        begins = λ j h first.
            (rw (← own)
            at (leaders_not_made (depth c) (entry_at c (depth c)) (index key (depth c)) n (rw own at local_room) b t dir (index_lt key (depth c))
            (rw (updates_length, ← at_hand.key_entry_holds, own) at early) j h first))
            ∙ same j h;
        elsewhere = λ y other.
            exec_elsewhere (DirectoryWord (depth c)) us t b y (updates_entries c key n at_hand.valid new (omega (arith, local_room))) other;
      }

  -- ---- Under every allowance

  in_doubling : (k : ℕ) → k < length ds → exec (splitting a key n) k a ≡ exec ds k a
  in_doubling k h = rw parts (exec_front ds (cs ++ us) k a (omega arith))

  in_copies : (k : ℕ) → length ds ≤ k → k ≤ length ds + length cs → exec (splitting a key n) k a ≡ exec cs (k - length ds) c
  in_copies k h l = rw parts (exec_behind ds (cs ++ us) k a h) ∙ exec_front cs us (k - length ds) c (omega arith)

  in_entries : (k : ℕ) → length ds + length cs ≤ k → exec (splitting a key n) k a ≡ exec us (k - (length ds + length cs)) (apply cs c)
  in_entries k h =
      let rest : k - length ds - length cs ≡ k - (length ds + length cs) = omega arith in
      rw parts (exec_behind ds (cs ++ us) k a (omega arith)) ∙ exec_behind cs us (k - length ds) c (omega arith)
      ∙ ap (λ (t : ℕ). exec us t (apply cs c)) rest

  -- Of the first k stores, those before the first entry.
  abbrev up_to : (k : ℕ) → ℕ
  up_to k = min k (stores_before_entries a key n)

  -- Before its last store, a split is rolled back.
  rolls : (k : ℕ) → k < length (splitting a key n) → Rolls (doubled_within k a key) (exec (splitting a key n) (up_to k) a) (exec (splitting a key n) k a)
  rolls k early =
      by_test (ltb k (length ds))
      (λ t.
      let h = ltb-true k (length ds) t in
      let all : up_to k ≡ k = omega (arith, before_entries) in
      rw (t, all, in_doubling k h)
      (front_rolls a (exec ds k a) s.valid (consistent_blocks a (depth a) (segments a) (tests_consistent a key ok.tests).0 (tests_consistent a key ok.tests).1) (length_exec ds k a)
      (doubling_front k h)))
      (λ t.
      let h = ltb-false k (length ds) t in
      by_at_most k (length ds + length cs)
      (λ u.
      let all : up_to k ≡ k = omega (arith, before_entries, u) in
      rw (t, all, in_copies k h u) (copies_roll (k - length ds)))
      (λ l.
      let some : up_to k ≡ length ds + length cs = omega (arith, before_entries) in
      let first : exec (splitting a key n) (length ds + length cs) a ≡ apply cs c =
      in_copies (length ds + length cs) (omega arith) (omega arith) ∙ exec_all cs _ c (omega arith) in
      let r : Rolls c (apply cs c) (apply cs c) = rw copied at (copies_roll (length cs)) in
      rw (t, some, first, in_entries k (omega arith))
      (record {
        settled = r.settled;
        valid = r.valid;
        number = r.number;
        toward = entries_toward (k - (length ds + length cs)) (omega (arith, split_length));
      })))

-- ---- The new segment

-- With the same directory, the same segments are named.
named_same : (a b : List ℕ) → SameDirectory a b → (n : ℕ) → named b n ≡ named a n
unfolding named
named_same a b d n = rw d.depth_same (any_same _ _ (2 ^ depth a) (λ i h. rw (d.entries_same i h)))

-- A doubling names no other segment.
named_doubled : (a b : List ℕ) → Doubled a b → (n : ℕ) → named a n ≡ false → named b n ≡ false
unfolding named
named_doubled a b d n free = rw d.depth_rises (go (any_below (λ i. eqb (segment_of (entry_at b (suc (depth a)) i)) n) (2 ^ suc (depth a))) refl)
  where
    go : (t : Bool) → any_below (λ i. eqb (segment_of (entry_at b (suc (depth a)) i)) n) (2 ^ suc (depth a)) ≡ t → t ≡ false
    go false e = refl
    go true e =
        let w = any_at (λ i. eqb (segment_of (entry_at b (suc (depth a)) i)) n) (2 ^ suc (depth a)) e in
        let here : eqb (segment_of (entry_at a (depth a) (w.0 / 2))) n ≡ true = rw (← d.entries w.0 w.1) w.2 in
        absurd
        (true≢false (sym (any_true (λ i. eqb (segment_of (entry_at a (depth a) i)) n) (2 ^ depth a) (w.0 / 2) (omega (arith, w.1)) here) ∙ free))

-- What a split finds, or its doubling leaves, does not name the new segment.
found_unnamed : (a : List ℕ) (key n k : ℕ) → Splittable a key n → named a n ≡ false → named (doubled_within k a key) n ≡ false
unfolding doubling_for apply
found_unnamed a key n k s free =
    by_test (ltb k (length (doubling_for a key)))
    (λ t. rw t free)
    (λ t.
    by_test (eqb (local_depth (key_entry a key)) (depth a))
    (λ u.
    let room : depth a < max_depth a = rw (eqb-true (local_depth (key_entry a key)) (depth a) u) at s.local_room in
    rw (t, u) (named_doubled a (apply (doubling a) a) (after_doubling a s.valid room) n free))
    (λ u. rw (t, u) free))

-- ---- The put

-- What a put with this allowance leaves.
abbrev left : List ℕ → (key value allowance : ℕ) → List ℕ
left a key value allowance = (outcome_of a (Put key value allowance)).after

left_exec : (a : List ℕ) (key value m : ℕ) → left a key value m ≡ exec (put a key value).due m a
unfolding effect step
left_exec a key value m = changed_after m (put a key value) a

module _ (a : List ℕ) (key : ℕ) (ok : put_tests a key ≡ none) (n : ℕ) (s : Splits a key n) where
  splittable : Splittable a key n
  splittable = put_splittable a key 0 ok s.window_full s.not_deepest n s.free

  first_split : (value : ℕ) → (put a key value).due ≡ splitting a key n ++ (put (apply (splitting a key n) a) key value).due
  first_split value = ap (λ (p : Plan Said). p.due) (put_again a key value ok s.window_full s.not_deepest n s.free)

  -- Within its first split.
  left_within : (value m : ℕ) → m ≤ length (splitting a key n) → left a key value m ≡ exec (splitting a key n) m a
  left_within value m h =
      left_exec a key value m ∙ rw (first_split value) (exec_front (splitting a key n) (put (apply (splitting a key n) a) key value).due m a h)

  -- Behind it.
  left_behind : (value m : ℕ) → length (splitting a key n) ≤ m
      → left a key value m ≡ left (apply (splitting a key n) a) key value (m - length (splitting a key n))
  left_behind value m h =
      left_exec a key value m
      ∙ rw (first_split value) (exec_behind (splitting a key n) (put (apply (splitting a key n) a) key value).due m a h)
      ∙ sym (left_exec (apply (splitting a key n) a) key value (m - length (splitting a key n)))

  again : put_tests (apply (splitting a key n) a) key ≡ none
  again = tests_again a key n (passed a key ok) splittable

-- Behind finished splits the tests pass again, and the put goes on with the stores that are left.
tests_behind : (key : ℕ) (ns a : List ℕ) → put_tests a key ≡ none → SplitsInto key ns a → put_tests (behind_splits key ns a) key ≡ none
tests_behind key [] a ok made = ok
tests_behind key (n ∷ ns) a ok made = tests_behind key ns (apply (splitting a key n) a) (again a key ok n made.0) made.1

goes_on : (key value : ℕ) (ns a : List ℕ) → put_tests a key ≡ none → SplitsInto key ns a → (m : ℕ) → split_stores key ns a ≤ m
    → left a key value m ≡ left (behind_splits key ns a) key value (m - split_stores key ns a)
goes_on key value [] a ok made m h = ap (left a key value) (omega arith)
goes_on key value (n ∷ ns) a ok made m h =
    let b : List ℕ = apply (splitting a key n) a in
    let l : ℕ = length (splitting a key n) in
    let rest : m - l - split_stores key ns b ≡ m - (l + split_stores key ns b) = omega arith in
    left_behind a key ok n made.0 value m (omega arith)
    ∙ goes_on key value ns b (again a key ok n made.0) made.1 (m - l) (omega arith)
    ∙ ap (left (behind_splits key ns b) key value) rest

-- ---- Cut in a split

module _ (a : List ℕ) (key value allowance : ℕ) (ok : put_tests a key ≡ none) (c : CutInSplit a key allowance) where
  abbrev from : List ℕ
  from = split_from c

  abbrev k : ℕ
  k = made_in_split c

  -- Of the stores made in the split, those before the first entry.
  abbrev first : ℕ
  first = min (made_in_split c) (stores_before_entries (split_from c) key c.new)

  tests_here : put_tests from key ≡ none
  tests_here = tests_behind key c.finished a ok c.made

  splittable_here : Splittable from key c.new
  splittable_here = splittable from key tests_here c.new c.splits

  -- The put with an allowance of m, so many stores into that split.
  left_here : (m : ℕ) → m ≤ length (splitting from key c.new)
      → left a key value (split_stores key c.finished a + m) ≡ exec (splitting from key c.new) m from
  left_here m h =
      let rest : split_stores key c.finished a + m - split_stores key c.finished a ≡ m = omega arith in
      goes_on key value c.finished a ok c.made (split_stores key c.finished a + m) (omega arith)
      ∙ ap (left from key value) rest
      ∙ left_within from key tests_here c.new c.splits value m h

  made_fewer : k < length (splitting from key c.new)
  made_fewer = omega (arith, c.from, c.to)

  cut_here : left a key value allowance ≡ exec (splitting from key c.new) k from
  cut_here =
      let all : split_stores key c.finished a + k ≡ allowance = omega (arith, c.from) in
      ap (left a key value) (sym all) ∙ left_here k (omega (arith, made_fewer))

  cut_first : left a key value (min allowance (up_to_entries c)) ≡ exec (splitting from key c.new) first from
  cut_first =
      let all : split_stores key c.finished a + first ≡ min allowance (up_to_entries c) = omega (arith, c.from) in
      ap (left a key value) (sym all) ∙ left_here first (omega (arith, made_fewer))

  cut_rolls : Rolls (doubled_within k from key) (left a key value (min allowance (up_to_entries c))) (left a key value allowance)
  cut_rolls = rw (cut_here, cut_first) (rolls from key c.new (passed from key tests_here) splittable_here k made_fewer)

pub mending_rolls_back : MendingRollsBack
mending_rolls_back a key value allowance consistent ok c b m =
    let r = cut_rolls a key value allowance ok c in
    let end = rolls_to r m in
    let from : List ℕ = split_from c in
    let directory : SameDirectory (doubled_within (made_in_split c) from key) b = rw end (rolls_directory r) in
    record {
      directory = directory;
      unnamed = named_same (doubled_within (made_in_split c) from key) b directory c.new
          ∙ found_unnamed from key c.new (made_in_split c) (splittable_here a key value allowance ok c) (free_below from c.new c.splits.free).1;
      words = end;
    }

-- ---- Behind the last split

-- Where a put does not split, it stores in segments alone.
NoSplit : (key : ℕ) → List ℕ → Plan Said → Type 0
NoSplit key a p = ((n : ℕ) → Splits a key n → ⊥) → Every (λ s. Inside (max_depth a) (segments a) s.at) p.due

no_split : (key value : ℕ) → Cases key value (NoSplit key)
unfolding NoSplit key_segment
no_split key value =
    record {
      when_refused = λ a r e alone. Prim.tt;
      when_found = λ a j p c alone.
          let h : j < 64 = window_lt key j (hit_window a (key_segment a key) key j (choice_found a key j c)) in
          (value_inside (max_depth a) (segments a) (segment_of (key_entry a key)) j p.segment_below h, Prim.tt);
      when_into = λ a j p c alone.
          let h : j < 64 = window_lt key j (choice_into a key j c).in_window in (
            value_inside (max_depth a) (segments a) (segment_of (key_entry a key)) j p.segment_below h,
            (key_inside (max_depth a) (segments a) (segment_of (key_entry a key)) j p.segment_below h, Prim.tt),
          );
      when_deep = λ a p c d alone. Prim.tt;
      when_none = λ a p c d f alone. Prim.tt;
      when_split = λ a n p c f s rest alone. absurd (alone n (record { window_full = c; not_deepest = s.local_room; free = f }));
    }

module _ (a : List ℕ) (key value : ℕ) (ok : put_tests a key ≡ none) (alone : (n : ℕ) → Splits a key n → ⊥) where
  abbrev due : List Store
  due = (put a key value).due

  ok_here : Passed a key
  ok_here = passed a key ok

  last_front : (m x : ℕ) → x < 2 ^ suc (depth a) → word (exec due m a) x ≡ word a x
  unfolding NoSplit
  last_front m x h =
      exec_elsewhere (Inside (max_depth a) (segments a)) due m a x (put_induction key value (NoSplit key) (no_split key value) a alone)
      (λ w. omega (arith, w.behind, directory_low ok_here.valid))

  -- Mending leaves it as it is.
  last_rolls : (m : ℕ) → Rolls a (exec due m a) (exec due m a)
  last_rolls m =
      front_rolls a (exec due m a) ok_here.valid (consistent_blocks a (depth a) (segments a) (tests_consistent a key ok_here.tests).0 (tests_consistent a key ok_here.tests).1)
      (length_exec due m a) (last_front m)

behind_rolls : (a : List ℕ) (key value allowance : ℕ) → put_tests a key ≡ none → (c : CutBehind a key allowance)
    → Rolls (behind_splits key c.finished a) (left a key value allowance) (left a key value allowance)
behind_rolls a key value allowance ok c =
    let x : List ℕ = behind_splits key c.finished a in
    let k : ℕ = allowance - split_stores key c.finished a in
    rw (goes_on key value c.finished a ok c.made allowance c.from, left_exec x key value k)
    (last_rolls x key value (tests_behind key c.finished a ok c.made) c.no_more k)

pub mending_keeps_splits : MendingKeepsSplits
mending_keeps_splits a key value allowance consistent ok c b m =
    let r = behind_rolls a key value allowance ok c in
    record { directory = rw (rolls_to r m) (rolls_directory r); words = rolls_to r m }

-- ---- Every cut

-- A put is cut in a split or behind all, whatever its allowance.
Placed : (key : ℕ) → List ℕ → Plan Said → Type 0
Placed key a p = put_tests a key ≡ none → (m : ℕ) → CutInSplit a key m ⊎ CutBehind a key m

-- It does not split.
here : {a : List ℕ} {key : ℕ} → ((n : ℕ) → Splits a key n → ⊥) → (m : ℕ) → CutInSplit a key m ⊎ CutBehind a key m
here no_more m = inr (record { finished = []; made = Prim.tt; no_more = no_more; from = omega arith })

-- It splits, and is cut there or further on.
further : (a : List ℕ) (key n : ℕ) → Splits a key n
    → ((m : ℕ) → CutInSplit (apply (splitting a key n) a) key m ⊎ CutBehind (apply (splitting a key n) a) key m)
    → (m : ℕ) → CutInSplit a key m ⊎ CutBehind a key m
further a key n s rest m =
    let l : ℕ = length (splitting a key n) in
    by_less m (length (splitting a key n))
    (λ t. inl (record { finished = []; new = n; made = Prim.tt; splits = s; from = omega arith; to = omega (arith, t) }))
    (λ past.
    ⊎_elim
    (λ (c : CutInSplit (apply (splitting a key n) a) key (m - length (splitting a key n))).
    inl
    (record {
      finished = n ∷ c.finished;
      new = c.new;
      made = (s, c.made);
      splits = c.splits;
      from = omega (arith, c.from);
      to = omega (arith, c.to);
    }))
    (λ (c : CutBehind (apply (splitting a key n) a) key (m - length (splitting a key n))).
    inr (record { finished = n ∷ c.finished; made = (s, c.made); no_more = c.no_more; from = omega (arith, c.from) }))
    (rest (m - length (splitting a key n))))

placed : (key value : ℕ) → Cases key value (Placed key)
unfolding Placed
placed key value =
    record {
      when_refused = λ a r e ok m. absurd (some_none r (sym e ∙ ok));
      when_found = λ a j p c ok. here (λ n s. some_none j (sym (choice_found a key j c) ∙ (choice_full a key s.window_full).missing));
      when_into = λ a j p c ok.
          let i = choice_into a key j c in
          here (λ n s. true≢false (sym ((choice_full a key s.window_full).all_live j i.in_window) ∙ i.not_live));
      when_deep = λ a p c d ok. here (λ n s. omega (arith, s.not_deepest));
      when_none = λ a p c d f ok. here (λ n s. some_none n (sym s.free ∙ f));
      when_split = λ a n p c f s rest ok.
          further a key n (record { window_full = c; not_deepest = s.local_room; free = f }) (rest (tests_again a key n p s));
    }

pub cut_somewhere : CutSomewhere
unfolding Placed
cut_somewhere a key m ok = put_induction key 0 (Placed key) (placed key 0) a ok m

-- A mend with enough stores is done.
pub cut_put_mends : CutPutMends
cut_put_mends a key value allowance n consistent ok enough =
    ⊎_elim
    (λ (c : CutInSplit a key allowance). rolls_done (cut_rolls a key value allowance ok c) n enough)
    (λ (c : CutBehind a key allowance). rolls_done (behind_rolls a key value allowance ok c) n enough)
    (cut_somewhere a key allowance ok)
