-- Mending finishes a merge once its first entry is stored, before that leaves it undone, and can be done: on every array with a consistent
-- directory.
use mathlib.Core.Path.{◌≡◌, sym, ap, ◌∙◌}
use mathlib.Core.List.{List, ◌++◌}
use mathlib.Core.Option.{none}
use Prim.Native.Nat.{ℕ, suc, ◌-◌, ◌^◌, ◌≤◌, ◌<◌}
use native.Mathlib.Nat.{le_refl}
use native.Mathlib.Omega.{arith}
use lib.ListN.{length}
use lib.Pow.{pow_pos}
use Rattle.stores.specs.Store.{word, apply, exec}
use Rattle.stores.proofs.Tests.{by_less}
use Rattle.stores.proofs.Stores.{apply_append, length_apply, length_exec, exec_all}
use Rattle.stores.proofs.Prefixes.{exec_elsewhere, apply_elsewhere}
use Rattle.replies.proofs.Outcomes.{changed_after, tested_none}
use Rattle.index_rules.specs.declared.Call.TheVariants.{Merge}
use Rattle.index_rules.specs.Layout.{depth_in, segments_in, depth, max_depth, segments, entry_address, entry_at, segment_of}
use Rattle.index_rules.specs.Keys.{index}
use Rattle.index_rules.specs.Get.{key_entry}
use Rattle.index_rules.specs.Merge.{joined_depth, joined_bits, left_entry, right_segment, merge_tests, slots_merged, entries_joined, merging_of, merge}
use Rattle.index_rules.specs.Step.{effect, step, outcome_of}
use Rattle.index_laws.specs.Finished.{slot_stores, MendingFinishes, MendingLeaves, MendingIsDone}
use Rattle.index_laws.proofs.Words.{small, same_header, Within, within_inside, entry_to, directory_low, directory_fits}
use Rattle.index_laws.proofs.Scan.{consistent_valid, consistent_agree}
use Rattle.index_laws.proofs.Blocks.{Blocks, consistent_blocks}
use Rattle.index_laws.proofs.Doubling.{DirectoryWord}
use Rattle.index_laws.proofs.Updating.{same_start}
use Rattle.index_laws.proofs.Mended.{exec_front, exec_behind, not_word_0, Settled, Toward, toward_itself, mended_to, enough_mends}
use Rattle.index_laws.proofs.Joining.{joined_directory, joined_depth_holds, joined_blocks, begins_joined, all_joined}
use Rattle.index_laws.proofs.Merge.{MergePassed, merge_passed, slots_within, passed_halves, passed_left, passed_right, entries_words}

-- ---- A merge that passes its tests, on an array with a consistent directory

module _ {a : List ℕ} {key : ℕ} (before : Blocks (depth a) (segments a) (entry_at a (depth a))) (p : MergePassed a key) where
  abbrev g : ℕ
  g = depth a

  abbrev f : ℕ → ℕ
  f = entry_at a (depth a)

  abbrev i : ℕ
  i = index key (depth a)

  abbrev e : ℕ
  e = key_entry a key

  abbrev M : ℕ
  M = joined_depth (key_entry a key)

  abbrev left : ℕ
  left = segment_of (left_entry a (index key (depth a)) (key_entry a key))

  -- The directory that the whole merge leaves.
  abbrev joined : ℕ → ℕ
  joined = joined_directory g M f i left

  fits : segments a < 2 ^ 32
  fits = (small p.tests.valid).segments_32

  dir : Blocks g (segments a) joined
  dir = joined_blocks (passed_halves p before) fits (passed_left p) (passed_right p) before

  room : 2 ^ suc g ≤ length a
  room = directory_fits p.tests.valid

  -- The stores of the slots leave word 0 and the directory.
  slots_front : (n x : ℕ) → x < 2 ^ suc g → word (exec (slots_merged a i e) n a) x ≡ word a x
  slots_front n x h =
      exec_elsewhere (Within (max_depth a) left) (slots_merged a i e) n a x
      (slots_within a (max_depth a) left (right_segment a i e) M (joined_bits a i e))
      (λ w. omega (arith, directory_low p.tests.valid, (within_inside (max_depth a) (segments a) left x (passed_left p) w).behind))

  slots_entries : (n j : ℕ) → j < 2 ^ g → entry_at (exec (slots_merged a i e) n a) g j ≡ f j
  slots_entries n j h = slots_front n (entry_address g j) (entry_to g j h)

  -- The array between slots and entries, and what the whole merge leaves.
  abbrev between : List ℕ
  between = exec (slots_merged a i e) (length (slots_merged a i e)) a

  abbrev whole : List ℕ
  whole = apply (entries_joined a i e) between

  entry_there : (j : ℕ) → j < 2 ^ g → entry_address g j < length between
  entry_there j h = rw (length_exec (slots_merged a i e) (length (slots_merged a i e)) a) (omega (arith, entry_to g j h, room))

  whole_elsewhere : (y : ℕ) → (DirectoryWord g y → ⊥) → word whole y ≡ word between y
  whole_elsewhere y other = apply_elsewhere (DirectoryWord g) (entries_joined a i e) between y (entries_words p) other

  -- Word 0 stays as it is.
  slots_word_0 : (n : ℕ) → word (exec (slots_merged a i e) n a) 0 ≡ word a 0
  slots_word_0 n = slots_front n 0 (pow_pos (suc g))

  whole_word_0 : word whole 0 ≡ word a 0
  whole_word_0 = whole_elsewhere 0 (not_word_0 g) ∙ slots_word_0 (length (slots_merged a i e))

  whole_length : length whole ≡ length a
  whole_length = length_apply (entries_joined a i e) between ∙ length_exec (slots_merged a i e) (length (slots_merged a i e)) a

  whole_settled : Settled g (segments a) joined whole
  whole_settled =
      record {
        dir = dir;
        entries = λ j h. all_joined g M f i left between j (entry_there j h) (slots_entries (length (slots_merged a i e)) j h);
        deep = ap depth_in whole_word_0;
        room = rw whole_length room;
      }

  -- Some of the entries are stored, at least the first.
  first_stored : (t : ℕ) → 0 < t → Toward g joined whole (exec (entries_joined a i e) t between)
  first_stored t one =
      record {
        length_same = length_exec (entries_joined a i e) t between ∙ sym (length_apply (entries_joined a i e) between);
        begins = λ j h b.
            begins_joined g M f i left between t j (entry_there j h) (slots_entries (length (slots_merged a i e)) j h) one
            (λ q. sym (same_start g M i j q) ∙ rw (joined_depth_holds (passed_halves p before) fits (passed_left p) j q) at b);
        elsewhere = λ y other.
            exec_elsewhere (DirectoryWord g) (entries_joined a i e) t between y (entries_words p) other ∙ sym (whole_elsewhere y other);
      }

  -- Slots alone are stored: all entries are as they were.
  slots_settled : (n : ℕ) → Settled g (segments a) f (exec (slots_merged a i e) n a)
  slots_settled n =
      record {
        dir = before;
        entries = slots_entries n;
        deep = ap depth_in (slots_word_0 n);
        room = rw (length_exec (slots_merged a i e) n a) room;
      }

  -- ---- The merge under an allowance

  merge_is : merge_tests a key ≡ none → (merge a key).due ≡ merging_of a i e
  unfolding merge
  merge_is t = rw (t, tested_none)

  merge_left : merge_tests a key ≡ none → apply (merge a key).due a ≡ whole
  unfolding merging_of
  merge_left t =
      rw (merge_is t, apply_append (slots_merged a i e) (entries_joined a i e) a)
      (ap (apply (entries_joined a i e)) (sym (exec_all (slots_merged a i e) (length (slots_merged a i e)) a (le_refl _))))

  merge_cut : merge_tests a key ≡ none → (n : ℕ) → (outcome_of a (Merge key n)).after ≡ exec (slots_merged a i e ++ entries_joined a i e) n a
  unfolding effect step merging_of
  merge_cut t n = changed_after n (merge a key) a ∙ rw (merge_is t)

  past_slots : merge_tests a key ≡ none → (n : ℕ) → length (slots_merged a i e) < n
      → (outcome_of a (Merge key n)).after ≡ exec (entries_joined a i e) (n - length (slots_merged a i e)) between
  past_slots t n h =
      merge_cut t n ∙ exec_behind (slots_merged a i e) (entries_joined a i e) n a (omega arith)
      ∙ ap (exec (entries_joined a i e) (n - length (slots_merged a i e))) (sym (exec_all (slots_merged a i e) (length (slots_merged a i e)) a (le_refl _)))

  within_slots : merge_tests a key ≡ none → (n : ℕ) → n ≤ length (slots_merged a i e) → (outcome_of a (Merge key n)).after ≡ exec (slots_merged a i e) n a
  within_slots t n h = merge_cut t n ∙ exec_front (slots_merged a i e) (entries_joined a i e) n a h

pub mending_finishes : MendingFinishes
mending_finishes a key n c t stored b m =
    let p = merge_passed a key t in
    let d = consistent_blocks a (depth a) (segments a) (consistent_valid a _ _ c) (consistent_agree a _ _ c) in
    mended_to (whole_settled d p) (first_stored d p (n - slot_stores a key) (omega arith)) (rw (past_slots d p t n stored) at m) ∙ sym (merge_left d p t)

pub mending_leaves : MendingLeaves
mending_leaves a key n c t early b m =
    let p = merge_passed a key t in
    let d = consistent_blocks a (depth a) (segments a) (consistent_valid a _ _ c) (consistent_agree a _ _ c) in
    let s = slots_settled d p n in
    mended_to s (toward_itself s) (rw (within_slots d p t n early) at m) ∙ sym (within_slots d p t n early)

pub mending_is_done : MendingIsDone
mending_is_done a key n k c t enough =
    let p = merge_passed a key t in
    let d = consistent_blocks a (depth a) (segments a) (consistent_valid a _ _ c) (consistent_agree a _ _ c) in
    let v = p.tests.valid in
    by_less (slot_stores a key) n
    (λ stored.
    rw (past_slots d p t n stored)
    (enough_mends (whole_settled d p) (first_stored d p (n - slot_stores a key) (omega arith))
    (same_header a _ (whole_word_0 d p) (whole_length d p) v) (ap segments_in (whole_word_0 d p)) k enough))
    (λ early.
    let s = slots_settled d p n in
    rw (within_slots d p t n early)
    (enough_mends s (toward_itself s)
    (same_header a _ (slots_word_0 d p n) (length_exec (slots_merged a (index key (depth a)) (key_entry a key)) n a) v) (ap segments_in (slots_word_0 d p n)) k enough))
