-- What a call says, stores and lists depends only on the words that D and S take, and on the array's length.
use mathlib.Core.Path.{◌≡◌, refl, sym, ap, ◌∙◌}
use mathlib.Core.Bool.{true, false, not, ◌&&◌}
use mathlib.Core.List.{List, [], ◌∷◌, ◌++◌}
use mathlib.Core.Option.{Option, none, some}
use Prim.Native.Nat.{ℕ, suc, ◌+◌, ◌/◌, ◌^◌, ◌≤◌, ◌<◌}
use native.Mathlib.Omega.{arith}
use borrow.Author.Tests.{eqb-true, not-true, ltb-true}
use lib.Dec.{ltb, eqb}
use lib.ListN.{length, take}
use Rattle.stores.specs.Lists.{pick, each}
use Rattle.stores.specs.Store.{Store, store, apply, exec}
use Rattle.stores.specs.Plan.{cut}
use Rattle.stores.specs.Written.{at_front}
use Rattle.stores.proofs.Tests.{by_test, and_left}
use Rattle.stores.proofs.Lists.{each_same, first_same, any_same}
use Rattle.stores.proofs.Stores.{apply_same}
use Rattle.replies.specs.declared.Refusal.{Refusal}
use Rattle.replies.specs.declared.Refusal.TheVariants.{NoStore, NoKey, Broken, Unmended, NoBuddy, BothLive, NoLeader}
use Rattle.index_rules.specs.declared.Call.{Call}
use Rattle.index_rules.specs.declared.Call.TheVariants.{Format, Get, Put, Remove, Merge, Mend, List as ListCall, ListBlock}
use Rattle.index_rules.specs.Layout.{header, depth, max_depth, segments, words_for, valid_header, entry_address, entry_at, segment_of, local_depth, segment_address, key_at}
use Rattle.index_rules.specs.Keys.{index, block_bits}
use Rattle.index_rules.specs.Scan.{in_range, leader, leaders_valid, entries_agree}
use Rattle.index_rules.specs.Slots.{hit, Choice, found, into, full, named, free_segment}
use Rattle.replies.specs.Replies.{Said, changed}
use Rattle.replies.specs.Writing.{nothing}
use Rattle.index_rules.specs.Format.{format_tests, format}
use Rattle.index_rules.specs.Get.{key_entry, key_segment, key_tests, entry_tests, get_tests, value_at_hit, get}
use Rattle.index_rules.specs.Split.{doubling, halving_of, halving, doubling_for, splitting}
use Rattle.index_rules.specs.Put.{directory_tests, put_tests, key_choice, put}
use Rattle.index_rules.specs.Remove.{remove_tests, cleared_at, remove}
use Rattle.index_rules.specs.Mend.{mend_tests, mend_entry, mending, mend}
use Rattle.index_rules.specs.Listing.{block_records, records, listing_tests, list_tests, list}
use Rattle.index_rules.specs.ListBlock.{leads, records_led, following_led, list_block_tests, list_block}
use Rattle.index_rules.specs.Step.{Effect, changes, answers, effect, carried_out, words_by, step}
use Rattle.index_laws.proofs.Words.{ValidHeader, valid_header_holds}
use Rattle.index_laws.proofs.Keys.{index_lt}
use Rattle.index_laws.proofs.Scan.{range_segment, valid_at_segment}
use Rattle.index_laws.proofs.Put.{unless_none, Passed, passed, put_refused, put_found, put_into, put_too_deep, put_no_segment, put_again, Cases, put_induction}
use Rattle.index_laws.proofs.Halving.{key_updates}
use Rattle.index_laws.proofs.Split.{Ready, ready, Splittable, AfterSplit, after_split}
use Rattle.index_laws.proofs.Agree.{unless_same, tested_same, replied_same, writing_same, pick_same, agree_after, front_key_entry, front_key_segment, agree_front, segment_ends, word_0_same, header_same, key_same, value_same, hit_local, choose_local, value_hit_same, copying_same, live_records_same, entry_same, leader_local, leaders_same, entries_same, mend_entry_same}
use Rattle.index_laws.proofs.BlockRecords.{leader_segment, leads_at}
use Rattle.index_laws.proofs.Listing.{listing_passed, block_passed}
use Rattle.index_laws.proofs.Merge.{HalvesPlaced, consistent_placed, joined_room, left_below, right_below, merge_passed}
use Rattle.index_laws.proofs.Joining.{buddy_inside}
use Rattle.index_laws.proofs.Blocks.{consistent_blocks}
use Rattle.index_rules.specs.Merge.{buddy_start, joined_depth, joined_bits, buddy_entry, left_entry, right_entry, left_segment, right_segment, live_left, live_right, both_live, merge_slot, merging_slots, has_buddy, both_live_at, halves_tests, merge_tests, slots_merged, merging_of, merge}
use Rattle.index_laws.specs.Limits.{Sizes, own_sizes, Agree, AlikeFor, Alike, SameOutcome}
use Rattle.index_laws.proofs.Doubling.{entry_of_key}

-- ---- What a call reads, where word 0 is valid

module _ {a b : List ℕ} (s : Agree a b) (v : ValidHeader a) where
  pub key_entry_same : (key : ℕ) → key_entry a key ≡ key_entry b key
  key_entry_same = front_key_entry (agree_front s) v.present

  key_segment_same : (key : ℕ) → key_segment a key ≡ key_segment b key
  key_segment_same = front_key_segment (agree_front s) v.present

  named_same : (n : ℕ) → named a n ≡ named b n
  unfolding named
  named_same n =
      any_same (λ i. eqb (segment_of (entry_at a (depth a) i)) n) (λ i. eqb (segment_of (entry_at b (depth a) i)) n) (2 ^ depth a)
      (λ i h. rw (entry_same s (depth a) v.present i h))
      ∙ rw (word_0_same s)

  free_same : free_segment a ≡ free_segment b
  unfolding free_segment
  free_same =
      first_same (λ n. not (named a n)) (λ n. not (named b n)) (each (λ n. n ∷ []) (segments a)) (λ n m. rw (named_same n))
      ∙ rw (word_0_same s)

  -- The tests of the directory, before others.
  directory_same : {o p : Option Refusal} → (leaders_valid a (depth a) (segments a) ≡ true → entries_agree a (depth a) ≡ true → o ≡ p)
      → directory_tests a o ≡ directory_tests b p
  unfolding directory_tests
  directory_same h =
      unless_same Broken (leaders_same s (depth a) v.present (segments a) ∙ rw (word_0_same s))
      (λ k. unless_same Unmended (entries_same s (depth a) v.present ∙ rw (word_0_same s)) (h k))

  doubling_same : doubling a ≡ doubling b
  unfolding doubling
  doubling_same =
      rw (← word_0_same s)
      (ap (λ (l : List Store). l ++ (store 0 (header (suc (depth a)) (max_depth a) (segments a)) ∷ []))
      (each_same (λ e. store (entry_address (suc (depth a)) e) (entry_at a (depth a) (e / 2)) ∷ [])
      (λ e. store (entry_address (suc (depth a)) e) (entry_at b (depth a) (e / 2)) ∷ []) (2 ^ suc (depth a))
      (λ e h. rw (entry_same s (depth a) v.present (e / 2) (omega arith)))))

  doubling_for_same : (key : ℕ) → doubling_for a key ≡ doubling_for b key
  unfolding doubling_for
  doubling_for_same key = rw (key_entry_same key, word_0_same s, doubling_same)

  mending_same : mending a ≡ mending b
  unfolding mending
  mending_same =
      each_same (mend_entry a (depth a)) (mend_entry b (depth a)) (2 ^ depth a) (mend_entry_same s (depth a) v.present)
      ∙ rw (word_0_same s)

  block_records_same : (i e : ℕ) → segment_of e < segments a → block_records a i e ≡ block_records b i e
  unfolding block_records
  block_records_same i e h =
      live_records_same s (segment_address (max_depth a) (segment_of e)) (segment_ends (max_depth a) (segments a) (segment_of e) h)
      (local_depth e) (block_bits (depth a) (local_depth e) i)
      ∙ rw (word_0_same s)

  -- The same live records, where every leader is valid.
  pub records_local : leaders_valid a (depth a) (segments a) ≡ true → records a ≡ records b
  unfolding records
  records_local k =
      let g : ℕ = depth a in
      each_same (λ i. pick (eqb (leader a g i) i) (block_records a i (entry_at a g i)) [])
      (λ i. pick (eqb (leader b g i) i) (block_records b i (entry_at b g i)) []) (2 ^ g)
      (λ i h.
      rw (← leader_local s g v.present i h, ← entry_same s g v.present i h)
      (pick_same (eqb (leader a g i) i) (block_records a i (entry_at a g i)) (block_records b i (entry_at a g i)) []
      (λ t.
      block_records_same i (entry_at a g i)
      (rw (eqb-true (leader a g i) i t) at (valid_at_segment a g (segments a) i k h)))))
      ∙ rw (word_0_same s)

  -- Where the segment that the key's entry names is below S.
  module _ (key : ℕ) (below : segment_of (key_entry a key) < segments a) where
    key_segment_ends : key_segment a key + 128 ≤ words_for (max_depth a) (segments a)
    unfolding key_segment
    key_segment_ends = segment_ends (max_depth a) (segments a) (segment_of (key_entry a key)) below

    choice_same : key_choice a key ≡ key_choice b key
    unfolding key_choice
    choice_same =
        choose_local s (key_segment a key) key_segment_ends (local_depth (key_entry a key))
        (block_bits (depth a) (local_depth (key_entry a key)) (index key (depth a))) key
        ∙ rw (key_segment_same key, key_entry_same key, word_0_same s)

    cleared_same : cleared_at (key_segment a key) (hit a (key_segment a key) key) ≡ cleared_at (key_segment b key) (hit b (key_segment b key) key)
    cleared_same = rw (hit_local s (key_segment a key) key_segment_ends key, key_segment_same key)

    found_same : value_at_hit a (key_segment a key) (hit a (key_segment a key) key) ≡ value_at_hit b (key_segment b key) (hit b (key_segment b key) key)
    found_same = value_hit_same s (key_segment a key) key_segment_ends key ∙ rw (key_segment_same key)

    halving_same : (n : ℕ) → halving a key n ≡ halving b key n
    unfolding halving halving_of
    halving_same n =
        ap (λ (l : List Store). l ++ key_updates a key n)
        (copying_same s (segment_address (max_depth a) (segment_of (key_entry a key)))
        (segment_ends (max_depth a) (segments a) (segment_of (key_entry a key)) below)
        (segment_address (max_depth a) n) (local_depth (key_entry a key))
        (block_bits (depth a) (local_depth (key_entry a key)) (index key (depth a))))
        ∙ rw (key_entry_same key, word_0_same s)

splitting_same : {a b : List ℕ} → Agree a b → (key n : ℕ) → Splittable a key n → splitting a key n ≡ splitting b key n
unfolding splitting
splitting_same {a} {b} s key n p =
    let ss : List Store = doubling_for a key in
    let r : Ready a key (apply ss a) = ready a key p.valid p.local_low p.local_room in
    let t : Agree (apply ss a) (apply ss b) = agree_after a b ss s r.max_depth_kept r.segments_kept in
    rw (← doubling_for_same s p.valid key)
    (ap (λ (l : List Store). ss ++ l)
    (halving_same t r.valid key (rw (r.key_entry_holds, r.segments_kept) p.segment_below) n))

-- ---- The calls

-- A format looks at the length alone.
pub format_local : (a b : List ℕ) (D S : ℕ) → length a ≡ length b → format a D S ≡ format b D S
unfolding format format_tests
format_local a b D S e = rw e

-- The tests of put, and of remove, which are the same.
put_tests_same : {a b : List ℕ} → Agree a b → (key : ℕ) → put_tests a key ≡ put_tests b key
unfolding put_tests key_tests
put_tests_same {a} {b} s key =
    unless_same NoStore (header_same s)
    (λ h. unless_same NoKey refl (λ k. directory_same s (valid_header_holds a h) (λ k t. refl)))

pub get_local : {a b : List ℕ} → Agree a b → (key : ℕ) → get a key ≡ get b key
unfolding get entry_tests get_tests key_tests
get_local {a} {b} s key =
    replied_same
    (unless_same NoStore (header_same s)
    (λ h. unless_same NoKey refl (λ k. unless_same Broken (rw (key_entry_same s (valid_header_holds a h) key, word_0_same s)) (λ l. refl))))
    (λ e.
    let t₁ = unless_none (valid_header a) NoStore _ e in
    let t₂ = unless_none (not (eqb key 0)) NoKey _ t₁.1 in
    let t₃ = unless_none (in_range (depth a) (segments a) (key_entry a key)) Broken none t₂.1 in
    found_same s (valid_header_holds a t₁.0) key (range_segment (depth a) (segments a) (key_entry a key) t₃.0))

pub remove_local : {a b : List ℕ} → Agree a b → (key : ℕ) → remove a key ≡ remove b key
unfolding remove remove_tests put_tests
remove_local {a} {b} s key =
    tested_same (put_tests_same s key)
    (λ e. let p : Passed a key = passed a key e in cleared_same s p.valid key p.segment_below)

pub mend_local : {a b : List ℕ} → Agree a b → mend a ≡ mend b
unfolding mend mend_tests
mend_local {a} {b} s =
    tested_same
    (unless_same NoStore (header_same s)
    (λ h. unless_same Broken (leaders_same s (depth a) (valid_header_holds a h).present (segments a) ∙ rw (word_0_same s)) (λ k. refl)))
    (λ e. rw (mending_same s (valid_header_holds a (unless_none (valid_header a) NoStore _ e).0)))

-- The tests in front of a listing, before others.
listing_same : {a b : List ℕ} → Agree a b → {o p : Option Refusal}
    → (valid_header a ≡ true → leaders_valid a (depth a) (segments a) ≡ true → entries_agree a (depth a) ≡ true → o ≡ p)
    → listing_tests a o ≡ listing_tests b p
unfolding listing_tests
listing_same {a} {b} s h = unless_same NoStore (header_same s) (λ v. directory_same s (valid_header_holds a v) (h v))

pub list_local : {a b : List ℕ} → Agree a b → (room : ℕ) → list a room ≡ list b room
unfolding list list_tests
list_local {a} {b} s room =
    writing_same
    (listing_same s (λ h k t. rw (records_local s (valid_header_holds a h) k)))
    (λ e. let p = listing_passed a _ e in rw (records_local s (valid_header_holds a p.valid) p.leaders))

-- The block that an index leads.
module _ {a b : List ℕ} (s : Agree a b) (v : ValidHeader a) (i : ℕ) where
  leads_same : leads a i ≡ leads b i
  unfolding leads
  leads_same =
      by_test (ltb i (2 ^ depth a))
      (λ t. rw (t, leader_local s (depth a) v.present i (ltb-true i (2 ^ depth a) t), ← word_0_same s, t))
      (λ t. rw (t, ← word_0_same s, t))

  module _ (k : leaders_valid a (depth a) (segments a) ≡ true) (t : leads a i ≡ true) where
    entry_led_same : entry_at a (depth a) i ≡ entry_at b (depth b) i
    entry_led_same = entry_same s (depth a) v.present i (leads_at a i t).below ∙ rw (word_0_same s)

    led_same : records_led a i ≡ records_led b i
    led_same =
        let l = leads_at a i t in
        block_records_same s v i (entry_at a (depth a) i) (leader_segment a k i l.below l.own) ∙ rw entry_led_same

    following_same_holds : following_led a i ≡ following_led b i
    following_same_holds = rw (entry_led_same, word_0_same s)

pub list_block_local : {a b : List ℕ} → Agree a b → (i room : ℕ) → list_block a i room ≡ list_block b i room
unfolding list_block list_block_tests
list_block_local {a} {b} s i room =
    writing_same
    (listing_same s
    (λ h k e.
    let v = valid_header_holds a h in
    unless_same NoLeader (leads_same s v i) (λ t. rw (led_same s v i k t))))
    (λ e.
    let p = block_passed a i room e in
    let v = valid_header_holds a p.valid in
    rw (led_same s v i p.leaders p.leader, following_same_holds s v i p.leaders p.leader))

-- ---- Put

pub put_local : {a b : List ℕ} → Agree a b → (key value : ℕ) → put a key value ≡ put b key value
put_local {a} {b} s key value = put_induction key value (λ a p. (b : List ℕ) → Agree a b → p ≡ put b key value) alike a b s
  where
    -- The tests pass on the other array too, and the choice is the same.
    tests : (a b : List ℕ) → Agree a b → Passed a key → put_tests b key ≡ none
    tests a b s p = sym (put_tests_same s key) ∙ p.tests

    choice : (a b : List ℕ) → Agree a b → Passed a key → (c : Choice) → key_choice a key ≡ c → key_choice b key ≡ c
    choice a b s p c e = sym (choice_same s p.valid key p.segment_below) ∙ e

    room_same : (a b : List ℕ) → Agree a b → Passed a key → local_depth (key_entry a key) < max_depth a → local_depth (key_entry b key) < max_depth b
    room_same a b s p r = rw (key_entry_same s p.valid key, word_0_same s) at r

    alike : Cases key value (λ a p. (b : List ℕ) → Agree a b → p ≡ put b key value)
    alike =
        record {
          when_refused = λ a r e b s. sym (put_refused b key value r (sym (put_tests_same s key) ∙ e));
          when_found = λ a j p c b s.
              rw (put_found b key value (tests a b s p) j (choice a b s p (found j) c), ← key_segment_same s p.valid key);
          when_into = λ a j p c b s.
              rw (put_into b key value (tests a b s p) j (choice a b s p (into j) c), ← key_segment_same s p.valid key);
          when_deep = λ a p c d b s.
              sym (put_too_deep b key value (tests a b s p) (choice a b s p full c) (rw (key_entry_same s p.valid key, word_0_same s) at d));
          when_none = λ a p c r f b s.
              sym
              (put_no_segment b key value (tests a b s p) (choice a b s p full c) (room_same a b s p r) (sym (free_same s p.valid) ∙ f));
          when_split = λ a n p c f q behind b s.
              let k : AfterSplit a key n (apply (splitting a key n) a) = after_split a key n q in
              let again : put (apply (splitting a key n) a) key value ≡ put (apply (splitting a key n) b) key value =
              behind (apply (splitting a key n) b) (agree_after a b (splitting a key n) s k.max_depth_kept k.segments_kept) in
              rw (
                put_again b key value (tests a b s p) (choice a b s p full c) (room_same a b s p q.local_room) n (sym (free_same s p.valid) ∙ f),
                ← splitting_same s key n q,
                again,
              );
        }

-- ---- Merge

-- The two halves, of an entry e at index i.
module _ {a b : List ℕ} (s : Agree a b) (v : ValidHeader a) (i e : ℕ) (h : HalvesPlaced a i e) (below : i < 2 ^ depth a) where
  buddy_entry_same : eqb (local_depth e) 0 ≡ false → buddy_entry a i e ≡ buddy_entry b i e
  unfolding buddy_entry
  buddy_entry_same deep =
      entry_same s (depth a) v.present (buddy_start (depth a) (joined_depth e) i)
      (buddy_inside (depth a) (joined_depth e) i (joined_room h deep) below)
      ∙ rw (word_0_same s)

  has_buddy_same : has_buddy a i e ≡ has_buddy b i e
  unfolding has_buddy
  has_buddy_same = by_test (eqb (local_depth e) 0) (λ t. rw t) (λ t. rw (buddy_entry_same t))

  module _ (buddy : has_buddy a i e ≡ true) where
    deep_with_buddy : eqb (local_depth e) 0 ≡ false
    unfolding has_buddy
    deep_with_buddy = not-true (eqb (local_depth e) 0) (and_left (not (eqb (local_depth e) 0)) (eqb (local_depth (buddy_entry a i e)) (local_depth e)) buddy)

    left_same : left_entry a i e ≡ left_entry b i e
    unfolding left_entry
    left_same = rw (buddy_entry_same deep_with_buddy, word_0_same s)

    right_same : right_entry a i e ≡ right_entry b i e
    unfolding right_entry
    right_same = rw (buddy_entry_same deep_with_buddy, word_0_same s)

    left_ends : left_segment a i e + 128 ≤ words_for (max_depth a) (segments a)
    left_ends = segment_ends (max_depth a) (segments a) (segment_of (left_entry a i e)) (left_below h buddy)

    right_ends : right_segment a i e + 128 ≤ words_for (max_depth a) (segments a)
    right_ends = segment_ends (max_depth a) (segments a) (segment_of (right_entry a i e)) (right_below h buddy)

    both_live_same : both_live_at a i e ≡ both_live_at b i e
    unfolding both_live
    both_live_same =
        let M : ℕ = joined_depth e in
        let bits : ℕ = joined_bits a i e in
        any_same
        (λ j. live_left M bits (key_at a (left_segment a i e) j) && live_right M bits (key_at a (right_segment a i e) j))
        (λ j. live_left M bits (key_at b (left_segment a i e) j) && live_right M bits (key_at b (right_segment a i e) j))
        64
        (λ j h. rw (key_same s (left_segment a i e) left_ends j h, key_same s (right_segment a i e) right_ends j h))
        ∙ rw (left_same, right_same, word_0_same s)

    slots_same : slots_merged a i e ≡ slots_merged b i e
    unfolding merging_slots merge_slot
    slots_same =
        each_same (merge_slot a (left_segment a i e) a (right_segment a i e) (joined_depth e) (joined_bits a i e))
        (merge_slot b (left_segment a i e) b (right_segment a i e) (joined_depth e) (joined_bits a i e)) 64
        (λ j h.
        rw (
          key_same s (left_segment a i e) left_ends j h,
          key_same s (right_segment a i e) right_ends j h,
          value_same s (right_segment a i e) right_ends j h,
        ))
        ∙ rw (left_same, right_same, word_0_same s)

    merging_same : merging_of a i e ≡ merging_of b i e
    unfolding merging_of
    merging_same = rw (slots_same, left_same, word_0_same s)

  halves_tests_same : halves_tests a i e ≡ halves_tests b i e
  unfolding halves_tests
  halves_tests_same =
      unless_same NoBuddy has_buddy_same (λ t. unless_same BothLive (ap not (both_live_same t)) (λ u. refl))

merge_tests_same : {a b : List ℕ} → Agree a b → (key : ℕ) → merge_tests a key ≡ merge_tests b key
unfolding merge_tests key_tests
merge_tests_same {a} {b} s key =
    unless_same NoStore (header_same s)
    (λ h.
    let v = valid_header_holds a h in
    unless_same NoKey refl
    (λ k.
    directory_same s v
    (λ l t.
    halves_tests_same s v (index key (depth a)) (key_entry a key)
    (consistent_placed a (index key (depth a)) (key_entry a key) (consistent_blocks a (depth a) (segments a) l t) (index_lt key (depth a))
    (entry_of_key a key (depth a) refl))
    (index_lt key (depth a))
    ∙ rw (key_entry_same s v key, word_0_same s))))

pub merge_local : {a b : List ℕ} → Agree a b → (key : ℕ) → merge a key ≡ merge b key
unfolding merge
merge_local {a} {b} s key =
    tested_same (merge_tests_same s key)
    (λ e.
    let p = merge_passed a key e in
    let v = p.tests.valid in
    rw (
      merging_same s v (index key (depth a)) (key_entry a key) p.placed (index_lt key (depth a)) p.buddy,
      key_entry_same s v key,
      word_0_same s,
    ))

-- ---- Every call

carried_same : (e : Effect) (a b : List ℕ) → length a ≡ length b → SameOutcome a b (carried_out e a) (carried_out e b)
unfolding changed cut exec
carried_same (changes allowance p) a b l =
    record { reply = refl; made = refl; words = λ i h. apply_same (take allowance p.due) a b i l h }
carried_same (answers w) a b l = record { reply = refl; made = refl; words = λ i h. h }

alike_length : (a b : List ℕ) (s : Option Sizes) → AlikeFor a b s → length a ≡ length b
alike_length a b none s = s.length_same
alike_length a b (some d) l = l

-- Every call is to do the same on both arrays, and does.
pub effect_local : (a b : List ℕ) (room : ℕ) (c : Call) → Alike a b c → effect a room c ≡ effect b room c
unfolding effect
effect_local a b room (Format D S allowance) l = ap (changes allowance) (format_local a b D S l)
effect_local a b room (Get key) s = ap (λ (said : Said). answers (nothing said)) (get_local s key)
effect_local a b room (Put key value allowance) s = ap (changes allowance) (put_local s key value)
effect_local a b room (Remove key allowance) s = ap (changes allowance) (remove_local s key)
effect_local a b room (Merge key allowance) s = ap (changes allowance) (merge_local s key)
effect_local a b room (Mend allowance) s = ap (changes allowance) (mend_local s)
effect_local a b room ListCall s = ap answers (list_local s room)
effect_local a b room (ListBlock i) s = ap answers (list_block_local s i room)

pub step_local : (a b l : List ℕ) (c : Call) → Alike a b c → SameOutcome a b (step a l c).outcome (step b l c).outcome
unfolding step
step_local a b l c s =
    rw (effect_local a b (length l) c s) (carried_same (effect b (length l) c) a b (alike_length a b (own_sizes c) s))

-- The list array is left the same.
pub list_array_local : (a b l : List ℕ) (c : Call) → Alike a b c → (step a l c).list ≡ (step b l c).list
unfolding step
list_array_local a b l c s = ap (λ (e : Effect). at_front (words_by e) l) (effect_local a b (length l) c s)
