-- What merge's passed tests say of the two halves, where its stores go, and how many they are.
use mathlib.Core.Path.{◌≡◌, refl, sym, ◌∙◌}
use mathlib.Core.Bool.{Bool, true, false, not, ◌&&◌}
use mathlib.Core.List.{List, [], ◌∷◌}
use mathlib.Core.Option.{Option, none, some}
use Prim.Native.Nat.{ℕ, suc, ◌+◌, ◌^◌, ◌≤◌, ◌<◌}
use native.Mathlib.Omega.{arith}
use borrow.Author.Tests.{eqb-true, eqb-false, ne_eqb, not-true}
use lib.Dec.{eqb}
use lib.ListN.{length, length-append}
use lib.Pow.{pow_mono}
use Rattle.stores.specs.Lists.{pick}
use Rattle.stores.specs.Store.{Store, store, Every}
use Rattle.stores.proofs.Tests.{by_test, and_left, and_right}
use Rattle.stores.proofs.Lists.{some_none, every_append, every_each, every_map, length_each_le}
use Rattle.replies.specs.declared.Refusal.{Refusal}
use Rattle.replies.specs.declared.Refusal.TheVariants.{NoStore, NoKey, Broken, Unmended, NoBuddy, BothLive}
use Rattle.replies.specs.Replies.{done, unless, tested}
use Rattle.index_rules.specs.Layout.{valid_header, depth, max_depth, segments, words_for, entry_at, segment_of, local_depth, segment_address, key_address, value_address}
use Rattle.index_rules.specs.Keys.{index, block_start}
use Rattle.index_rules.specs.Scan.{leaders_valid, entries_agree}
use Rattle.index_rules.specs.Get.{key_entry, key_tests}
use Rattle.index_rules.specs.Put.{directory_tests, put_tests}
use Rattle.index_rules.specs.Merge.{on_right, joined_depth, joined_bits, joined_start, buddy_entry, left_entry, right_entry, left_segment, right_segment, live_left, live_right, merge_record, merge_slot, merging_slots, joining, has_buddy, both_live_at, halves_tests, merge_tests, slots_merged, entries_joined, merging_of, key_buddy, key_both_live, merge}
use Rattle.index_laws.specs.Limits.{MergeBound}
use Rattle.index_laws.proofs.Words.{header_valid, Within, key_within, value_within, within_inside, entry_from, entry_to, directories_below}
use Rattle.index_laws.proofs.Keys.{index_lt, block_end}
use Rattle.index_laws.proofs.Blocks.{Blocks, consistent_blocks}
use Rattle.index_laws.proofs.Doubling.{DirectoryWord, entry_of_key}
use Rattle.index_laws.proofs.Updating.{BlockEntry}
use Rattle.index_laws.proofs.Joining.{TwoHalves, two_halves, buddy_inside, length_joining, joining_block}
use Rattle.index_laws.proofs.Put.{unless_none, Passed, passed_behind, tests_consistent}

-- ---- The two halves, of an entry e at index i that has a buddy

module _ (a : List ℕ) (i e : ℕ) where
  joined_next : eqb (local_depth e) 0 ≡ false → local_depth e ≡ suc (joined_depth e)
  unfolding joined_depth
  joined_next deep = omega (arith, eqb-false (local_depth e) 0 deep)

  module _ (buddy : has_buddy a i e ≡ true) where
    own_depth : local_depth e ≡ suc (joined_depth e)
    unfolding has_buddy
    own_depth =
        joined_next (not-true (eqb (local_depth e) 0) (and_left (not (eqb (local_depth e) 0)) (eqb (local_depth (buddy_entry a i e)) (local_depth e)) buddy))

    buddy_depth : local_depth (buddy_entry a i e) ≡ suc (joined_depth e)
    unfolding has_buddy
    buddy_depth =
        eqb-true (local_depth (buddy_entry a i e)) (local_depth e)
        (and_right (not (eqb (local_depth e) 0)) (eqb (local_depth (buddy_entry a i e)) (local_depth e)) buddy)
        ∙ own_depth

-- What is needed of the directory for where a merge's stores go, for how many they are and for what it looks at: the entry e is in range,
-- and a buddy's names a segment too.
pub record HalvesPlaced (a : List ℕ) (i e : ℕ) : Type 0 where
  pub low : local_depth e ≤ depth a
  pub own_below : segment_of e < segments a
  pub buddy_below : has_buddy a i e ≡ true → segment_of (buddy_entry a i e) < segments a

module _ {a : List ℕ} {i e : ℕ} (h : HalvesPlaced a i e) where
  pub joined_room : eqb (local_depth e) 0 ≡ false → joined_depth e < depth a
  joined_room deep = omega (arith, h.low, joined_next a i e deep)

  module _ (buddy : has_buddy a i e ≡ true) where
    pub halves_room : joined_depth e < depth a
    halves_room = omega (arith, h.low, own_depth a i e buddy)

    -- Both are segments' numbers.
    pub left_below : segment_of (left_entry a i e) < segments a
    unfolding left_entry
    left_below = by_test (on_right (depth a) (joined_depth e) i) (λ t. rw t (h.buddy_below buddy)) (λ t. rw t h.own_below)

    pub right_below : segment_of (right_entry a i e) < segments a
    unfolding right_entry
    right_below = by_test (on_right (depth a) (joined_depth e) i) (λ t. rw t h.own_below) (λ t. rw t (h.buddy_below buddy))

-- In a consistent directory.
module _ (a : List ℕ) (i e : ℕ) (dir : Blocks (depth a) (segments a) (entry_at a (depth a))) (below : i < 2 ^ depth a) (own : e ≡ entry_at a (depth a) i) where
  -- The segments of the halves are those that the two entries name.
  pub halves : has_buddy a i e ≡ true
      → TwoHalves (depth a) (joined_depth e) (entry_at a (depth a)) i (segment_of (left_entry a i e)) (segment_of (right_entry a i e))
  unfolding left_entry right_entry buddy_entry
  halves buddy = rw (← own) at (two_halves dir (joined_depth e) i below (rw (← own) (own_depth a i e buddy)) (buddy_depth a i e buddy))

  pub consistent_placed : HalvesPlaced a i e
  unfolding buddy_entry
  consistent_placed =
      record {
        low = rw own (dir.depths i below);
        own_below = rw own (dir.below i below);
        buddy_below = λ b. dir.below _ (buddy_inside (depth a) (joined_depth e) i (halves b).room below);
      }

-- ---- The tests

-- The tests of the two halves by their cases.
module _ (a : List ℕ) (i e : ℕ) where
  pub no_buddy : has_buddy a i e ≡ false → halves_tests a i e ≡ some NoBuddy
  unfolding halves_tests unless
  no_buddy t = rw t

  pub both_live_holds : has_buddy a i e ≡ true → both_live_at a i e ≡ true → halves_tests a i e ≡ some BothLive
  unfolding halves_tests unless
  both_live_holds t u = rw (t, u)

  pub both_pass : has_buddy a i e ≡ true → both_live_at a i e ≡ false → halves_tests a i e ≡ none
  unfolding halves_tests unless
  both_pass t u = rw (t, u)

-- Behind tests that stop, it does not matter what comes later.
unless_stops : (t : Bool) (q r : Refusal) (o p : Option Refusal) → (o ≡ some r → p ≡ some r) → unless t q o ≡ some r → unless t q p ≡ some r
unfolding unless
unless_stops true q r o p h e = h e
unless_stops false q r o p h e = e

-- Where the tests of put refuse, so do those of merge.
pub tests_stop : (a : List ℕ) (key : ℕ) (r : Refusal) → put_tests a key ≡ some r → merge_tests a key ≡ some r
unfolding put_tests merge_tests key_tests directory_tests
tests_stop a key r =
    unless_stops (valid_header a) NoStore r _ _
    (unless_stops (not (eqb key 0)) NoKey r _ _
    (unless_stops (leaders_valid a (depth a) (segments a)) Broken r _ _
    (unless_stops (entries_agree a (depth a)) Unmended r none _ (λ e. absurd (some_none r (sym e))))))

-- Where they pass, the tests of the two halves decide.
pub tests_past : {a : List ℕ} {key : ℕ} → Passed a key → merge_tests a key ≡ halves_tests a (index key (depth a)) (key_entry a key)
unfolding merge_tests key_tests directory_tests unless
tests_past {a} {key} p =
    let c = tests_consistent a key p.tests in
    rw (header_valid p.valid, ne_eqb key 0 p.nonzero, c.0, c.1)

-- In a consistent directory the key's block and its buddy are placed so.
pub key_placed : (a : List ℕ) (key : ℕ) → put_tests a key ≡ none → HalvesPlaced a (index key (depth a)) (key_entry a key)
key_placed a key t =
    let c = tests_consistent a key t in
    consistent_placed a (index key (depth a)) (key_entry a key) (consistent_blocks a (depth a) (segments a) c.0 c.1) (index_lt key (depth a))
    (entry_of_key a key (depth a) refl)

-- What merge's passed tests say.
pub record MergePassed (a : List ℕ) (key : ℕ) : Type 0 where
  pub tests : Passed a key
  pub placed : HalvesPlaced a (index key (depth a)) (key_entry a key)
  pub buddy : key_buddy a key ≡ true
  pub apart : key_both_live a key ≡ false

pub merge_passed : (a : List ℕ) (key : ℕ) → merge_tests a key ≡ none → MergePassed a key
unfolding merge_tests halves_tests
merge_passed a key t =
    let i : ℕ = index key (depth a) in
    let front = passed_behind a key (halves_tests a (index key (depth a)) (key_entry a key)) t in
    let p : Passed a key = front.0 in
    let t₅ = unless_none (has_buddy a (index key (depth a)) (key_entry a key)) NoBuddy _ front.1 in
    let t₆ = unless_none (not (both_live_at a (index key (depth a)) (key_entry a key))) BothLive none t₅.1 in
    record {
      tests = p;
      placed = key_placed a key p.tests;
      buddy = t₅.0;
      apart = not-true (both_live_at a (index key (depth a)) (key_entry a key)) t₆.0;
    }

-- ---- Where the stores go

-- Those for a slot: to its two words in the left segment.
pub record_every : (P : ℕ → Type 0) (left M bits j own key value : ℕ) → P (key_address left j) → P (value_address left j)
    → Every (λ s. P s.at) (merge_record left M bits j own key value)
unfolding merge_record
record_every P left M bits j own key value k v = go (live_right M bits key) (not (eqb own 0) && not (live_left M bits own))
  where
    go : (t u : Bool)
        → Every (λ s. P s.at) (pick t (store (value_address left j) value ∷ store (key_address left j) key ∷ []) (pick u (store (key_address left j) 0 ∷ []) []))
    go true u = (v, (k, Prim.tt))
    go false true = (k, Prim.tt)
    go false false = Prim.tt

-- Those of all slots: to the left segment.
pub slots_within : (a : List ℕ) (D s right M bits : ℕ) → Every (λ x. Within D s x.at) (merging_slots a (segment_address D s) a right M bits)
unfolding merging_slots merge_slot
slots_within a D s right M bits =
    every_each (λ x. Within D s x.at) (merge_slot a (segment_address D s) a right M bits) 64
    (λ j h. record_every (Within D s) (segment_address D s) M bits j _ _ _ (key_within D s j h) (value_within D s j h))

-- Those of the entries: to the present directory.
pub joining_words : (g M i s : ℕ) → M ≤ g → i < 2 ^ g → Every (λ x. DirectoryWord g x.at) (joining g M (block_start g M i) s)
joining_words g M i s low below =
    every_map (λ x. BlockEntry g M (block_start g M i) x.at) (λ x. DirectoryWord g x.at)
    (λ x b.
    let h : b.number < 2 ^ g = omega (arith, b.to, block_end g M i low below) in
    rw b.address (record { from = entry_from g b.number; to = entry_to g b.number h }))
    (joining g M (block_start g M i) s) (joining_block g M (block_start g M i) s)

module _ {a : List ℕ} {key : ℕ} (p : MergePassed a key) where
  abbrev at : ℕ
  at = index key (depth a)

  abbrev here : ℕ
  here = key_entry a key

  pub passed_room : joined_depth here < depth a
  passed_room = halves_room p.placed p.buddy

  pub passed_left : segment_of (left_entry a at here) < segments a
  passed_left = left_below p.placed p.buddy

  pub passed_right : segment_of (right_entry a at here) < segments a
  passed_right = right_below p.placed p.buddy

  pub passed_halves : Blocks (depth a) (segments a) (entry_at a (depth a))
      → TwoHalves (depth a) (joined_depth here) (entry_at a (depth a)) at (segment_of (left_entry a at here)) (segment_of (right_entry a at here))
  passed_halves dir = halves a at here dir (index_lt key (depth a)) (entry_of_key a key (depth a) refl) p.buddy

  pub entries_words : Every (λ x. DirectoryWord (depth a) x.at) (entries_joined a at here)
  entries_words =
      joining_words (depth a) (joined_depth here) at (segment_of (left_entry a at here)) (omega (arith, passed_room)) (index_lt key (depth a))

  -- None goes beyond the words that D and S take.
  pub merging_in_range : Every (λ s. s.at < words_for (max_depth a) (segments a)) (merging_of a at here)
  unfolding merging_of
  merging_in_range =
      let q : 2 ^ suc (depth a) ≤ 2 ^ suc (max_depth a) =
      pow_mono {i = suc (depth a)} {j = suc (max_depth a)} (omega (arith, p.tests.valid.present)) in
      every_append (λ s. s.at < words_for (max_depth a) (segments a)) (slots_merged a at here) (entries_joined a at here)
      (every_map (λ s. Within (max_depth a) (segment_of (left_entry a at here)) s.at) (λ s. s.at < words_for (max_depth a) (segments a))
      (λ s w. (within_inside (max_depth a) (segments a) (segment_of (left_entry a at here)) s.at passed_left w).below)
      (slots_merged a at here)
      (slots_within a (max_depth a) (segment_of (left_entry a at here)) (right_segment a at here) (joined_depth here) (joined_bits a at here)))
      (every_map (λ s. DirectoryWord (depth a) s.at) (λ s. s.at < words_for (max_depth a) (segments a))
      (λ s w. omega (arith, w.to, directories_below (max_depth a) (segments a)))
      (entries_joined a at here) entries_words)

-- ---- How many they are

pub length_record : (left M bits j own key value : ℕ) → length (merge_record left M bits j own key value) ≤ 2
unfolding merge_record
length_record left M bits j own key value = two (live_right M bits key) (not (eqb own 0) && not (live_left M bits own)) _ _ _
  where
    two : (t u : Bool) (x y z : Store) → length (pick t (x ∷ y ∷ []) (pick u (z ∷ []) [])) ≤ 2
    two true u x y z = omega arith
    two false true x y z = omega arith
    two false false x y z = omega arith

pub length_slots : (x : List ℕ) (left : ℕ) (y : List ℕ) (right M bits : ℕ) → length (merging_slots x left y right M bits) ≤ 128
unfolding merging_slots merge_slot
length_slots x left y right M bits =
    length_each_le (merge_slot x left y right M bits) 2 64 (λ j h. length_record left M bits j _ _ _)

pub length_merging : {a : List ℕ} {key : ℕ} → MergePassed a key → length (merging_of a (index key (depth a)) (key_entry a key)) ≤ 128 + 2 ^ depth a
unfolding merging_of
length_merging {a} {key} p =
    let i : ℕ = index key (depth a) in
    let e : ℕ = key_entry a key in
    omega (
      arith,
      length-append (slots_merged a i e) (entries_joined a i e),
      length_slots a (left_segment a i e) a (right_segment a i e) (joined_depth e) (joined_bits a i e),
      length_joining (depth a) (joined_depth e) (joined_start a i e) (segment_of (left_entry a i e)),
      block_end (depth a) (joined_depth e) i (omega (arith, passed_room p)) (index_lt key (depth a)),
    )

-- It holds on every array.
pub merge_bound : (a : List ℕ) (key : ℕ) → MergeBound a (merge a key).due
unfolding merge tested
merge_bound a key = go (merge_tests a key) refl
  where
    i : ℕ
    i = index key (depth a)

    e : ℕ
    e = key_entry a key

    passed_bound : MergePassed a key → MergeBound a (merging_of a i e)
    passed_bound p =
        let few : length (merging_of a i e) ≤ 128 + 2 ^ depth a = length_merging p in
        let deep : depth a ≤ 12 = omega (arith, p.tests.valid.present, p.tests.valid.depth_high) in
        let wide : 2 ^ depth a ≤ 2 ^ 12 = pow_mono {i = depth a} {j = 12} deep in
        record { by_depth = few; most = omega arith }

    go : (o : Option Refusal) → merge_tests a key ≡ o → MergeBound a (tested o (record { due = merging_of a i e; reply = done [] })).due
    go none t = passed_bound (merge_passed a key t)
    go (some r) t = record { by_depth = omega arith; most = omega arith }
