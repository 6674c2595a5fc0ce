-- What the listings read, count and write, block by block, and what they answer.
use mathlib.Core.Path.{◌≡◌, refl, sym, ap, ap₂, ◌∙◌}
use Rattle.std.specs.Prelude.{Result, Ok, Err, Option as PreludeOption}
use Rattle.stores.specs.Options.{option_of}
use Rattle.std.specs.Option.{ok_or}
use Rattle.std.specs.Bool.{then_some}
use Rattle.stores.proofs.Tests.{by_test}
use Rattle.index_structure.proofs.Found.{found, found_none}
use lib.Dec.{ltb}
use mathlib.Core.Bool.{true, false}
use mathlib.Core.List.{List, ◌++◌}
use mathlib.Core.Option.{Option, none, some}
use Prim.Native.Nat.{ℕ, ◌+◌, ◌-◌, ◌*◌, ◌%◌, ◌^◌, ◌≤◌, ◌<◌}
use native.Mathlib.Omega.{arith}
use lib.Bits.{bit_and}
use lib.ListN.{length, length-append}
use Rattle.stores.specs.Store.{word}
use Rattle.replies.specs.declared.Refusal.{Refusal}
use Rattle.replies.specs.declared.Refusal.TheVariants.{NoStore, ShortList, NoLeader}
use Rattle.index_rules.specs.Layout.{valid_header, depth, segments, entry_at, segment_of, local_depth}
use Rattle.index_rules.specs.Keys.{width}
use Rattle.index_rules.specs.Scan.{leader, leaders_valid}
use Rattle.replies.specs.declared.Reply.{Reply}
use Rattle.replies.specs.declared.Reply.TheVariants.{Value, Listed}
use Rattle.replies.specs.Replies.{listed, said_by, unless}
use Rattle.replies.specs.Writing.{Writing, behind_tests}
use Rattle.index_rules.specs.Put.{directory_tests}
use Rattle.index_rules.specs.Listing.{block_records, records, words_of, listing_tests, room_test, list_tests, list}
use Rattle.index_rules.specs.ListBlock.{leads, records_led, following, following_led, list_block_tests, list_block}
use Rattle.index_laws.proofs.BlockRecords.{records_to, records_end, records_grow, leader_depth, leader_segment, next_inside, next_behind, next_own, records_block, leads_at, leader_at, not_leads, aligned_leads, leads_aligned}
use Rattle.stores.specs.Written.{Written}
use Rattle.stores.proofs.Written.{written_append, written_at_front}
use Rattle.index_laws.proofs.Scan.{range_depth, consistent_in_range}
use Rattle.index_laws.proofs.Listing.{words_append, listing_passed, listing_stops, listing_goes_on, room_passed, room_short}
use Rattle.index_layout.specs.declared.header.Header.{Header}
use Rattle.index_layout.specs.Headers.{Describes}
use Rattle.index_layout.proofs.Shapes.{bounds}
use Rattle.index_layout.proofs.Entries.{entry_word, mask_width}
use Rattle.index_directory.specs.Scans.{LeadersRead}
use Rattle.index.specs.declared.listing.BlockPlace.{BlockPlace}
use Rattle.index.specs.Blocks.{ListableRead, BlockRead, FoundAt, PlaceInside, place_records, ListedBy}
use Rattle.index_layout.proofs.Places.{segment_fits}

-- ---- The tests in front

module _ (a : List ℕ) where
  pub front_no_store : valid_header a ≡ false → listing_tests a none ≡ some NoStore
  unfolding listing_tests unless
  front_no_store e = rw e

  -- With a valid word 0, the directory decides.
  pub front_directory : valid_header a ≡ true → listing_tests a none ≡ directory_tests a none
  unfolding listing_tests unless
  front_directory e = rw e

-- ---- At a leader

-- What the code asks of the entry at a leader.
pub record LeaderBounds (h : Header) (e : ℕ) : Type 0 where
  pub depth_low : local_depth e ≤ h.depth
  pub segment_small : segment_of e ≤ 4096

module _ {h : Header} {a : List ℕ} (d : Describes h a) (v : leaders_valid a (depth a) (segments a) ≡ true) (i : ℕ) (lead : leads a i ≡ true) where
  pub leader_below : i < 2 ^ h.depth
  leader_below = rw d.depth_read at (leads_at a i lead).below

  pub leader_bounds : (count : ℕ) → count ≡ 2 ^ h.depth → LeaderBounds h (word a (count + i))
  leader_bounds count e =
      let b = bounds d in
      let t = leads_at a i lead in
      let g : depth a ≡ h.depth = d.depth_read in
      let s : segments a ≡ h.segments = d.segments_read in
      let low : local_depth (entry_at a (depth a) i) ≤ depth a = leader_depth a v i t.below t.own in
      let below : segment_of (entry_at a (depth a) i) < segments a = leader_segment a v i t.below t.own in
      rw (entry_word count i d e) (record { depth_low = omega arith; segment_small = omega arith })

  -- The block that the code read there lies in the array.
  pub place_inside : (b : BlockPlace) → BlockRead a i b → PlaceInside b a
  place_inside b r =
      let t = leads_at a i lead in
      let below : segment_of (entry_at a (depth a) i) < segments a = leader_segment a v i t.below t.own in
      rw (r.base_is, d.max_depth_read) (segment_fits d (segment_of (entry_at a (depth a) i)) (rw d.segments_read at below))

-- The live records of its segment are the block's.
pub place_records_holds : (a : List ℕ) (i : ℕ) (b : BlockPlace) → BlockRead a i b → place_records a b ≡ records_led a i
unfolding block_records
place_records_holds a i b r = rw (r.bits_are, r.base_is, r.depth_is)

-- ---- An index that need not lead

-- Whether a block begins there, by the entry that the code reads there, where the tests in front of a listing pass.
module _ {h : Header} {a : List ℕ} (r : ListableRead h a) (count : ℕ) (c : count ≡ 2 ^ h.depth) (i : ℕ) where
  pub leads_not_behind : count ≤ i → leads a i ≡ false
  leads_not_behind k = not_leads a i (λ t. omega (arith, rw r.0.depth_read at t.below))

  module _ (k : i < count) where
    inside_directory : i < 2 ^ depth a
    inside_directory = rw r.0.depth_read (omega arith)

    entry_here : word a (count + i) ≡ entry_at a (depth a) i
    entry_here = entry_word count i r.0 c

    pub entry_low : local_depth (word a (count + i)) ≤ h.depth
    entry_low =
        let p = listing_passed a none r.1 in
        rw (entry_here, ← r.0.depth_read)
        (range_depth (depth a) (segments a) (entry_at a (depth a) i)
        (consistent_in_range a (depth a) (segments a) i p.leaders p.agree inside_directory))

    -- The width of the block that this entry would lead, and its rest of the index.
    module _ (L w : ℕ) (l : L ≡ local_depth (word a (count + i))) (e : w ≡ width h.depth L) where
      rest_is : bit_and i (w - 1) ≡ i % width (depth a) (local_depth (entry_at a (depth a) i))
      rest_is = mask_width h.depth L i w e ∙ rw (l, entry_here, r.0.depth_read)

      pub leads_here : bit_and i (w - 1) ≡ 0 → leads a i ≡ true
      leads_here z =
          let p = listing_passed a none r.1 in
          leader_at a i inside_directory (aligned_leads a p.leaders p.agree i inside_directory (sym rest_is ∙ z))

      pub leads_not_inside : (bit_and i (w - 1) ≡ 0 → ⊥) → leads a i ≡ false
      leads_not_inside n =
          let p = listing_passed a none r.1 in
          not_leads a i (λ t. n (rest_is ∙ leads_aligned a p.leaders p.agree i inside_directory t.own))

-- What the search for a block has answered, where the call goes on with it or refuses.
module _ (a : List ℕ) (i : ℕ) (x : PreludeOption BlockPlace) (e : FoundAt x a i) (r : Refusal) where
  pub block_found : {b : BlockPlace} → Ok b ≡ ok_or x r → (leads a i ≡ true) × BlockRead a i b
  block_found q = rw (found x r q) at e

  pub block_not_found : {f : Refusal} → Err f ≡ ok_or x r → (leads a i ≡ false) × (f ≡ r)
  block_not_found q = (rw (found_none x r q).0 at e, (found_none x r q).1)

-- What follows a block, as the code finds it.
pub following_said : (next end : ℕ) → option_of (then_some (ltb next end) next) ≡ following next end
unfolding following
following_said next end = by_test (ltb next end) (λ t. rw t) (λ t. rw t)

-- What follows the block that was read.
pub following_read : {h : Header} {a : List ℕ} → Describes h a → (i : ℕ) (b : BlockPlace) → BlockRead a i b
    → following b.next (2 ^ h.depth) ≡ following_led a i
following_read d i b r = rw (r.next_is, d.depth_read)

-- ---- All blocks

-- The block that the code read at a leader, in the listing: where it goes on, and what it adds.
pub record Turn (a : List ℕ) (count i : ℕ) (b : BlockPlace) : Type 0 where
  pub inside_array : PlaceInside b a
  pub onwards : i < b.next
  pub inside : b.next ≤ count
  pub leads_next : leader a (depth a) b.next ≡ b.next
  pub adds : records_to a b.next ≡ records_to a i ++ place_records a b
  pub room : length (records_to a i) + length (place_records a b) ≤ length (records a)

pub turn : {h : Header} {a : List ℕ} → Describes h a → leaders_valid a (depth a) (segments a) ≡ true → (count : ℕ) → count ≡ 2 ^ h.depth
    → (i : ℕ) → leads a i ≡ true → (b : BlockPlace) → BlockRead a i b → Turn a count i b
turn {h} {a} d v count c i lead b r =
    let t = leads_at a i lead in
    let last : b.next ≤ 2 ^ depth a = rw r.next_is (next_inside a v i t.below t.own) in
    let adds : records_to a b.next ≡ records_to a i ++ place_records a b =
    rw (r.next_is, place_records_holds a i b r) (records_block a v i t.below t.own) in
    record {
      inside_array = place_inside d v i lead b r;
      onwards = rw r.next_is (next_behind a v i t.below t.own);
      inside = omega (arith, ap (λ (n : ℕ). 2 ^ n) d.depth_read);
      leads_next = rw r.next_is (next_own a v i t.below t.own);
      adds = adds;
      room = rw (← length-append, ← adds, ← records_end a (2 ^ depth a) refl) (records_grow a b.next (2 ^ depth a) last);
    }

-- The loop's index leads while it is below the end.
pub loop_leads : {h : Header} {a : List ℕ} → Describes h a → (count : ℕ) → count ≡ 2 ^ h.depth → (i : ℕ) → i < count
    → leader a (depth a) i ≡ i → leads a i ≡ true
loop_leads {h} {a} d count c i k own = leader_at a i (rw d.depth_read (omega arith)) own

-- A step through the blocks of an array b, which is a, has read the block x at index i.
pub step_turn : {h : Header} {a b : List ℕ} → LeadersRead h a → b ≡ a → (i : ℕ) (x : BlockPlace) → leads b i ≡ true → BlockRead b i x → Turn a (2 ^ h.depth) i x
step_turn d e i x lead r = turn d.0 d.1 _ refl i (rw e at lead) x (rw e at r)

-- The records of the block behind those before it, counted and written.
module _ {a : List ℕ} {count i : ℕ} {b : BlockPlace} (t : Turn a count i b) where
  pub count_turn : (total n : ℕ) → total ≡ length (records_to a i) → n ≡ length (place_records a b) → total + n ≡ length (records_to a b.next)
  count_turn total n e f = rw (t.adds, length-append) (omega arith)

  pub write_turn : (l : List ℕ) (m : ℕ) (l₁ : List ℕ) (n : ℕ) (l₂ : List ℕ) → Written (words_of (records_to a i)) 0 l m l₁
      → Written (words_of (place_records a b)) m l₁ n l₂ → Written (words_of (records_to a b.next)) 0 l n l₂
  write_turn l m l₁ n l₂ p q =
      rw (t.adds, words_append) (written_append _ _ 0 l m l₁ n l₂ (omega arith) p q)

-- ---- What the calls answer

-- A writing behind tests that refuse, and behind tests that pass.
module _ (t : Option Refusal) (w : Writing) (l : List ℕ) where
  pub wrote_nothing : (q : Refusal) → t ≡ some q → ListedBy (behind_tests t w) (Err q) l l
  unfolding behind_tests
  wrote_nothing q e = rw e (refl, refl)

  pub wrote_words : t ≡ none → (x : Result Reply Refusal) → said_by x ≡ w.reply → (n : ℕ) (l' : List ℕ) → Written w.words 0 l n l'
      → ListedBy (behind_tests t w) x l l'
  unfolding behind_tests
  wrote_words e x k n l' m = rw e (k, written_at_front w.words l n l' m)

module _ (a l : List ℕ) where
  pub list_refused : (q : Refusal) → listing_tests a none ≡ some q → ListedBy (list a (length l)) (Err q) l l
  unfolding list list_tests
  list_refused q e = wrote_nothing _ _ l q (listing_stops a q _ e)

  pub block_refused : (i : ℕ) (q : Refusal) → listing_tests a none ≡ some q → ListedBy (list_block a i (length l)) (Err q) l l
  unfolding list_block list_block_tests
  block_refused i q e = wrote_nothing _ _ l q (listing_stops a q _ e)

  module _ (passed : listing_tests a none ≡ none) where
    pub list_short : length l < 2 * length (records a) → ListedBy (list a (length l)) (Err ShortList) l l
    unfolding list list_tests
    list_short h = wrote_nothing _ _ l ShortList (listing_goes_on a _ passed ∙ room_short (records a) (length l) h)

    pub list_done : 2 * length (records a) ≤ length l → (count : ℕ) → count ≡ length (records a) → (n : ℕ) (l' : List ℕ)
        → Written (words_of (records a)) 0 l n l' → ListedBy (list a (length l)) (Ok (Value count)) l l'
    unfolding list list_tests
    list_done h count k n l' w =
        wrote_words _ _ l (listing_goes_on a _ passed ∙ room_passed (records a) (length l) h) (Ok (Value count)) (rw k) n l' w

    module _ (i : ℕ) where
      pub block_no_leader : leads a i ≡ false → ListedBy (list_block a i (length l)) (Err NoLeader) l l
      unfolding list_block list_block_tests unless
      block_no_leader e = wrote_nothing _ _ l NoLeader (listing_goes_on a _ passed ∙ rw e)

      module _ (lead : leads a i ≡ true) where
        -- Behind 1, 3, 4 and 16 the room decides.
        room_decides : list_block_tests a i (length l) ≡ room_test (records_led a i) (length l)
        unfolding list_block_tests unless
        room_decides = listing_goes_on a _ passed ∙ rw lead

        pub block_short : length l < 2 * length (records_led a i) → ListedBy (list_block a i (length l)) (Err ShortList) l l
        unfolding list_block
        block_short h = wrote_nothing _ _ l ShortList (room_decides ∙ room_short (records_led a i) (length l) h)

        pub block_done : 2 * length (records_led a i) ≤ length l → (count : ℕ) (next : PreludeOption ℕ) → count ≡ length (records_led a i)
            → option_of next ≡ following_led a i → (n : ℕ) (l' : List ℕ)
            → Written (words_of (records_led a i)) 0 l n l' → ListedBy (list_block a i (length l)) (Ok (Listed count next)) l l'
        unfolding list_block
        block_done h count next k f n l' w =
            wrote_words _ _ l (room_decides ∙ room_passed (records_led a i) (length l) h) (Ok (Listed count next)) (ap₂ listed k f) n l' w
