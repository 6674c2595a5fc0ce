-- The listing of one block: 128 words are always enough, the answers joined are the full listing, and 1, 3 and 4 come where they come
-- from list.
use mathlib.Core.Path.{◌≡◌, refl, sym, ap, ◌∙◌}
use mathlib.Core.Bool.{Bool, true, false, true≢false, ◌||◌}
use mathlib.Core.List.{List, [], ◌∷◌, ◌++◌, append_assoc, append-nil}
use mathlib.Core.Option.{Option, none, some}
use mathlib.Core.Logic.{◌⊎◌, inl, inr, ⊎_elim}
use Prim.Native.Nat.{ℕ, zero, suc, ◌+◌, ◌*◌, ◌^◌, ◌≤◌}
use native.Mathlib.Nat.{le_antisymm}
use native.Mathlib.Omega.{arith}
use borrow.Author.Tests.{eqb-true, ltb-true, ltb-false, ne_eqb}
use lib.Dec.{ltb, eqb}
use lib.ListN.{length, take, length-append}
use lib.Pow.{pow_pos}
use Rattle.stores.specs.Written.{at_front}
use Rattle.stores.proofs.Tests.{by_test, or_cases}
use Rattle.stores.proofs.Written.{at_front_words, at_front_length}
use Rattle.replies.specs.declared.Refusal.{Refusal}
use Rattle.replies.specs.declared.Refusal.TheVariants.{NoLeader}
use Rattle.replies.specs.Replies.{listed, refused, refuse, number_of, is_refusal, says_damage, unless}
use Rattle.replies.specs.Writing.{Writing, behind_tests}
use Rattle.index_rules.specs.declared.Call.TheVariants.{List as ListCall, ListBlock}
use Rattle.index_rules.specs.Layout.{depth, segments, entry_at, local_depth}
use Rattle.index_rules.specs.Scan.{leaders, leaders_valid}
use Rattle.index_rules.specs.Put.{directory_tests}
use Rattle.index_rules.specs.Listing.{records, words_of, listing_tests, room_test, list_tests, list}
use Rattle.index_rules.specs.ListBlock.{leads, records_led, behind_led, following, following_led, list_block_tests, list_block}
use Rattle.index_rules.specs.Step.{effect, step}
use Rattle.index_laws.specs.JoinedListing.{AlwaysEnough, SameDamage, joined, in_front, gathered_from, gather, FullListing, JoinedListing, BlockPerformed, PartsPerformed, JoinedPerformedListing}
use Rattle.replies.proofs.Sayable.{not_given}
use Rattle.index_rules.specs.Given.{has}
use Rattle.index_laws.proofs.Keys.{width_pos}
use Rattle.index_laws.proofs.Scan.{leader_zero}
use Rattle.index_laws.proofs.BlockRecords.{records_to, leaders_to, records_start, records_end, leaders_start, leaders_end, block_small, next_inside, next_behind, next_own, records_block, leaders_block, leads_at, leader_at}
use Rattle.index_laws.proofs.Listing.{words_append, words_none, length_words, Front, stops, goes_on, front, ListingPassed, listing_passed, room_passed, late, list_late, list_block_late, BlockPassed, block_passed, done_list_leaves, list_front}

-- ---- 1, 3 and 4

-- 1, 3 and 4 are none of the refusals behind them.
damage_early : (n : ℕ) → says_damage (refused n) ≡ true → late n ≡ false
unfolding has
damage_early n d =
    ⊎_elim
    (λ (e : eqb n 1 ≡ true). rw (eqb-true n 1 e))
    (λ (h : eqb n 3 || eqb n 4 ≡ true).
    ⊎_elim (λ (e : eqb n 3 ≡ true). rw (eqb-true n 3 e)) (λ (e : eqb n 4 ≡ true). rw (eqb-true n 4 e)) (or_cases (eqb n 3) (eqb n 4) h))
    (or_cases (eqb n 1) (eqb n 3 || eqb n 4) d)

-- What both listings say where a test in front refuses.
module _ (a : List ℕ) where
  list_stops : (r : Refusal) → ((later : Option Refusal) → listing_tests a later ≡ some r) → (room : ℕ) → (list a room).reply ≡ refuse r
  unfolding list list_tests behind_tests
  list_stops r e room = rw (e (room_test (records a) room))

  block_stops : (r : Refusal) → ((later : Option Refusal) → listing_tests a later ≡ some r) → (i room : ℕ) → (list_block a i room).reply ≡ refuse r
  unfolding list_block list_block_tests behind_tests
  block_stops r e i room = rw (e (unless (leads a i) NoLeader (room_test (records_led a i) room)))

pub same_damage : SameDamage
unfolding step effect
same_damage a l m i n d = go (front a)
  where
    go : Front a → is_refusal n (list a (length l)).reply ≡ is_refusal n (list_block a i (length m)).reply
    go (stops r p e) = rw (list_stops a r e (length l), block_stops a r e i (length m))
    go (goes_on e) =
        not_given late n (list_late a (e none) (length l)) (damage_early n d)
        ∙ sym (not_given late n (list_block_late a (e none) i (length m)) (damage_early n d))

-- ---- 128 words

-- The records of a block have room in 128 words.
led_room : (a : List ℕ) (i room : ℕ) → 128 ≤ room → room_test (records_led a i) room ≡ none
led_room a i room h = room_passed (records_led a i) room (omega (arith, block_small a i (entry_at a (depth a) i)))

pub always_enough : AlwaysEnough
unfolding step effect list_block list_block_tests behind_tests unless
always_enough a l i h = go (front a)
  where
    not_ten : (n : ℕ) → says_damage (refused n) ≡ true → eqb n 10 ≡ false
    not_ten n d = ne_eqb n 10 (λ e. true≢false (sym d ∙ ap (λ (k : ℕ). says_damage (refused k)) e))

    led : (b : Bool) (w : Writing) → is_refusal 10 w.reply ≡ false → is_refusal 10 (behind_tests (unless b NoLeader none) w).reply ≡ false
    led true w e = e
    led false w e = refl

    go : Front a → is_refusal 10 (list_block a i (length l)).reply ≡ false
    go (stops r p e) = rw (block_stops a r e i (length l)) (not_ten (number_of r) p)
    go (goes_on e) = rw (e _, led_room a i (length l) h) (led (leads a i) _ refl)

-- ---- What the listing of a block says and leaves

-- Where the tests in front of a listing pass and the index leads, with 128 words or more.
module _ (a : List ℕ) (passed : listing_tests a none ≡ none) where
  abbrev all : ListingPassed a none
  all = listing_passed a none passed

  module _ (i : ℕ) (lead : leads a i ≡ true) (l : List ℕ) (enough : 128 ≤ length l) where
    tests_pass : list_block_tests a i (length l) ≡ none
    unfolding list_block_tests listing_tests directory_tests unless
    tests_pass = rw (all.valid, all.leaders, all.agree, lead, led_room a i (length l) enough)

    block_says : (step a l (ListBlock i)).outcome.reply ≡ listed (length (records_led a i)) (following_led a i)
    unfolding step effect list_block behind_tests
    block_says = rw tests_pass

    block_leaves : (step a l (ListBlock i)).list ≡ at_front (words_of (records_led a i)) l
    unfolding step effect list_block behind_tests
    block_leaves = rw tests_pass

-- The words of a block's records, in front of what its listing leaves.
led_words : (a l : List ℕ) (i count : ℕ) → count ≡ length (records_led a i)
    → take (2 * count) (at_front (words_of (records_led a i)) l) ≡ words_of (records_led a i)
led_words a l i count e =
    let size : 2 * count ≡ length (words_of (records_led a i)) = omega (arith, length_words (records_led a i)) in
    rw size (at_front_words (words_of (records_led a i)) l)

-- A listing of a block that is done: its tests have passed, and it has said and left the block's.
record BlockDone (a l : List ℕ) (i count : ℕ) (f : Option ℕ) : Type 0 where
  pub passed : BlockPassed a i (length l)
  pub records_led_holds : count ≡ length (records_led a i)
  pub following : f ≡ following_led a i
  pub left : (step a l (ListBlock i)).list ≡ at_front (words_of (records_led a i)) l

block_done : (a l : List ℕ) (i count : ℕ) (f : Option ℕ) → (step a l (ListBlock i)).outcome.reply ≡ listed count f → BlockDone a l i count f
unfolding step effect list_block behind_tests
block_done a l i count f says = go (list_block_tests a i (length l)) refl
  where
    go : (t : Option Refusal) → list_block_tests a i (length l) ≡ t → BlockDone a l i count f
    go none e =
        let said : listed (length (records_led a i)) (following_led a i) ≡ listed count f = rw e at says in
        record { passed = block_passed a i (length l) e; records_led_holds = cc; following = cc; left = rw e }
    go (some r) e =
        let said : refuse r ≡ listed count f = rw e at says in
        absurd (let z : ◌≡◌ {A = ℕ} 0 1 = cc in omega arith)

-- The next index that it names is never 0, which in the calls for C says that the block was the last.
pub next_not_0 : (a l : List ℕ) (i count j : ℕ) → (step a l (ListBlock i)).outcome.reply ≡ listed count (some j) → j ≡ 0 → ⊥
unfolding following
next_not_0 a l i count j says zero_there =
    let d : some j ≡ following_led a i = (block_done a l i count (some j) says).following in
    by_test (ltb (behind_led a i) (2 ^ depth a))
    (λ e.
    let same : some j ≡ some (behind_led a i) = d ∙ rw e refl in
    let n : j ≡ behind_led a i = cc in
    omega (arith, width_pos (depth a) (local_depth (entry_at a (depth a) i))))
    (λ e.
    let same : some j ≡ none = d ∙ rw e refl in
    let z : ◌≡◌ {A = ℕ} 0 1 = cc in
    omega arith)

-- ---- The answers joined

-- The parts are what the blocks from index i on list.
record ListedFrom (a : List ℕ) (i : ℕ) (parts : List (List ℕ)) : Type 0 where
  pub words : words_of (records_to a i) ++ joined parts ≡ words_of (records a)
  pub blocks : length (leaders_to a i) + length parts ≡ length (leaders a (depth a))

listed_none : (a : List ℕ) (i : ℕ) → i ≡ 2 ^ depth a → ListedFrom a i []
unfolding joined
listed_none a i e =
    record {
      words = append-nil (words_of (records_to a i)) ∙ ap words_of (records_end a i e);
      blocks = let s : length (leaders_to a i) ≡ length (leaders a (depth a)) = ap length (leaders_end a i e) in omega arith;
    }

module _ (a : List ℕ) (v : leaders_valid a (depth a) (segments a) ≡ true) (i : ℕ) (lead : leads a i ≡ true) where
  -- A block's words in front of what the blocks behind it list.
  listed_block : (parts : List (List ℕ)) → ListedFrom a (behind_led a i) parts → ListedFrom a i (words_of (records_led a i) ∷ parts)
  unfolding joined
  listed_block parts rest =
      let t = leads_at a i lead in
      let adds : words_of (records_to a (behind_led a i)) ≡ words_of (records_to a i) ++ words_of (records_led a i) =
      ap words_of (records_block a v i t.below t.own) ∙ words_append (records_to a i) (records_led a i) in
      let one : length (leaders_to a (behind_led a i)) ≡ length (leaders_to a i) + 1 =
      ap length (leaders_block a v i t.below t.own) ∙ length-append (leaders_to a i) (i ∷ []) in
      record {
        words =
            sym (append_assoc (words_of (records_to a i)) (words_of (records_led a i)) (joined parts))
            ∙ ap (λ (l : List ℕ). l ++ joined parts) (sym adds)
            ∙ rest.words;
        blocks = omega (arith, rest.blocks);
      }

  -- What follows it: the next leader, or the end.
  follows : ((following_led a i ≡ some (behind_led a i)) × (leads a (behind_led a i) ≡ true)) ⊎ ((following_led a i ≡ none) × (behind_led a i ≡ 2 ^ depth a))
  unfolding following
  follows =
      let t = leads_at a i lead in
      by_test (ltb (behind_led a i) (2 ^ depth a))
      (λ e. inl (rw e refl, leader_at a (behind_led a i) (ltb-true (behind_led a i) (2 ^ depth a) e) (next_own a v i t.below t.own)))
      (λ e. inr (rw e refl, le_antisymm (next_inside a v i t.below t.own) (ltb-false (behind_led a i) (2 ^ depth a) e)))

-- From index 0 on they are the full listing.
listed_full : (a : List ℕ) (parts : List (List ℕ)) → ListedFrom a 0 parts → FullListing a parts
listed_full a parts f =
    let words : joined parts ≡ words_of (records a) = sym (rw (records_start a, words_none) refl) ∙ f.words in
    record {
      words = words;
      blocks = let n : length (leaders_to a 0) ≡ 0 = rw (leaders_start a) refl in omega (arith, f.blocks);
      list = λ m n says. words ∙ sym (list_front a m n (done_list_leaves a m n says));
    }

-- What a reader gathers in n calls, from the leader i on.
record GatheredFrom (a : List ℕ) (n i : ℕ) (l : List ℕ) : Type 0 where
  pub parts : List (List ℕ)
  pub gathered : gather a n i l ≡ some parts
  pub listed_so : ListedFrom a i parts

module _ (a : List ℕ) (passed : listing_tests a none ≡ none) where
  gathered_from_holds : (n i : ℕ) (l : List ℕ) → leads a i ≡ true → 2 ^ depth a ≤ i + n → 128 ≤ length l → GatheredFrom a n i l
  unfolding gather gathered_from in_front
  gathered_from_holds zero i l lead h enough = let b = leads_at a i lead in absurd (omega (arith, b.below))
  gathered_from_holds (suc n) i l lead h enough =
      let v = (all a passed).leaders in
      let b = leads_at a i lead in
      let said = block_says a passed i lead l enough in
      let left = block_leaves a passed i lead l enough in
      let words = led_words a l i (length (records_led a i)) refl in
      let size : length (at_front (words_of (records_led a i)) l) ≡ length l =
      at_front_length (words_of (records_led a i)) l (omega (arith, length_words (records_led a i), block_small a i (entry_at a (depth a) i))) in
      ⊎_elim
      (λ (f : (following_led a i ≡ some (behind_led a i)) × (leads a (behind_led a i) ≡ true)).
      let rest = gathered_from_holds n (behind_led a i) (at_front (words_of (records_led a i)) l) f.1
      (omega (arith, next_behind a v i b.below b.own)) (rw size enough) in
      record {
        parts = words_of (records_led a i) ∷ rest.parts;
        gathered = rw (said, left, f.0, rest.gathered, words);
        listed_so = listed_block a v i lead rest.parts rest.listed_so;
      })
      (λ (f : (following_led a i ≡ none) × (behind_led a i ≡ 2 ^ depth a)).
      record {
        parts = words_of (records_led a i) ∷ [];
        gathered = rw (said, left, f.0, words);
        listed_so = listed_block a v i lead [] (listed_none a (behind_led a i) f.1);
      })
      (follows a v i lead)

-- Where list says no damage, the tests in front of a listing pass.
passed_by_list : (a m : List ℕ) → says_damage (step a m ListCall).outcome.reply ≡ false → listing_tests a none ≡ none
unfolding step effect
passed_by_list a m h = go (front a)
  where
    go : Front a → listing_tests a none ≡ none
    go (stops r p e) = absurd (true≢false (sym p ∙ ap says_damage (sym (list_stops a r e (length m))) ∙ h))
    go (goes_on e) = e none

-- Index 0 leads.
zero_leads : (a : List ℕ) → leads a 0 ≡ true
zero_leads a = leader_at a 0 (pow_pos (depth a)) (leader_zero a (depth a))

pub joined_listing : JoinedListing
joined_listing a l m enough h =
    let g = gathered_from_holds a (passed_by_list a m h) (2 ^ depth a) 0 l (zero_leads a) (omega arith) enough in
    record { parts = g.parts; gathered = g.gathered; full = listed_full a g.parts g.listed_so }

-- ---- The same over performed calls

-- The part that a performed listing of a block left is the block's.
block_performed : (a : List ℕ) (i : ℕ) (part : List ℕ) (f : Option ℕ) (b : BlockPerformed a i part f)
    → BlockDone a b.list i b.count f × (part ≡ words_of (records_led a i))
block_performed a i part f b =
    let d = block_done a b.list i b.count f (sym b.performed.answered.reply ∙ b.says) in
    (d, b.words ∙ ap (take (2 * b.count)) (b.performed.list ∙ d.left) ∙ led_words a b.list i b.count d.records_led_holds)

performed_from : (a : List ℕ) (parts : List (List ℕ)) (i : ℕ) (part : List ℕ) → PartsPerformed a i part parts → ListedFrom a i (part ∷ parts)
performed_from a [] i part b =
    let d = block_performed a i part none b in
    let p = d.0.passed in
    rw d.1
    (listed_block a p.leaders i p.leader []
    (⊎_elim
    (λ (f : (following_led a i ≡ some (behind_led a i)) × (leads a (behind_led a i) ≡ true)).
    let e : none ≡ some (behind_led a i) = d.0.following ∙ f.0 in
    absurd (let z : ◌≡◌ {A = ℕ} 0 1 = cc in omega arith))
    (λ (f : (following_led a i ≡ none) × (behind_led a i ≡ 2 ^ depth a)). listed_none a (behind_led a i) f.1)
    (follows a p.leaders i p.leader)))
performed_from a (q ∷ qs) i part (j, b, rest) =
    let d = block_performed a i part (some j) b in
    let p = d.0.passed in
    rw d.1
    (listed_block a p.leaders i p.leader (q ∷ qs)
    (⊎_elim
    (λ (f : (following_led a i ≡ some (behind_led a i)) × (leads a (behind_led a i) ≡ true)).
    let e : some j ≡ some (behind_led a i) = d.0.following ∙ f.0 in
    let here : j ≡ behind_led a i = cc in
    rw here at (performed_from a qs j q rest))
    (λ (f : (following_led a i ≡ none) × (behind_led a i ≡ 2 ^ depth a)).
    let e : some j ≡ none = d.0.following ∙ f.0 in
    absurd (let z : ◌≡◌ {A = ℕ} 0 1 = cc in omega arith))
    (follows a p.leaders i p.leader)))

pub joined_performed_listing : JoinedPerformedListing
joined_performed_listing a part parts h = listed_full a (part ∷ parts) (performed_from a parts 0 part h)
