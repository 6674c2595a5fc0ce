-- Records as words, the tests of the listings, and what calls leave in the list array.
use Prim.Native.Nat.{ℕ, ◌*◌, ◌≤◌, ◌<◌}
use native.Mathlib.Omega.{arith}
use mathlib.Core.Path.{◌≡◌, refl, sym, ap, ◌∙◌}
use mathlib.Core.Bool.{Bool, true, false, true≢false}
use mathlib.Core.List.{List, [], ◌∷◌, ◌++◌}
use mathlib.Core.Option.{Option, none, some}
use borrow.Author.Tests.{leb-true, le-leb, lt-leb}
use lib.Dec.{leb}
use lib.ListN.{length, take}
use Rattle.stores.proofs.Lists.{some_none}
use Rattle.stores.proofs.Written.{at_front_words, at_front_length}
use Rattle.replies.specs.declared.Refusal.TheVariants.{NoStore, Broken, Unmended, ShortList, NoLeader}
use Rattle.replies.specs.declared.Refusal.{Refusal}
use Rattle.replies.specs.Replies.{done, refuse, is_done, says_damage, unless}
use Rattle.replies.specs.Writing.{behind_tests}
use Rattle.std.specs.Prelude.{Ok}
use Rattle.replies.specs.declared.Reply.TheVariants.{Value}
use Rattle.replies.proofs.Sayable.{GivenBy, Sayable, by, listed_sayable, unless_given, writing_sayable}
use Rattle.index_rules.specs.Given.{has}
use Rattle.replies.proofs.Writings.{writing_passed, writing_nothing, writing_fits}
use Rattle.index_rules.specs.declared.Call.{Call}
use Rattle.index_rules.specs.declared.Call.TheVariants.{Format, Get, Put, Remove, Merge, Mend, List as ListCall, ListBlock}
use Rattle.index_rules.specs.Layout.{valid_header, depth, segments}
use Rattle.index_rules.specs.Scan.{leaders_valid, entries_agree}
use Rattle.index_rules.specs.Put.{directory_tests}
use Rattle.index_rules.specs.Listing.{Record, records, words_of, listing_tests, room_test, list_tests, list}
use Rattle.index_rules.specs.ListBlock.{leads, records_led, list_block_tests, list_block}
use Rattle.index_rules.specs.Step.{Effect, effect, lists, carried_out, words_by, step}
use Rattle.index_laws.specs.SameListing.{SameListing, SamePerformedListing, ListingRepeats, ListDone}
use Rattle.index_laws.proofs.Put.{unless_none}

-- ---- Records as words

pub words_none : words_of [] ≡ []
unfolding words_of
words_none = refl

pub words_one : (r : Record) → words_of (r ∷ []) ≡ r.key ∷ r.value ∷ []
unfolding words_of
words_one r = refl

pub words_append : (rs ss : List Record) → words_of (rs ++ ss) ≡ words_of rs ++ words_of ss
unfolding words_of
words_append [] ss = refl
words_append (r ∷ rs) ss = ap (λ (l : List ℕ). r.key ∷ r.value ∷ l) (words_append rs ss)

pub length_words : (rs : List Record) → length (words_of rs) ≡ 2 * length rs
unfolding words_of
length_words [] = refl
length_words (r ∷ rs) = let h : length (words_of rs) ≡ 2 * length rs = length_words rs in omega arith

-- ---- The tests of the listings

-- What both listings test first: one of 1, 3 and 4, whatever comes later; or none, and then what comes later decides.
pub data Front (a : List ℕ) : Type 0 where
  stops : (r : Refusal) → says_damage (refuse r) ≡ true → ((later : Option Refusal) → listing_tests a later ≡ some r) → Front a
  goes_on : ((later : Option Refusal) → listing_tests a later ≡ later) → Front a

pub front : (a : List ℕ) → Front a
unfolding listing_tests directory_tests unless
front a = go (valid_header a) refl (leaders_valid a (depth a) (segments a)) refl (entries_agree a (depth a)) refl
  where
    go : (x : Bool) → valid_header a ≡ x → (y : Bool) → leaders_valid a (depth a) (segments a) ≡ y → (z : Bool) → entries_agree a (depth a) ≡ z
        → Front a
    go false p y q z r = stops NoStore refl (λ later. rw p)
    go true p false q z r = stops Broken refl (λ later. rw (p, q))
    go true p true q false r = stops Unmended refl (λ later. rw (p, q, r))
    go true p true q true r = goes_on (λ later. rw (p, q, r))

-- So what they give with none after them decides.
pub listing_stops : (a : List ℕ) (r : Refusal) (later : Option Refusal) → listing_tests a none ≡ some r → listing_tests a later ≡ some r
listing_stops a r later e = go (front a)
  where
    go : Front a → listing_tests a later ≡ some r
    go (stops q d h) = h later ∙ sym (h none) ∙ e
    go (goes_on h) = absurd (some_none r (sym e ∙ h none))

pub listing_goes_on : (a : List ℕ) (later : Option Refusal) → listing_tests a none ≡ none → listing_tests a later ≡ later
listing_goes_on a later e = go (front a)
  where
    go : Front a → listing_tests a later ≡ later
    go (stops q d h) = absurd (some_none q (sym (h none) ∙ e))
    go (goes_on h) = h later

-- The tests in front of a listing have passed, and so have those after them.
pub record ListingPassed (a : List ℕ) (later : Option Refusal) : Type 0 where
  pub valid : valid_header a ≡ true
  pub leaders : leaders_valid a (depth a) (segments a) ≡ true
  pub agree : entries_agree a (depth a) ≡ true
  pub later_passed : later ≡ none

pub listing_passed : (a : List ℕ) (later : Option Refusal) → listing_tests a later ≡ none → ListingPassed a later
unfolding listing_tests directory_tests
listing_passed a later e =
    let t₁ = unless_none (valid_header a) NoStore _ e in
    let t₂ = unless_none (leaders_valid a (depth a) (segments a)) Broken _ t₁.1 in
    let t₃ = unless_none (entries_agree a (depth a)) Unmended later t₂.1 in
    record { valid = t₁.0; leaders = t₂.0; agree = t₃.0; later_passed = t₃.1 }

-- The test for 10: what passes it has room, and what has room passes it.
pub room_fits : (rs : List Record) (room : ℕ) → room_test rs room ≡ none → length (words_of rs) ≤ room
unfolding room_test
room_fits rs room e =
    let t = unless_none (leb (2 * length rs) room) ShortList none e in
    omega (arith, length_words rs, leb-true (2 * length rs) room t.0)

pub room_passed : (rs : List Record) (room : ℕ) → 2 * length rs ≤ room → room_test rs room ≡ none
unfolding room_test unless
room_passed rs room h = rw (le-leb (2 * length rs) room h)

pub room_short : (rs : List Record) (room : ℕ) → room < 2 * length rs → room_test rs room ≡ some ShortList
unfolding room_test unless
room_short rs room h = rw (lt-leb (2 * length rs) room h)

-- The tests behind those in front give 10 and 16 alone.
pub room_given : (may : ℕ → Bool) (rs : List Record) (room : ℕ) → may 10 ≡ true → GivenBy may (room_test rs room)
unfolding room_test
room_given may rs room g = unless_given may (leb (2 * length rs) room) ShortList none g Prim.tt

abbrev pub late : ℕ → Bool
late = has (10 ∷ 16 ∷ [])

pub list_late : (a : List ℕ) → listing_tests a none ≡ none → (room : ℕ) → Sayable late (list a room).reply
unfolding list list_tests has
list_late a passed room =
    rw (listing_goes_on a (room_test (records a) room) passed)
    (writing_sayable late _ _ (room_given late (records a) room refl) (by late (Ok (Value _)) Prim.tt))

pub list_block_late : (a : List ℕ) → listing_tests a none ≡ none → (i room : ℕ) → Sayable late (list_block a i room).reply
unfolding list_block list_block_tests has
list_block_late a passed i room =
    rw (listing_goes_on a (unless (leads a i) NoLeader (room_test (records_led a i) room)) passed)
    (writing_sayable late _ _ (unless_given late (leads a i) NoLeader _ refl (room_given late (records_led a i) room refl)) (listed_sayable late _ _))

-- The block's tests: the index leads, and the block's records have room.
pub record BlockPassed (a : List ℕ) (i room : ℕ) : Type 0 where
  pub valid : valid_header a ≡ true
  pub leaders : leaders_valid a (depth a) (segments a) ≡ true
  pub agree : entries_agree a (depth a) ≡ true
  pub leader : leads a i ≡ true
  pub fits : length (words_of (records_led a i)) ≤ room

pub block_passed : (a : List ℕ) (i room : ℕ) → list_block_tests a i room ≡ none → BlockPassed a i room
unfolding list_block_tests
block_passed a i room e =
    let p = listing_passed a _ e in
    let t = unless_none (leads a i) NoLeader (room_test (records_led a i) room) p.later_passed in
    record { valid = p.valid; leaders = p.leaders; agree = p.agree; leader = t.0; fits = room_fits (records_led a i) room t.1 }

-- ---- A done list

pub done_list_leaves : (a l : List ℕ) (n : ℕ) → (step a l ListCall).outcome.reply ≡ done (n ∷ []) → ListDone a l n
unfolding step effect list behind_tests
done_list_leaves a l n says =
    let passed : list_tests a (length l) ≡ none = writing_passed (list_tests a (length l)) _ (n ∷ []) says in
    let said : done (length (records a) ∷ []) ≡ done (n ∷ []) = rw passed at says in
    record { count = cc; left = rw passed refl }

-- ---- The list array, by any call

-- What a call on the index array a writes there, with `room` words lent: words that fit; none where it is not done, and none where
-- it does not list.
record Writes (a : List ℕ) (room : ℕ) (c : Call) : Type 0 where
  pub fits : length (words_by (effect a room c)) ≤ room
  pub none_refused : is_done (carried_out (effect a room c) a).reply ≡ false → words_by (effect a room c) ≡ []
  pub none_apart : lists c ≡ false → words_by (effect a room c) ≡ []

writes_nothing : (a : List ℕ) (room : ℕ) (c : Call) → words_by (effect a room c) ≡ [] → Writes a room c
writes_nothing a room c e = record { fits = rw e (omega arith); none_refused = λ k. e; none_apart = λ k. e }

-- Where the tests of a list pass, its words fit.
passed_fits : (a : List ℕ) (room : ℕ) → list_tests a room ≡ none → length (words_of (records a)) ≤ room
unfolding list_tests
passed_fits a room e = room_fits (records a) room (listing_passed a _ e).later_passed

effect_writes : (a : List ℕ) (room : ℕ) (c : Call) → Writes a room c
unfolding effect list list_block
effect_writes a room (Format D S allowance) = writes_nothing a room (Format D S allowance) refl
effect_writes a room (Get key) = writes_nothing a room (Get key) refl
effect_writes a room (Put key value allowance) = writes_nothing a room (Put key value allowance) refl
effect_writes a room (Remove key allowance) = writes_nothing a room (Remove key allowance) refl
effect_writes a room (Merge key allowance) = writes_nothing a room (Merge key allowance) refl
effect_writes a room (Mend allowance) = writes_nothing a room (Mend allowance) refl
effect_writes a room ListCall =
    record {
      fits = writing_fits (list_tests a room) _ room (passed_fits a room);
      none_refused = writing_nothing (list_tests a room) _ refl;
      none_apart = λ e. absurd (true≢false e);
    }
effect_writes a room (ListBlock i) =
    record {
      fits = writing_fits (list_block_tests a i room) _ room (λ e. (block_passed a i room e).fits);
      none_refused = writing_nothing (list_block_tests a i room) _ refl;
      none_apart = λ e. absurd (true≢false e);
    }

-- Its length stays: no word is written beyond it.
pub list_array_length : (a l : List ℕ) (c : Call) → length (step a l c).list ≡ length l
unfolding step
list_array_length a l c = at_front_length (words_by (effect a (length l) c)) l (effect_writes a (length l) c).fits

-- A reply that is not done leaves it as it was.
pub refusal_keeps_list : (a l : List ℕ) (c : Call) → is_done (step a l c).outcome.reply ≡ false → (step a l c).list ≡ l
unfolding step
refusal_keeps_list a l c e = rw ((effect_writes a (length l) c).none_refused e) refl

-- So does a call that does not list; and it does not look at it.
pub list_array_kept : (a l : List ℕ) (c : Call) → lists c ≡ false → (step a l c).list ≡ l
unfolding step
list_array_kept a l c q = rw ((effect_writes a (length l) c).none_apart q) refl

effect_apart : (a : List ℕ) (m n : ℕ) (c : Call) → lists c ≡ false → effect a m c ≡ effect a n c
unfolding effect
effect_apart a m n (Format D S allowance) e = refl
effect_apart a m n (Get key) e = refl
effect_apart a m n (Put key value allowance) e = refl
effect_apart a m n (Remove key allowance) e = refl
effect_apart a m n (Merge key allowance) e = refl
effect_apart a m n (Mend allowance) e = refl
effect_apart a m n ListCall e = absurd (true≢false e)
effect_apart a m n (ListBlock i) e = absurd (true≢false e)

pub step_apart : (a l m : List ℕ) (c : Call) → lists c ≡ false → (step a l c).outcome ≡ (step a m c).outcome
unfolding step
step_apart a l m c e = ap (λ (f : Effect). carried_out f a) (effect_apart a (length l) (length m) c e)

-- ---- Two listings of one untouched index

-- The words in front of what a done list leaves.
pub list_front : (a l : List ℕ) (n : ℕ) → ListDone a l n → take (2 * n) (step a l ListCall).list ≡ words_of (records a)
list_front a l n d =
    let size : 2 * n ≡ length (words_of (records a)) = omega (arith, d.count, length_words (records a)) in
    rw (size, d.left) (at_front_words (words_of (records a)) l)

pub same_listing : SameListing
same_listing a l m n k p q =
    let d = done_list_leaves a l n p in
    let e = done_list_leaves a m k q in
    record { count = d.count ∙ sym e.count; words = list_front a l n d ∙ sym (list_front a m k e) }

pub same_performed_listing : SamePerformedListing
same_performed_listing a n b l' k c m' p q =
    rw (p.performed.list, q.performed.list)
    (same_listing a p.list q.list n k (sym p.performed.answered.reply ∙ p.says) (sym q.performed.answered.reply ∙ q.says))

-- A list leaves the index array as it is.
pub listing_repeats : ListingRepeats
unfolding step effect
listing_repeats a n b l' k c m' p q = same_performed_listing a n b l' k c m' p (rw p.performed.answered.words at q)
