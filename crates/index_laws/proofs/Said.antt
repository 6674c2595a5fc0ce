-- Every reply of every call, on every array, is one that the code's enum has: done, done with one value or with what a list of one block
-- says, absent, or one of the refusals that the documents list for that call.
use Prim.Native.Nat.{ℕ, zero, suc, ◌<◌}
use mathlib.Core.Path.{◌≡◌, refl, sym}
use mathlib.Core.Bool.{Bool, true, true≢false, not, ◌&&◌, ◌||◌}
use mathlib.Core.List.{List, [], ◌∷◌}
use mathlib.Core.Option.{Option, none, some}
use mathlib.Core.Logic.{◌⊎◌, inl, inr, ⊎_elim}
use borrow.Author.Tests.{eqb-true, ltb-true}
use lib.Dec.{leb, ltb, eqb}
use lib.ListN.{length}
use Rattle.stores.specs.Plan.{Plan}
use Rattle.stores.proofs.Tests.{and_left, and_right, or_cases}
use Rattle.replies.specs.declared.Refusal.{Refusal}
use Rattle.replies.specs.declared.Refusal.TheVariants.{NoStore, NoKey, Broken, Unmended, TooDeep, NoSegment, BadShape, TooShort, NoBuddy, BothLive, NoLeader}
use Rattle.std.specs.Prelude.{Ok, Err}
use Rattle.replies.specs.declared.Reply.TheVariants.{Done, Value, Absent}
use Rattle.index_rules.specs.declared.Call.{Call}
use Rattle.index_rules.specs.declared.Call.TheVariants.{Format, Get, Put, Remove, Merge, Mend, List as ListCall, ListBlock}
use Rattle.replies.specs.Replies.{Said, refused}
use Rattle.replies.proofs.Sayable.{GivenBy, Sayable, by, listed_sayable, unless_given, tested_sayable, replied_sayable, writing_sayable, changed_sayable, refused_given}
use Rattle.index_rules.specs.Layout.{valid_shape, words_for, valid_header, depth, segments}
use Rattle.index_rules.specs.Keys.{index}
use Rattle.index_rules.specs.Scan.{in_range, leaders_valid, entries_agree}
use Rattle.index_rules.specs.Format.{format_tests, format}
use Rattle.index_rules.specs.Slots.{Choice, found, into, full, hit, free_segment}
use Rattle.index_rules.specs.Get.{key_entry, key_segment, key_tests, entry_tests, get_tests, value_at_hit, get}
use Rattle.index_rules.specs.Put.{directory_tests, put_tests, key_choice, placed, into_free, put_unused, unused, put}
use Rattle.index_rules.specs.Remove.{remove_tests, cleared_at, remove}
use Rattle.index_rules.specs.Merge.{has_buddy, both_live_at, halves_tests, merge_tests, merge}
use Rattle.index_rules.specs.Mend.{mend_tests, mend}
use Rattle.index_rules.specs.Listing.{records, listing_tests, list_tests, list}
use Rattle.index_rules.specs.ListBlock.{leads, records_led, list_block_tests, list_block}
use Rattle.index_rules.specs.Step.{Effect, changes, answers, effect, carried_out, step}
use Rattle.index_rules.specs.Given.{refusals_of, has, gives}
use Rattle.index_laws.proofs.Refusals.{reply_by}
use Rattle.index_laws.proofs.Listing.{room_given}

-- ---- The tests in front of several calls

module _ (may : ℕ → Bool) (a : List ℕ) where
  key_given : (key : ℕ) (later : Option Refusal) → may 1 ≡ true → may 2 ≡ true → GivenBy may later → GivenBy may (key_tests a key later)
  unfolding key_tests
  key_given key later g₁ g₂ k =
      unless_given may (valid_header a) NoStore _ g₁ (unless_given may (not (eqb key 0)) NoKey later g₂ k)

  directory_given : (later : Option Refusal) → may 3 ≡ true → may 4 ≡ true → GivenBy may later → GivenBy may (directory_tests a later)
  unfolding directory_tests
  directory_given later g₃ g₄ k =
      unless_given may (leaders_valid a (depth a) (segments a)) Broken _ g₃ (unless_given may (entries_agree a (depth a)) Unmended later g₄ k)

  listing_given : (later : Option Refusal) → may 1 ≡ true → may 3 ≡ true → may 4 ≡ true → GivenBy may later → GivenBy may (listing_tests a later)
  unfolding listing_tests
  listing_given later g₁ g₃ g₄ k = unless_given may (valid_header a) NoStore _ g₁ (directory_given later g₃ g₄ k)

-- ---- The calls

module _ (may : ℕ → Bool) where
  value_at_hit_sayable : (a : List ℕ) (base : ℕ) (h : Option ℕ) → Sayable may (value_at_hit a base h)
  unfolding value_at_hit
  value_at_hit_sayable a base none = by may (Ok Absent) Prim.tt
  value_at_hit_sayable a base (some j) = by may (Ok (Value _)) Prim.tt

  cleared_at_sayable : (base : ℕ) (h : Option ℕ) → Sayable may (cleared_at base h).reply
  unfolding cleared_at
  cleared_at_sayable base none = by may (Ok Absent) Prim.tt
  cleared_at_sayable base (some j) = by may (Ok Done) Prim.tt

  placed_sayable : (base key value : ℕ) (c : Choice) (p : Plan Said) → Sayable may p.reply → Sayable may (placed base key value c p).reply
  unfolding placed
  placed_sayable base key value (found j) p s = by may (Ok Done) Prim.tt
  placed_sayable base key value (into j) p s = by may (Ok Done) Prim.tt
  placed_sayable base key value full p s = s

  into_free_sayable : (n : Option ℕ) (split : ℕ → Plan Said) → may 6 ≡ true → ((m : ℕ) → Sayable may (split m).reply)
      → Sayable may (into_free n split).reply
  unfolding into_free
  into_free_sayable none split g s = by may (Err NoSegment) g
  into_free_sayable (some m) split g s = s m

-- What a put says is what any put can give, whatever its key, value and allowance.
abbrev put_gives : ℕ → Bool
put_gives = gives (Put 0 0 0)

put_unused_sayable : (u : ℕ) (a : List ℕ) (key value : ℕ) → Sayable put_gives (put_unused u a key value).reply
unfolding put_unused put_tests gives refusals_of has
put_unused_sayable zero a key value =
    tested_sayable put_gives (put_tests a key) _ (key_given put_gives a key _ refl refl (directory_given put_gives a none refl refl Prim.tt))
    (placed_sayable put_gives (key_segment a key) key value (key_choice a key) _ (by put_gives (Err TooDeep) refl))
put_unused_sayable (suc u) a key value =
    tested_sayable put_gives (put_tests a key) _ (key_given put_gives a key _ refl refl (directory_given put_gives a none refl refl Prim.tt))
    (placed_sayable put_gives (key_segment a key) key value (key_choice a key) _
    (into_free_sayable put_gives (free_segment a) _ refl (λ n. put_unused_sayable u _ key value)))

-- A call that changes the array can give 7.
abbrev CutGiven : Effect → (ℕ → Bool) → Type 0
CutGiven (changes allowance p) may = may 7 ≡ true
CutGiven (answers w) may = Unit {0}

carried_sayable : (may : ℕ → Bool) (e : Effect) (a : List ℕ) → CutGiven e may → Sayable may (reply_by e) → Sayable may (carried_out e a).reply
carried_sayable may (changes allowance p) a g s = changed_sayable may allowance p a g s
carried_sayable may (answers w) a g s = s

cut_given : (a : List ℕ) (room : ℕ) (call : Call) → CutGiven (effect a room call) (gives call)
unfolding effect gives refusals_of has
cut_given a room (Format D S allowance) = refl
cut_given a room (Get key) = Prim.tt
cut_given a room (Put key value allowance) = refl
cut_given a room (Remove key allowance) = refl
cut_given a room (Merge key allowance) = refl
cut_given a room (Mend allowance) = refl
cut_given a room ListCall = Prim.tt
cut_given a room (ListBlock i) = Prim.tt

effect_sayable : (a : List ℕ) (room : ℕ) (call : Call) → Sayable (gives call) (reply_by (effect a room call))
unfolding effect format format_tests get get_tests entry_tests put remove remove_tests merge merge_tests halves_tests mend mend_tests list list_tests list_block list_block_tests gives refusals_of has
effect_sayable a room (Format D S allowance) =
    let may = gives (Format D S allowance) in
    tested_sayable may _ _
    (unless_given may (valid_shape D S) BadShape _ refl (unless_given may (leb (words_for D S) (length a)) TooShort none refl Prim.tt))
    (by may (Ok Done) Prim.tt)
effect_sayable a room (Get key) =
    let may = gives (Get key) in
    replied_sayable may _ _
    (key_given may a key _ refl refl (unless_given may (in_range (depth a) (segments a) (key_entry a key)) Broken none refl Prim.tt))
    (value_at_hit_sayable may a (key_segment a key) (hit a (key_segment a key) key))
effect_sayable a room (Put key value allowance) = put_unused_sayable (unused a key) a key value
effect_sayable a room (Remove key allowance) =
    let may = gives (Remove key allowance) in
    tested_sayable may _ _ (key_given may a key _ refl refl (directory_given may a none refl refl Prim.tt))
    (cleared_at_sayable may (key_segment a key) (hit a (key_segment a key) key))
effect_sayable a room (Merge key allowance) =
    let may = gives (Merge key allowance) in
    let i : ℕ = index key (depth a) in
    tested_sayable may _ _
    (key_given may a key _ refl refl
    (directory_given may a _ refl refl
    (unless_given may (has_buddy a i (key_entry a key)) NoBuddy _ refl
    (unless_given may (not (both_live_at a i (key_entry a key))) BothLive none refl Prim.tt))))
    (by may (Ok Done) Prim.tt)
effect_sayable a room (Mend allowance) =
    let may = gives (Mend allowance) in
    tested_sayable may _ _
    (unless_given may (valid_header a) NoStore _ refl (unless_given may (leaders_valid a (depth a) (segments a)) Broken none refl Prim.tt))
    (by may (Ok Done) Prim.tt)
effect_sayable a room ListCall =
    let may = gives ListCall in
    writing_sayable may _ _ (listing_given may a _ refl refl refl (room_given may (records a) room refl)) (by may (Ok (Value _)) Prim.tt)
effect_sayable a room (ListBlock i) =
    let may = gives (ListBlock i) in
    writing_sayable may _ _
    (listing_given may a _ refl refl refl (unless_given may (leads a i) NoLeader _ refl (room_given may (records_led a i) room refl)))
    (listed_sayable may _ _)

pub step_sayable : (a l : List ℕ) (call : Call) → Sayable (gives call) (step a l call).outcome.reply
unfolding step
step_sayable a l call =
    carried_sayable (gives call) (effect a (length l) call) a (cut_given a (length l) call) (effect_sayable a (length l) call)

-- A refusal of a call is one that the table lists for it.
pub refusal_listed : (a l : List ℕ) (call : Call) (n : ℕ) → (step a l call).outcome.reply ≡ refused n → gives call n ≡ true
refusal_listed a l call n e = refused_given (gives call) n (step_sayable a l call) e

-- No call of the index gives 11, 12 or 13: they are the board's.
all_apart : List ℕ → Bool
all_apart [] = true
all_apart (x ∷ xs) = (ltb x 11 || ltb 13 x) && all_apart xs

apart : (call : Call) → all_apart (refusals_of call) ≡ true
unfolding all_apart refusals_of
apart (Format D S allowance) = refl
apart (Get key) = refl
apart (Put key value allowance) = refl
apart (Remove key allowance) = refl
apart (Merge key allowance) = refl
apart (Mend allowance) = refl
apart ListCall = refl
apart (ListBlock i) = refl

has_apart : (xs : List ℕ) (n : ℕ) → all_apart xs ≡ true → has xs n ≡ true → ltb n 11 || ltb 13 n ≡ true
unfolding all_apart has
has_apart [] n h k = absurd (true≢false (sym k))
has_apart (x ∷ xs) n h k =
    ⊎_elim
    (λ (e : eqb x n ≡ true). rw (eqb-true x n e) at (and_left (ltb x 11 || ltb 13 x) (all_apart xs) h))
    (λ (e : has xs n ≡ true). has_apart xs n (and_right (ltb x 11 || ltb 13 x) (all_apart xs) h) e)
    (or_cases (eqb x n) (has xs n) k)

pub not_the_boards : (a l : List ℕ) (call : Call) (n : ℕ) → (step a l call).outcome.reply ≡ refused n → (n < 11) ⊎ (13 < n)
unfolding gives
not_the_boards a l call n e =
    ⊎_elim
    (λ (t : ltb n 11 ≡ true). inl (ltb-true n 11 t))
    (λ (t : ltb 13 n ≡ true). inr (ltb-true 13 n t))
    (or_cases (ltb n 11) (ltb 13 n) (has_apart (refusals_of call) n (apart call) (refusal_listed a l call n e)))
