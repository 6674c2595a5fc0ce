-- The statements of `specs/Finished`, `SameListing`, `JoinedListing` and `OneNumber` at small cases: each is taken as a hypothesis, and antt computes
-- what it asks for. This file imports no proof of a statement: one that holds of nothing, or says nothing, is refused here. Where a
-- conclusion is a record, samples that it must rule out stand beside it.
use Prim.Native.Nat.{ℕ, zero, suc, ◌^◌}
use mathlib.Core.Path.{◌≡◌, refl, sym, ap, ◌∙◌}
use mathlib.Core.Bool.{true, false}
use mathlib.Core.List.{List, [], ◌∷◌, ◌++◌}
use mathlib.Core.Option.{none, some, some-injective}
use native.Mathlib.Omega.{arith}
use lib.Dec.{lit≤, lit<}
use lib.ListN.{replicate}
use mathlib.Core.Logic.{◌⊎◌}
use Rattle.stores.specs.Store.{store, apply, word}
use Rattle.stores.specs.Plan.{Outcome}
use Rattle.stores.specs.Difference.{SameBut, address_behind}
use Rattle.replies.specs.declared.Refusal.TheVariants.{CutOff}
use Rattle.replies.specs.declared.Reply.{Reply}
use Rattle.std.specs.Prelude.{Some, None, Ok, Err}
use Rattle.replies.specs.declared.Reply.TheVariants.{Done, Value, Listed}
use Rattle.replies.specs.declared.Answer.{Answer}
use Rattle.replies.specs.Replies.{Said, done, refused, is_refusal, says_damage}
use Rattle.index_rules.specs.declared.Call.TheVariants.{Put, Merge, Mend, List as ListCall, ListBlock}
use Rattle.index_rules.specs.Layout.{depth, segments}
use Rattle.index_rules.specs.Scan.{consistent, leaders}
use Rattle.index_rules.specs.Merge.{merge, merge_tests}
use Rattle.index_rules.specs.Step.{effect, step, outcome_of, Performed}
use Rattle.index_laws.specs.Finished.{mended_by, MendedTo, slot_stores, MendingFinishes, MendingLeaves, MendingIsDone}
use Rattle.index_laws.specs.SameListing.{SameRecords, SameListing, ListPerformed, SamePerformedListing, ListingRepeats}
use Rattle.index_laws.specs.JoinedListing.{AlwaysEnough, SameDamage, joined, in_front, gathered_from, gather, FullListing, JoinedListing, BlockPerformed, JoinedPerformedListing}
use Rattle.index_laws.specs.OneNumber.{AtMostOneWord, next_address, OneMoreAllowed, OneMoreAllowedAt, SameButOneWord, OtherValue, value_word, NotStored, Stored, OtherValueAt, OneMorePerformed, outcome_by, OtherValuePerformed}
use Rattle.index_rules.proofs.Table.{computed}
use Rattle.index_rules.proofs.Rows.{word₀, entry₁, slot}
use Rattle.index_laws.proofs.Samples.{four}

-- ---- Mending behind a cut merge

-- Two blocks of depth 1 in a directory of depth 2, with page 23 in segment 1: a merge makes two stores in slots, then four of entries.
abbrev wide : List ℕ
wide = apply (four 0 1 0 1 1 1 1 1 ++ (store 192 23 ∷ store 193 230 ∷ [])) (replicate 520 0)

abbrev cut_merge : (allowance : ℕ) → List ℕ
cut_merge allowance = (outcome_of wide (Merge 7 allowance)).after

-- What a mend of one store and one of four leave of it.
abbrev mended : (allowance : ℕ) → List ℕ
mended allowance = (outcome_of (mended_by (1 ∷ []) (cut_merge allowance)) (Mend 4)).after

wide_consistent : consistent wide (depth wide) (segments wide) ≡ true
unfolding computed consistent
wide_consistent = refl

wide_passes : merge_tests wide 7 ≡ none
unfolding computed
wide_passes = refl

slot_stores_holds : slot_stores wide 7 ≡ 2
unfolding computed
slot_stores_holds = refl

behind_entry : MendedTo (cut_merge 3) (mended 3)
unfolding computed mended_by
behind_entry = record { before = 1 ∷ []; last = 4; reply = refl; left = refl }

before_entry : MendedTo (cut_merge 2) (mended 2)
unfolding computed mended_by
before_entry = record { before = 1 ∷ []; last = 4; reply = refl; left = refl }

pub merge_finished : MendingFinishes → mended 3 ≡ apply (merge wide 7).due wide
merge_finished finishes = finishes wide 7 3 wide_consistent wide_passes (rw slot_stores_holds (lit< tt)) (mended 3) behind_entry

pub merge_undone : MendingLeaves → mended 2 ≡ cut_merge 2
merge_undone leaves = leaves wide 7 2 wide_consistent wide_passes (rw slot_stores_holds (lit≤ tt)) (mended 2) before_entry

wide_deep : depth wide ≡ 2
unfolding computed
wide_deep = refl

pub merge_mended : MendingIsDone → (outcome_of (cut_merge 3) (Mend 4)).reply ≡ done []
merge_mended is-done = is-done wide 7 3 4 wide_consistent wide_passes (rw wide_deep (lit≤ tt))

-- ---- Two listings of one index

-- Page 7 in the left one of two blocks of depth 1, page 23 in the right one.
abbrev two : List ℕ
two = apply (word₀ 1 2 2 ∷ entry₁ 0 0 1 ∷ entry₁ 1 1 1 ∷ slot 28 7 ++ (store 192 23 ∷ store 193 230 ∷ [])) (replicate 264 0)

-- An answer with this reply and no store.
abbrev answering : Reply → Answer
answering reply = record { reply = Ok reply; stores = 0 }

-- The words of the two pages, in two list arrays that held other words.
abbrev listed_in₄ : List ℕ
listed_in₄ = 7 ∷ 70 ∷ 23 ∷ 230 ∷ []

abbrev listed_in₆ : List ℕ
listed_in₆ = 7 ∷ 70 ∷ 23 ∷ 230 ∷ 5 ∷ 6 ∷ []

listed_four : ListPerformed two 2 two listed_in₄
unfolding computed
listed_four =
    record {
      list = replicate 4 0;
      answer = answering (Value 2);
      performed = record { answered = record { reply = refl; stores = refl; words = refl }; list = refl };
      says = refl;
    }

listed_six : ListPerformed two 2 two listed_in₆
unfolding computed
listed_six =
    record {
      list = 1 ∷ 2 ∷ 3 ∷ 4 ∷ 5 ∷ 6 ∷ [];
      answer = answering (Value 2);
      performed = record { answered = record { reply = refl; stores = refl; words = refl }; list = refl };
      says = refl;
    }

listing_four : (step two (replicate 4 0) ListCall).outcome.reply ≡ done (2 ∷ [])
unfolding computed
listing_four = refl

listing_six : (step two (replicate 6 5) ListCall).outcome.reply ≡ done (2 ∷ [])
unfolding computed
listing_six = refl

pub listed_twice : SameListing
    → SameRecords 2 (step two (replicate 4 0) ListCall).list 2 (step two (replicate 6 5) ListCall).list
listed_twice same = same two (replicate 4 0) (replicate 6 5) 2 2 listing_four listing_six

pub performed_twice : SamePerformedListing → SameRecords 2 listed_in₄ 2 listed_in₆
performed_twice same = same two 2 two listed_in₄ 2 two listed_in₆ listed_four listed_six

pub performed_again : ListingRepeats → SameRecords 2 listed_in₄ 2 listed_in₆
performed_again repeats = repeats two 2 two listed_in₄ 2 two listed_in₆ listed_four listed_six

-- Another number of records, and another word.
pub other_count : SameRecords 1 listed_in₄ 2 listed_in₆ → ⊥
other_count s = omega (arith, s.count)

pub other_word : SameRecords 1 (7 ∷ 70 ∷ []) 1 (7 ∷ 71 ∷ []) → ⊥
other_word s = omega (arith, ap (λ (l : List ℕ). word l 1) s.words)

-- ---- The listing of one block

pub enough_words : AlwaysEnough → (a : List ℕ) (i : ℕ) → is_refusal 10 (step a (replicate 128 0) (ListBlock i)).outcome.reply ≡ false
enough_words enough a i = enough a (replicate 128 0) i (lit≤ tt)

-- No index; one whose second leader names a segment behind the last; one whose second entry differs from its leader.
abbrev broken : List ℕ
broken = apply (entry₁ 1 9 1 ∷ []) two

abbrev unmended : List ℕ
unmended = apply (entry₁ 0 0 0 ∷ []) two

nothing_listed : is_refusal 1 (step [] [] ListCall).outcome.reply ≡ true
unfolding computed
nothing_listed = refl

broken_listed : is_refusal 3 (step broken [] ListCall).outcome.reply ≡ true
unfolding computed
broken_listed = refl

unmended_listed : is_refusal 4 (step unmended [] ListCall).outcome.reply ≡ true
unfolding computed
unmended_listed = refl

pub nothing_said : SameDamage → is_refusal 1 (step [] (replicate 128 0) (ListBlock 0)).outcome.reply ≡ true
nothing_said same = sym (same [] [] (replicate 128 0) 0 1 refl) ∙ nothing_listed

pub broken_said : SameDamage → is_refusal 3 (step broken (replicate 128 0) (ListBlock 9)).outcome.reply ≡ true
broken_said same = sym (same broken [] (replicate 128 0) 9 3 refl) ∙ broken_listed

pub unmended_said : SameDamage → is_refusal 4 (step unmended (replicate 128 0) (ListBlock 1)).outcome.reply ≡ true
unmended_said same = sym (same unmended [] (replicate 128 0) 1 4 refl) ∙ unmended_listed

-- ---- Its answers, joined

-- The words of the two blocks.
abbrev parts : List (List ℕ)
parts = (7 ∷ 70 ∷ []) ∷ (23 ∷ 230 ∷ []) ∷ []

two_listed : says_damage (step two [] ListCall).outcome.reply ≡ false
unfolding computed
two_listed = refl

two_gathered : gather two (2 ^ depth two) 0 (replicate 128 0) ≡ some parts
unfolding computed in_front gathered_from gather
two_gathered = refl

pub joined_so : JoinedListing → FullListing two parts
joined_so joins =
    let g = joins two (replicate 128 0) [] (lit≤ tt) two_listed in
    let same : g.parts ≡ parts = some-injective g.parts parts (sym g.gathered ∙ two_gathered) in
    rw same at g.full

first_block : BlockPerformed two 0 (7 ∷ 70 ∷ []) (some 1)
unfolding computed
first_block =
    record {
      list = replicate 128 0;
      answer = answering (Listed 1 (Some 1));
      after = two;
      list_after = 7 ∷ 70 ∷ replicate 126 0;
      performed = record { answered = record { reply = refl; stores = refl; words = refl }; list = refl };
      count = 1;
      says = refl;
      words = refl;
    }

second_block : BlockPerformed two 1 (23 ∷ 230 ∷ []) none
unfolding computed
second_block =
    record {
      list = 5 ∷ 6 ∷ [];
      answer = answering (Listed 1 None);
      after = two;
      list_after = 23 ∷ 230 ∷ [];
      performed = record { answered = record { reply = refl; stores = refl; words = refl }; list = refl };
      count = 1;
      says = refl;
      words = refl;
    }

pub performed_joined : JoinedPerformedListing → FullListing two parts
performed_joined joins = joins two (7 ∷ 70 ∷ []) ((23 ∷ 230 ∷ []) ∷ []) (1, first_block, second_block)

-- No full listing: with another word, or with both blocks in one part.
pub other_part : FullListing two ((7 ∷ 71 ∷ []) ∷ (23 ∷ 230 ∷ []) ∷ []) → ⊥
unfolding computed joined
other_part f = omega (arith, ap (λ (l : List ℕ). word l 1) f.words)

pub one_part : FullListing two ((7 ∷ 70 ∷ 23 ∷ 230 ∷ []) ∷ []) → ⊥
unfolding computed leaders
one_part f = omega (arith, f.blocks)

pub other_list : FullListing two ((7 ∷ 71 ∷ []) ∷ (23 ∷ 230 ∷ []) ∷ []) → ⊥
unfolding computed joined
other_list f = omega (arith, ap (λ (l : List ℕ). word l 1) (f.list (replicate 4 0) 2 refl))

-- ---- One store more

-- An index with no page: a put of one makes two stores, the value in word 65, then the key in word 64.
abbrev empty : List ℕ
empty = apply (word₀ 0 2 1 ∷ []) (replicate 136 0)

put_cut : Performed (Put 7 70 1) empty [] (record { reply = Err CutOff; stores = 1 }) (apply (store 65 70 ∷ []) empty) []
unfolding computed
put_cut = record { answered = record { reply = refl; stores = refl; words = refl }; list = refl }

put_done : Performed (Put 7 70 2) empty [] (record { reply = Ok Done; stores = 2 }) (apply (store 65 70 ∷ store 64 7 ∷ []) empty) []
unfolding computed
put_done = record { answered = record { reply = refl; stores = refl; words = refl }; list = refl }

next_address_holds : next_address (effect empty 0 (Put 7 70 1)) ≡ some 64
unfolding computed address_behind
next_address_holds = refl

pub one_more_made : OneMorePerformed
    → AtMostOneWord (apply (store 65 70 ∷ []) empty) (apply (store 65 70 ∷ store 64 7 ∷ []) empty)
    × SameBut 64 (apply (store 65 70 ∷ []) empty) (apply (store 65 70 ∷ store 64 7 ∷ []) empty)
one_more_made more =
    rw next_address_holds at (more (Put 7 70 1) empty [] (record { reply = Err CutOff; stores = 1 }) (apply (store 65 70 ∷ []) empty) []
    (record { reply = Ok Done; stores = 2 }) (apply (store 65 70 ∷ store 64 7 ∷ []) empty) [] put_cut put_done)

pub allowed_more : OneMoreAllowed → AtMostOneWord (step empty [] (Put 7 70 1)).outcome.after (step empty [] (Put 7 70 2)).outcome.after
allowed_more one = one empty [] (Put 7 70 1)

pub allowed_more_at : OneMoreAllowedAt → SameBut 64 (step empty [] (Put 7 70 1)).outcome.after (step empty [] (Put 7 70 2)).outcome.after
allowed_more_at one = rw next_address_holds at (one empty [] (Put 7 70 1))

-- Two words that differ.
pub two_words : AtMostOneWord (1 ∷ 1 ∷ []) (2 ∷ 2 ∷ []) → ⊥
two_words d = differ d.address d.same
  where
    differ : (at : ℕ) → SameBut at (1 ∷ 1 ∷ []) (2 ∷ 2 ∷ []) → ⊥
    differ zero s = omega (arith, s.words 1 (λ e. omega (arith, e)))
    differ (suc n) s = omega (arith, s.words 0 (λ e. omega (arith, e)))

-- ---- Another value

other_cut : Performed (Put 7 71 1) empty [] (record { reply = Err CutOff; stores = 1 }) (apply (store 65 71 ∷ []) empty) []
unfolding computed
other_cut = record { answered = record { reply = refl; stores = refl; words = refl }; list = refl }

-- What the two puts, cut between value and key, have answered and left.
abbrev answered : (value : ℕ) → Outcome Said
answered value = outcome_by (record { reply = Err CutOff; stores = 1 }) (apply (store 65 value ∷ []) empty)

pub other_value_made : OtherValuePerformed
    → SameButOneWord (answered 70) (answered 71) × (NotStored (answered 70) (answered 71) ⊎ Stored 7 70 71 (answered 70) (answered 71))
other_value_made other =
    other 7 70 71 1 empty [] (record { reply = Err CutOff; stores = 1 }) (apply (store 65 70 ∷ []) empty) []
    (record { reply = Err CutOff; stores = 1 }) (apply (store 65 71 ∷ []) empty) [] put_cut other_cut

pub other_value_same : OtherValue → SameButOneWord (step empty [] (Put 7 70 2)).outcome (step empty [] (Put 7 71 2)).outcome
other_value_same other = other empty [] 7 70 71 2

pub other_value_at : OtherValueAt
    → NotStored (step empty [] (Put 7 70 2)).outcome (step empty [] (Put 7 71 2)).outcome
    ⊎ Stored 7 70 71 (step empty [] (Put 7 70 2)).outcome (step empty [] (Put 7 71 2)).outcome
other_value_at other = other empty [] 7 70 71 2

-- Outcomes that are not the same but for one word: one says another number, one has made another number of stores. And a value that was not stored.
abbrev outcome : (n made : ℕ) → Outcome Said
outcome n made = record { reply = refused n; made = made; after = [] }

pub other_reply : SameButOneWord (outcome 5 0) (outcome 6 0) → ⊥
other_reply s = let e : ◌≡◌ {A = ℕ} 5 6 = cc s.reply in omega arith

pub other_made : SameButOneWord (outcome 7 1) (outcome 7 2) → ⊥
other_made s = omega (arith, s.made)

value_word_is : value_word (apply (store 65 70 ∷ []) empty) 7 ≡ some 65
unfolding computed
value_word_is = refl

pub not_the_value : Stored 7 72 71 (answered 70) (answered 71) → ⊥
unfolding apply
not_the_value s = omega (arith, wrong s.address s.first s.first_value)
  where
    wrong : (at : ℕ) → value_word (apply (store 65 70 ∷ []) empty) 7 ≡ some at → word (apply (store 65 70 ∷ []) empty) at ≡ 72 → ◌≡◌ {A = ℕ} 70 72
    wrong at e f = rw (← some-injective 65 at (sym value_word_is ∙ e)) at f
