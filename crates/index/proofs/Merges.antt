-- The outcome of a merge, case by case, from what the code read, stored and answered.
use mathlib.Core.Path.{◌≡◌, ◌∙◌}
use mathlib.Core.List.{List, []}
use mathlib.Core.Option.{none, some}
use Prim.Native.Nat.{ℕ}
use Rattle.std.specs.Prelude.{Ok, Err}
use Rattle.stores.specs.declared.Budget.{Budget}
use Rattle.replies.specs.declared.Refusal.{Refusal}
use Rattle.replies.specs.declared.Refusal.TheVariants.{NoBuddy, BothLive}
use Rattle.replies.specs.declared.Answer.{Answer}
use Rattle.replies.specs.Replies.{done, refused, refuse, tested}
use Rattle.replies.specs.Answered.{Answered, AfterStores, Without}
use Rattle.replies.proofs.Answers.{answered_stores, answered_refused}
use Rattle.index_rules.specs.declared.Call.TheVariants.{Merge}
use Rattle.index_rules.specs.Layout.{depth}
use Rattle.index_rules.specs.Keys.{index}
use Rattle.index_rules.specs.Get.{key_entry}
use Rattle.index_rules.specs.Put.{put_tests}
use Rattle.index_rules.specs.Merge.{merge_tests, key_merging, merge}
use Rattle.index_rules.specs.Step.{effect, step, outcome_of}
use Rattle.index_laws.proofs.Put.{Passed, passed}
use Rattle.index_laws.proofs.Merge.{key_placed, left_below, right_below, no_buddy, both_live_holds, both_pass, tests_stop, tests_past}
use Rattle.index_layout.specs.declared.place.Place.{Place}
use Rattle.index_layout.specs.Places.{KeyPlace}
use Rattle.index_structure.specs.Merges.{HalvesBelow, MergedBy}
use Rattle.index.proofs.Places.{Stands}

-- Where the key's entry has a buddy, both name segments below S: the directory is consistent.
pub halves_below : {p : Place} {a : List ℕ} {key : ℕ} → KeyPlace p a → put_tests a key ≡ none → p.key ≡ key → HalvesBelow p a
halves_below {p} {a} {key} k t e =
    let h = key_placed a key t in
    rw e (λ b. (left_below h b, right_below h b))

module _ (a : List ℕ) (key allowance : ℕ) (r : Answer) where
  pub merge_refused : (q : Refusal) → put_tests a key ≡ some q → Without r (refuse q) → Answered (outcome_of a (Merge key allowance)) r a
  unfolding effect step merge
  merge_refused q e k = answered_refused allowance (merge_tests a key) q _ a r (tests_stop a key q e) k.0 k.1

  module _ (p : Place) (x : Stands p a key (put_tests a key)) where
    tests : Passed a key
    tests = passed a key x.0

    pub merge_no_buddy : (b : List ℕ) → MergedBy (Err NoBuddy) p allowance a b → Without r (refused 14) → Answered (outcome_of a (Merge key allowance)) r b
    unfolding effect step merge
    merge_no_buddy b m k =
        rw m.1
        (answered_refused allowance (merge_tests a key) NoBuddy _ a r
        (tests_past tests ∙ no_buddy a (index key (depth a)) (key_entry a key) (rw x.1 at m.0)) k.0 k.1)

    pub merge_both_live : (b : List ℕ) → MergedBy (Err BothLive) p allowance a b → Without r (refused 15) → Answered (outcome_of a (Merge key allowance)) r b
    unfolding effect step merge
    merge_both_live b m k =
        rw m.2
        (answered_refused allowance (merge_tests a key) BothLive _ a r
        (tests_past tests ∙ both_live_holds a (index key (depth a)) (key_entry a key) (rw x.1 at m.0) (rw x.1 at m.1)) k.0 k.1)

    pub merge_done : (y : Budget) (b : List ℕ) → MergedBy (Ok y) p allowance a b → AfterStores r (done []) y → Answered (outcome_of a (Merge key allowance)) r b
    unfolding effect step merge tested
    merge_done y b m k =
        rw (tests_past tests ∙ both_pass a (index key (depth a)) (key_entry a key) (rw x.1 at m.buddy) (rw x.1 at m.apart))
        (answered_stores allowance (record { due = key_merging a key; reply = done [] }) a r y b (rw x.1 at m.made) k)

    -- The merge of the halves has refused.
    pub merge_not_made : (q : Refusal) (b : List ℕ) → MergedBy (Err q) p allowance a b → Without r (refuse q) → Answered (outcome_of a (Merge key allowance)) r b
    merge_not_made NoBuddy b m k = merge_no_buddy b m k
    merge_not_made BothLive b m k = merge_both_live b m k
    merge_not_made _ b m k = absurd m
