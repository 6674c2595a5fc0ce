-- Each call's outcome, case by case, from what the code read, stored and answered.
use mathlib.Core.Path.{◌≡◌, refl}
use mathlib.Core.Bool.{true, false}
use mathlib.Core.List.{List, [], ◌∷◌}
use mathlib.Core.Option.{none, some}
use Prim.Native.Nat.{ℕ, ◌≤◌, ◌<◌}
use borrow.Author.Tests.{le-leb, lt-leb}
use lib.ListN.{length}
use Rattle.stores.specs.declared.Budget.{Budget}
use Rattle.stores.specs.Executed.{Executed, begun}
use Rattle.cells.specs.Cells.{value_at}
use Rattle.replies.specs.declared.Refusal.{Refusal}
use Rattle.replies.specs.declared.Refusal.TheVariants.{NoStore, Broken, BadShape, TooShort}
use Rattle.replies.specs.declared.Answer.{Answer}
use Rattle.index_rules.specs.declared.Call.TheVariants.{Format, Get, Remove, Mend}
use Rattle.index_rules.specs.Layout.{valid_shape, valid_header, words_for, depth, segments}
use Rattle.index_rules.specs.Scan.{leaders_valid}
use Rattle.index_rules.specs.Slots.{hit}
use Rattle.replies.specs.Replies.{done, absent, refused, refuse, unless, tested, replied, changed}
use Rattle.index_rules.specs.Format.{format_tests, format_stores, format}
use Rattle.index_rules.specs.Get.{get_tests, value_at_hit, get}
use Rattle.index_rules.specs.Put.{put_tests}
use Rattle.index_rules.specs.Remove.{remove_tests, cleared_at, remove}
use Rattle.index_rules.specs.Mend.{mend_tests, mending, mend}
use Rattle.index_rules.specs.Step.{effect, step, outcome_of}
use Rattle.replies.specs.Answered.{Answered, AfterStores, Without}
use Rattle.replies.proofs.Answers.{answered_stores, answered_only, answered_refused}
use Rattle.index_layout.specs.declared.place.Place.{Place}
use Rattle.index.specs.Slots.{key_removed}
use Rattle.index.proofs.Places.{Stands}

-- ---- Format

module _ (a : List ℕ) (D S allowance : ℕ) (r : Answer) where
  pub format_bad_shape : valid_shape D S ≡ false → Without r (refused 8) → Answered (outcome_of a (Format D S allowance)) r a
  unfolding effect step format format_tests unless
  format_bad_shape e k = answered_refused allowance (format_tests a D S) BadShape _ a r (rw e) k.0 k.1

  module _ (v : valid_shape D S ≡ true) where
    pub format_too_short : length a < words_for D S → Without r (refused 9) → Answered (outcome_of a (Format D S allowance)) r a
    unfolding effect step format format_tests unless
    format_too_short e k =
        answered_refused allowance (format_tests a D S) TooShort _ a r (rw (v, lt-leb (words_for D S) (length a) e)) k.0 k.1

    pub format_done : words_for D S ≤ length a → (x : Budget) (after : List ℕ) → Executed (format_stores D S) (begun allowance) a x after
        → AfterStores r (done []) x → Answered (outcome_of a (Format D S allowance)) r after
    unfolding effect step format format_tests unless tested
    format_done e x after m k =
        rw (v, le-leb (words_for D S) (length a) e)
        (answered_stores allowance (record { due = format_stores D S; reply = done [] }) a r x after m k)

-- ---- Get

module _ (a : List ℕ) (key : ℕ) where
  pub get_answer : (r : Answer) → Without r (get a key) → Answered (outcome_of a (Get key)) r a
  unfolding effect step
  get_answer r k = record { reply = k.0; stores = k.1; words = refl }

  pub get_refused : (q : Refusal) → get_tests a key ≡ some q → refuse q ≡ get a key
  unfolding get replied
  get_refused q e = rw e

  module _ (p : Place) (x : Stands p a key (get_tests a key)) where
    pub get_absent : none ≡ hit a p.base p.key → absent ≡ get a key
    unfolding get replied value_at_hit
    get_absent h = rw (x.0, ← x.1, x.2.base_is, ← h)

    pub get_found : (j : ℕ) → some j ≡ hit a p.base p.key → done (value_at a p.base j ∷ []) ≡ get a key
    unfolding get replied value_at_hit
    get_found j h = rw (x.0, ← x.1, x.2.base_is, ← h)

-- ---- Remove, whose tests are those of put

module _ (a : List ℕ) (key allowance : ℕ) (r : Answer) where
  pub remove_refused : (q : Refusal) → put_tests a key ≡ some q → Without r (refuse q) → Answered (outcome_of a (Remove key allowance)) r a
  unfolding effect step remove remove_tests put_tests
  remove_refused q e k = answered_refused allowance (remove_tests a key) q _ a r e k.0 k.1

  module _ (p : Place) (x : Stands p a key (put_tests a key)) where
    pub remove_absent : hit a p.base p.key ≡ none → Without r absent → Answered (outcome_of a (Remove key allowance)) r a
    unfolding effect step remove remove_tests put_tests tested cleared_at
    remove_absent h k = rw (x.0, ← x.1, x.2.base_is, h) (answered_only allowance absent a r k.0 k.1)

    pub remove_done : (j : ℕ) → hit a p.base p.key ≡ some j → (after : List ℕ)
        → Answered (changed allowance (key_removed p j) a) r after
        → Answered (outcome_of a (Remove key allowance)) r after
    unfolding effect step remove remove_tests put_tests tested cleared_at
    remove_done j h after k = rw (x.0, ← x.1, x.2.base_is, h) k

-- ---- Mend

module _ (a : List ℕ) (allowance : ℕ) (r : Answer) where
  pub mend_no_store : valid_header a ≡ false → Without r (refused 1) → Answered (outcome_of a (Mend allowance)) r a
  unfolding effect step mend mend_tests unless
  mend_no_store e k = answered_refused allowance (mend_tests a) NoStore _ a r (rw e) k.0 k.1

  module _ (v : valid_header a ≡ true) where
    pub mend_broken : leaders_valid a (depth a) (segments a) ≡ false → Without r (refused 3) → Answered (outcome_of a (Mend allowance)) r a
    unfolding effect step mend mend_tests unless
    mend_broken e k = answered_refused allowance (mend_tests a) Broken _ a r (rw (v, e)) k.0 k.1

    pub mend_done : leaders_valid a (depth a) (segments a) ≡ true → (x : Budget) (after : List ℕ)
        → Executed (mending a) (begun allowance) a x after → AfterStores r (done []) x → Answered (outcome_of a (Mend allowance)) r after
    unfolding effect step mend mend_tests unless tested
    mend_done e x after m k =
        rw (v, e) (answered_stores allowance (record { due = mending a; reply = done [] }) a r x after m k)
