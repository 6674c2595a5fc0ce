-- The tests in front of the calls with a key, from what was read of the array.
use mathlib.Core.Path.{◌≡◌, refl, sym, ◌∙◌}
use mathlib.Core.Bool.{true, false}
use mathlib.Core.List.{List}
use mathlib.Core.Option.{Option, none, some}
use Rattle.std.specs.Prelude.{Result, Ok}
use Prim.Native.Nat.{ℕ, ◌+◌, ◌≤◌, ◌<◌}
use lib.ListN.{length}
use borrow.Author.Tests.{eq-eqb, ne_eqb}
use Rattle.replies.specs.declared.Refusal.{Refusal}
use Rattle.replies.specs.declared.Refusal.TheVariants.{NoStore, NoKey}
use Rattle.replies.specs.Replies.{unless}
use Rattle.index_rules.specs.Layout.{valid_header, depth, segments}
use Rattle.index_rules.specs.Get.{key_entry, key_segment, key_tests, entry_tests, get_tests}
use Rattle.index_rules.specs.Put.{directory_tests, put_tests, key_choice}
use Rattle.index_rules.specs.Slots.{choose, hit, found}
use Rattle.index_laws.proofs.Keys.{index_shift}
use Rattle.index_laws.proofs.Scan.{in_range_holds}
use Rattle.index_laws.proofs.Put.{passed, choice_found, choice_into, choice_full}
use Rattle.index_laws.proofs.Range.{hit_slot}
use Rattle.index_segment.specs.declared.choice.Choice.{Choice}
use Rattle.index_segment.specs.declared.choice.Choice.TheVariants.{Found, Into, Full}
use Rattle.index_segment.specs.Answers.{choice_of}
use Rattle.index_layout.specs.declared.place.Place.{Place}
use Rattle.index_layout.specs.Places.{KeyPlace, PlacedBy, shared_at}
use Rattle.index_layout.proofs.Places.{place_bounds, place_shared}

module _ (a : List ℕ) (key : ℕ) (later : Option Refusal) where
  key_tests_no_store : valid_header a ≡ false → key_tests a key later ≡ some NoStore
  unfolding key_tests unless
  key_tests_no_store e = rw e

  key_tests_no_key : valid_header a ≡ true → key ≡ 0 → key_tests a key later ≡ some NoKey
  unfolding key_tests unless
  key_tests_no_key e z = rw (e, eq-eqb key 0 z)

  key_tests_later : valid_header a ≡ true → (key ≡ 0 → ⊥) → key_tests a key later ≡ later
  unfolding key_tests unless
  key_tests_later e z = rw (e, ne_eqb key 0 z)

module _ (a : List ℕ) (key : ℕ) where
  pub read_no_store : valid_header a ≡ false → get_tests a key ≡ some NoStore
  unfolding get_tests
  read_no_store e = key_tests_no_store a key (entry_tests a key) e

  pub read_no_key : valid_header a ≡ true → key ≡ 0 → get_tests a key ≡ some NoKey
  unfolding get_tests
  read_no_key e z = key_tests_no_key a key (entry_tests a key) e z

  -- With a valid word 0 and a key, the key's entry decides.
  pub read_entry_decides : valid_header a ≡ true → (key ≡ 0 → ⊥) → get_tests a key ≡ entry_tests a key
  unfolding get_tests
  read_entry_decides e z = key_tests_later a key (entry_tests a key) e z

  pub change_no_store : valid_header a ≡ false → put_tests a key ≡ some NoStore
  unfolding put_tests
  change_no_store e = key_tests_no_store a key (directory_tests a none) e

  pub change_no_key : valid_header a ≡ true → key ≡ 0 → put_tests a key ≡ some NoKey
  unfolding put_tests
  change_no_key e z = key_tests_no_key a key (directory_tests a none) e z

  -- With a valid word 0 and a key, the directory decides.
  pub change_directory_decides : valid_header a ≡ true → (key ≡ 0 → ⊥) → put_tests a key ≡ directory_tests a none
  unfolding put_tests
  change_directory_decides e z = key_tests_later a key (directory_tests a none) e z

  -- In a consistent directory the key's entry is in range.
  pub change_entry : put_tests a key ≡ none → put_tests a key ≡ entry_tests a key
  unfolding entry_tests unless
  change_entry e =
      let p = passed a key e in
      e ∙ rw (in_range_holds (depth a) (segments a) (key_entry a key) p.local_low p.segment_below)

-- ---- What a call learns of its key's place

-- The tests t have passed, and p is the key's place.
abbrev pub Stands : Place → List ℕ → (key : ℕ) → Option Refusal → Type 0
Stands p a key t = (t ≡ none) × (p.key ≡ key) × KeyPlace p a

-- What the tests have answered, where they have passed.
pub stands : (r : Result Place Refusal) (a : List ℕ) (key : ℕ) (t : Option Refusal) → PlacedBy r a key t → (p : Place) → r ≡ Ok p → Stands p a key t
stands r a key t e p q = rw q at e

-- The choice of a slot in the segment at the key's place is that of the key.
pub place_choice : {p : Place} {a : List ℕ} → KeyPlace p a → choose a p.base p.local_depth (shared_at p) p.key ≡ key_choice a p.key
unfolding key_choice
place_choice {p} {a} k =
    let low : p.local_depth ≤ depth a = rw k.header_read.depth_read (place_bounds k).local_low in
    rw (k.base_is, k.depth_is, index_shift p.key (depth a) p.local_depth low, place_shared k)

-- A slot that was found at the key's place is one of the segment's, and the segment lies in the array.
module _ {p : Place} {a : List ℕ} (k : KeyPlace p a) where
  pub found_inside : {j : ℕ} → some j ≡ hit a p.base p.key → (j < 64) × (p.base + 128 ≤ length a)
  found_inside {j} e = (hit_slot a p.base p.key j (sym e), (place_bounds k).whole)

  -- The same of a slot that was chosen: the hit is found where the choice is, and there is none where the choice is another.
  pub chosen_hit : {j : ℕ} → found j ≡ key_choice a p.key → hit a p.base p.key ≡ some j
  chosen_hit {j} e = rw k.base_is at (choice_found a p.key j (sym e))

  pub chosen_inside : {j : ℕ} → found j ≡ key_choice a p.key → (j < 64) × (p.base + 128 ≤ length a)
  chosen_inside e = found_inside (sym (chosen_hit e))

  pub not_chosen : (r : Choice) → choice_of r ≡ key_choice a p.key → ((j : ℕ) → r ≡ Found j → ⊥) → hit a p.base p.key ≡ none
  not_chosen r e t = rw k.base_is at (misses r t (sym e))
    where
      misses : (q : Choice) → ((j : ℕ) → q ≡ Found j → ⊥)
          → key_choice a p.key ≡ choice_of q → hit a (key_segment a p.key) p.key ≡ none
      misses (Found j) t e = absurd (t j refl)
      misses (Into j) t e = (choice_into a p.key j e).missing
      misses Full t e = (choice_full a p.key e).missing
