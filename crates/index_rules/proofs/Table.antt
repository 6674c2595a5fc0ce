-- A table of facts about the definitions, as data, and the test that a row passes.
use Prim.Native.Nat.{ℕ, suc}
use borrow.Author.Tests.{eqb-true}
use mathlib.Core.Path.{◌≡◌}
use mathlib.Core.Bool.{Bool, true, ◌&&◌}
use mathlib.Core.List.{List, [], ◌∷◌}
use mathlib.Core.Option.{or_else}
use lib.Dec.{eqb}
use lib.ListN.{replicate}
use Rattle.stores.specs.Lists.{each, first_in, all_below, any_below, numbers_same}
use Rattle.stores.specs.Store.{Store, Every, word, apply, exec}
use Rattle.stores.proofs.Tests.{and_left, and_right}
use Rattle.stores.specs.Plan.{Outcome, cut}
use Rattle.index_rules.specs.declared.Call.{Call}
use Rattle.index_rules.specs.Layout.{depth_in, max_depth_in, segments_in, mark_in, header, depth, words_for, valid_shape, valid_header, entry_address, entry_at, segment_of, local_depth, entry, segment_address}
use Rattle.index_rules.specs.Keys.{folded, bucket, directory_bits, bit_of, first_bits, bit, index, width, block_bits, block_start, live, window_bucket, slots_of, window}
use Rattle.index_rules.specs.Scan.{in_range, valid_leader, next_leader, leader, leaders_valid, entries_agree}
use Rattle.index_rules.specs.Slots.{hit, is_empty, is_stale, slot_for_new, chosen, choose, named, free_segment}
use Rattle.replies.specs.Replies.{Said, said_same, unless, tested, replied, changed}
use Rattle.replies.specs.Writing.{behind_tests}
use Rattle.replies.proofs.Same.{same_said}
use Rattle.index_rules.specs.Format.{format_tests, format_stores, format}
use Rattle.index_rules.specs.Get.{key_entry, key_segment, key_tests, entry_tests, get_tests, value_at_hit, get}
use Rattle.index_rules.specs.Split.{doubling, moves, copy_slot, copying, half_entry, updating, halving_of, halving, doubling_for, splitting}
use Rattle.index_rules.specs.Put.{directory_tests, put_tests, key_choice, placed, into_free, put_unused, unused, put}
use Rattle.index_rules.specs.Remove.{remove_tests, cleared_at, remove}
use Rattle.index_rules.specs.Merge.{right_start, on_right, buddy_start, joined_depth, buddy_entry, left_entry, right_entry, both_live, merge_record, merge_slot, merging_slots, joining, has_buddy, halves_tests, merge_tests, merging_of, merge}
use Rattle.index_rules.specs.Mend.{mend_tests, mend_entry, mending, mend}
use Rattle.index_rules.specs.Listing.{live_record, block_records, records, words_of, listing_tests, room_test, list_tests, list}
use Rattle.index_rules.specs.ListBlock.{leads, following, list_block_tests, list_block}
use Rattle.index_rules.specs.Step.{effect, Step, step, outcome_of}

-- ---- Rows

-- An entry to be seen: the segment it names, and its local depth.
pub record Names : Type 0 where
  pub segment : ℕ
  pub depth : ℕ

-- A lookup to be made, and what it is to say.
pub record Lookup : Type 0 where
  pub key : ℕ
  pub said : Said

pub data Row : Type 0 where
  -- the buckets of the key's probe window
  buckets : (key : ℕ) → List ℕ → Row
  -- the key's index in the directory of this depth
  indexed : (depth key i : ℕ) → Row
  -- A state. `lent` words, all 0, are lent; the calls `before` are made, then the stores `damage`, then the calls `further`; then
  -- `call`. It is to say `said` with `made` stores; and afterwards `words` are to stand at their addresses, `entries` in the present
  -- directory from index 0 on, and `lookups` to answer so.
  behind : (lent : ℕ) (before : List Call) (damage : List Store) (further : List Call) (call : Call) (said : Said) (made : ℕ)
      (words : List Store) (entries : List Names) (lookups : List Lookup)
      → Row
  -- A listing, behind calls and damage: `call` into the list array `list`. It is to say `said` with no store, and to leave `left` there.
  listing : (lent : ℕ) (before : List Call) (damage : List Store) (call : Call) (list : List ℕ) (said : Said) (left : List ℕ) → Row

-- A state with no further calls.
abbrev pub state : (lent : ℕ) (before : List Call) (damage : List Store) (call : Call) (said : Said) (made : ℕ)
    (words : List Store) (entries : List Names) (lookups : List Lookup)
    → Row
state lent before damage call said made words entries lookups = behind lent before damage [] call said made words entries lookups

-- ---- The test

-- A step that antt computes: an `unfolding` line that names it opens all definitions of the calls.
unfoldable pub computed : (a l : List ℕ) → Call → Step
unfolding each first_in all_below any_below apply exec cut depth_in max_depth_in segments_in mark_in header words_for valid_shape valid_header entry_address segment_of local_depth entry segment_address folded bucket directory_bits bit_of first_bits bit index width block_bits block_start live window_bucket slots_of window in_range valid_leader next_leader leader leaders_valid entries_agree hit is_empty is_stale or_else slot_for_new chosen choose named free_segment unless tested replied format_tests format_stores format key_entry key_segment key_tests entry_tests get_tests value_at_hit get doubling moves copy_slot copying half_entry updating halving_of halving doubling_for splitting directory_tests put_tests key_choice placed into_free put_unused unused put remove_tests cleared_at remove right_start on_right buddy_start joined_depth buddy_entry left_entry right_entry both_live merge_record merge_slot merging_slots joining has_buddy halves_tests merge_tests merging_of merge mend_tests mend_entry mending mend live_record block_records records words_of listing_tests room_test list_tests list leads following list_block_tests list_block behind_tests changed effect step
computed a l call = step a l call

-- The array after some calls, each made with no list array.
unfoldable pub after_calls : List ℕ → List Call → List ℕ
after_calls a [] = a
after_calls a (c ∷ cs) = after_calls (outcome_of a c).after cs

-- These words stand at their addresses.
unfoldable pub words_seen : List ℕ → List Store → Bool
words_seen a [] = true
words_seen a (s ∷ ss) = eqb (word a s.at) s.value && words_seen a ss

entries_seen : List ℕ → (i : ℕ) → List Names → Bool
entries_seen a i [] = true
entries_seen a i (n ∷ ns) =
    (eqb (segment_of (entry_at a (depth a) i)) n.segment && eqb (local_depth (entry_at a (depth a) i)) n.depth)
    && entries_seen a (suc i) ns

lookups_seen : List ℕ → List Lookup → Bool
lookups_seen a [] = true
lookups_seen a (l ∷ ls) = said_same (get a l.key) l.said && lookups_seen a ls

outcome_passes : Outcome Said → Said → ℕ → List Store → List Names → List Lookup → Bool
outcome_passes o said made words entries lookups =
    (said_same o.reply said && eqb o.made made)
    && (words_seen o.after words && (entries_seen o.after 0 entries && lookups_seen o.after lookups))

list_passes : Step → Said → (left : List ℕ) → Bool
list_passes s said left =
    (said_same s.outcome.reply said && eqb s.outcome.made 0)
    && numbers_same s.list left

-- The array behind calls and damage.
unfoldable pub prepared : (lent : ℕ) → List Call → List Store → List ℕ
prepared lent before damage = apply damage (after_calls (replicate lent 0) before)

window_buckets : (key : ℕ) → List ℕ
window_buckets key = each (λ b. window_bucket key b ∷ []) 4

passes : Row → Bool
passes (buckets key bs) = numbers_same (window_buckets key) bs
passes (indexed g key i) = eqb (index key g) i
passes (behind lent before damage further call said made words entries lookups) =
    outcome_passes (outcome_of (after_calls (prepared lent before damage) further) call) said made words entries lookups
passes (listing lent before damage call list said left) = list_passes (step (prepared lent before damage) list call) said left

-- Every row of the table passes.
unfoldable pub all_pass : List Row → Bool
unfolding computed numbers_same said_same after_calls words_seen entries_seen lookups_seen outcome_passes list_passes prepared window_buckets passes
all_pass [] = true
all_pass (r ∷ rs) = passes r && all_pass rs

-- ---- What the tests find is so

pub words_seen_holds : (a : List ℕ) (ss : List Store) → words_seen a ss ≡ true → Every (λ s. word a s.at ≡ s.value) ss
unfolding words_seen
words_seen_holds a [] e = Prim.tt
words_seen_holds a (s ∷ ss) e = (
  eqb-true (word a s.at) s.value (and_left (eqb (word a s.at) s.value) (words_seen a ss) e),
  words_seen_holds a ss (and_right (eqb (word a s.at) s.value) (words_seen a ss) e),
)

-- From index i on, the entries name these segments, with these local depths.
abbrev EntriesName : List ℕ → (i : ℕ) → List Names → Type 0
EntriesName a i [] = Unit {0}
EntriesName a i (n ∷ ns) =
    ((segment_of (entry_at a (depth a) i) ≡ n.segment) × (local_depth (entry_at a (depth a) i) ≡ n.depth)) × EntriesName a (suc i) ns

entries_seen_holds : (a : List ℕ) (i : ℕ) (ns : List Names) → entries_seen a i ns ≡ true → EntriesName a i ns
unfolding entries_seen
entries_seen_holds a i [] e = Prim.tt
entries_seen_holds a i (n ∷ ns) e =
    let s : Bool = eqb (segment_of (entry_at a (depth a) i)) n.segment in
    let d : Bool = eqb (local_depth (entry_at a (depth a) i)) n.depth in
    let both = and_left (s && d) (entries_seen a (suc i) ns) e in (
      (eqb-true (segment_of (entry_at a (depth a) i)) n.segment (and_left s d both), eqb-true (local_depth (entry_at a (depth a) i)) n.depth (and_right s d both)),
      entries_seen_holds a (suc i) ns (and_right (s && d) (entries_seen a (suc i) ns) e),
    )

-- Gets of the keys say this.
abbrev GetsSay : List ℕ → List Lookup → Type 0
GetsSay a [] = Unit {0}
GetsSay a (l ∷ ls) = (get a l.key ≡ l.said) × GetsSay a ls

lookups_seen_holds : (a : List ℕ) (ls : List Lookup) → lookups_seen a ls ≡ true → GetsSay a ls
unfolding lookups_seen
lookups_seen_holds a [] e = Prim.tt
lookups_seen_holds a (l ∷ ls) e =
    let s : Bool = said_same (get a l.key) l.said in
    (same_said (get a l.key) l.said (and_left s (lookups_seen a ls) e), lookups_seen_holds a ls (and_right s (lookups_seen a ls) e))
