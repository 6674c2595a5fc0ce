-- The definitions of `specs/` on small cases, which antt computes.
use Prim.Native.Nat.{ℕ}
use Rattle.std.specs.Prelude.{Result, Ok, Err}
use lib.Dec.{lit<, lit≤}
use mathlib.Core.Path.{◌≡◌, refl, sym}
use mathlib.Core.Bool.{Bool, true, false, false≢true}
use mathlib.Core.List.{List, [], ◌∷◌}
use mathlib.Core.Option.{Option, none, some}
use Rattle.stores.specs.Lists.{each, first_in, any_below}
use Rattle.stores.specs.Store.{store}
use Rattle.replies.specs.declared.Refusal.{Refusal}
use Rattle.replies.specs.declared.Refusal.TheVariants.{Broken, Unmended}
use Rattle.index_rules.specs.Layout.{depth_in, segments_in, entry_address, segment_of, local_depth}
use Rattle.index_rules.specs.Keys.{width}
use Rattle.index_rules.specs.Scan.{in_range, valid_leader}
use Rattle.index_rules.specs.Slots.{named}
use Rattle.replies.specs.Replies.{number_of}
use Rattle.index_directory.specs.declared.scan.LedBlock.{LedBlock}
use Rattle.index_directory.specs.declared.scan.ScanStep.{ScanStep}
use Rattle.index_directory.specs.Scans.{verdict_of, scan_at}
use Rattle.index_directory.specs.BitSets.{holds}
use Rattle.index_directory.specs.Frees.{free_in, HoldsNamed}
use Rattle.index_directory.specs.Updates.{filling}

-- The refusals of the scan: 3 and 4.
abbrev number : Option Refusal → ℕ
number (some r) = number_of r
number none = 0

pub verdicts : ◌≡◌ {A = List ℕ} (number (verdict_of (Err Broken)) ∷ number (verdict_of (Err Unmended)) ∷ []) (3 ∷ 4 ∷ [])
verdicts = refl

-- At G = 2, in the block (0, depth 1) of indices 0 and 1: an equal entry, an unequal one, and behind the block a leader that
-- is valid and one that is not aligned.
abbrev left : LedBlock
left = record { leading = 0x100000000; end = 2 }

abbrev in_left : Bool → ScanStep
in_left agree = record { block = left; agree = agree }

pub steps : ◌≡◌ {A = List (Result ScanStep Refusal)}
    (scan_at 2 4 1 0x100000000 (in_left true) ∷ scan_at 2 4 1 0x100000001 (in_left true) ∷ scan_at 2 4 2 0x100000001 (in_left false)
    ∷ scan_at 2 4 2 1 (in_left true) ∷ [])
    (Ok (in_left true) ∷ Ok (in_left false) ∷ Ok (record { block = record { leading = 0x100000001; end = 4 }; agree = false }) ∷ Err Broken ∷ [])
unfolding scan_at valid_leader in_range segment_of local_depth width
steps = refl

-- Two entries, from right to left.
pub fills : filling 8 2 7 ≡ store 9 7 ∷ store 8 7 ∷ []
unfolding filling each
fills = refl

-- ---- The set of the named segments

-- The numbers 0, 63, 64 and 130 in three words, looked up with those beside them and behind the last word.
abbrev four : List ℕ
four = 0x8000000000000001 ∷ 1 ∷ 4 ∷ []

pub members : ◌≡◌ {A = List Bool}
    (holds four 0 ∷ holds four 1 ∷ holds four 62 ∷ holds four 63 ∷ holds four 64 ∷ holds four 65 ∷ holds four 128 ∷ holds four 130
    ∷ holds four 131 ∷ holds four 192 ∷ [])
    (true ∷ false ∷ false ∷ true ∷ true ∷ false ∷ false ∷ true ∷ false ∷ false ∷ [])
unfolding holds
members = refl

-- The smallest number below S that is not in the set: of no number, of 0 to 3, of 0 to 63, of all up to 127 but 63 or but 64, of all up
-- to 190, and of all of three words.
abbrev full : ℕ
full = 0xFFFFFFFFFFFFFFFF

pub smallest : ◌≡◌ {A = List (Option ℕ)}
    (free_in (0 ∷ []) 0 ∷ free_in (0 ∷ []) 1 ∷ free_in (15 ∷ []) 4 ∷ free_in (15 ∷ []) 5 ∷ free_in (full ∷ 0 ∷ []) 64 ∷ free_in (full ∷ 0 ∷ []) 65
    ∷ free_in (0x7FFFFFFFFFFFFFFF ∷ full ∷ []) 128 ∷ free_in (full ∷ 0xFFFFFFFFFFFFFFFE ∷ []) 128 ∷ free_in (full ∷ full ∷ 0x7FFFFFFFFFFFFFFF ∷ []) 191
    ∷ free_in (full ∷ full ∷ 0x7FFFFFFFFFFFFFFF ∷ []) 192 ∷ free_in (full ∷ full ∷ full ∷ []) 192 ∷ [])
    (none ∷ some 0 ∷ none ∷ some 4 ∷ none ∷ some 64 ∷ some 63 ∷ some 64 ∷ none ∷ some 191 ∷ none ∷ [])
unfolding free_in first_in holds each
smallest = refl

-- At G = 1 and S = 3, entries of segments 2 and 4: what is promised of the set does not hold with 0 besides, without 2, with the remainder
-- of 4 by 3, or with a number that is not below S.
abbrev pair : List ℕ
pair = 0x5041474600030201 ∷ 0 ∷ 0x100000002 ∷ 0x100000004 ∷ []

pub one_too_many : HoldsNamed (5 ∷ []) pair → ⊥
unfolding holds named any_below segments_in depth_in entry_address segment_of
one_too_many h = false≢true (sym (h.exactly_named 0 (lit< tt)))

pub one_missed : HoldsNamed (0 ∷ []) pair → ⊥
unfolding holds named any_below segments_in depth_in entry_address segment_of
one_missed h = false≢true (h.exactly_named 2 (lit< tt))

pub at_remainder : HoldsNamed (6 ∷ []) pair → ⊥
unfolding holds named any_below segments_in depth_in entry_address segment_of
at_remainder h = false≢true (sym (h.exactly_named 1 (lit< tt)))

pub not_below : HoldsNamed (12 ∷ []) pair → ⊥
unfolding holds segments_in
not_below h = false≢true (sym (h.no_others 3 (lit≤ tt)))
