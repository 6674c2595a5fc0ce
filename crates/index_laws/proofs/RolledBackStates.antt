-- Cut puts that split, and mends behind them: rows by the test of the known states, and the statements of specs/RolledBack.antt at such states. antt computes
-- both. A statement is taken as a hypothesis: this file imports no proof of one. The figures were first worked out by a separate script
-- from the documents.
use Prim.Native.Nat.{ℕ, ◌^◌, ◌≤◌, ◌<◌}
use native.Mathlib.Omega.{arith}
use mathlib.Core.Path.{◌≡◌, refl, sym, ◌∙◌}
use mathlib.Core.Bool.{true, false, true≢false}
use mathlib.Core.List.{List, [], ◌∷◌}
use mathlib.Core.Logic.{⊎_elim}
use mathlib.Core.Option.{none, some-injective}
use lib.ListN.{length, replicate}
use Rattle.stores.specs.Lists.{each}
use Rattle.stores.specs.Store.{Store, apply}
use Rattle.index_rules.specs.declared.Call.{Call}
use Rattle.index_rules.specs.declared.Call.TheVariants.{Format, Mend}
use Rattle.replies.specs.Replies.{Said, done, refused}
use Rattle.index_rules.specs.Layout.{depth, segments, entry_at, entry}
use Rattle.index_rules.specs.Scan.{consistent}
use Rattle.index_rules.specs.Slots.{named}
use Rattle.index_rules.specs.Split.{splitting}
use Rattle.index_rules.specs.Put.{put_tests}
use Rattle.index_rules.specs.Step.{outcome_of}
use Rattle.index_laws.specs.Finished.{mended_by, MendedTo}
use Rattle.index_laws.specs.RolledBack.{Splits, SplitsInto, behind_splits, split_stores, CutInSplit, CutBehind, CutSomewhere, SameDirectory, RolledBack, MendingRollsBack, Stays, MendingKeepsSplits, CutPutMends}
use Rattle.index_rules.proofs.Table.{Names, Lookup, Row, behind, all_pass, computed}
use Rattle.index_rules.proofs.States.{F, stands, names, page, missing, pages, P263, P1030}
use Rattle.index_rules.proofs.Rows.{word₀}
use Rattle.index_laws.proofs.Samples.{slots}

-- ---- Rows

-- Calls, and a last one, on the sixteen keys of state e, on those of state i, and on those of state e with a block of four entries (0, 0).
-- There are as many segments as the splits want.
abbrev narrow : List Call → Call → Said → (made : ℕ) → List Store → List Names → List Lookup → Row
narrow calls call said made words entries lookups = behind 264 (F 2 ∷ []) (slots 7 16 16) calls call said made words entries lookups

abbrev apart : List Call → Call → Said → (made : ℕ) → List Store → List Names → List Lookup → Row
apart calls call said made words entries lookups = behind 392 (F 3 ∷ []) (slots 7 64 16) calls call said made words entries lookups

abbrev broad : List Call → Call → Said → (made : ℕ) → List Names → List Lookup → Row
broad calls call said made entries lookups =
    behind 264 (F 2 ∷ []) (word₀ 2 2 2 ∷ slots 7 16 16) calls call said made [] entries lookups

-- A mend with all its stores allowed.
abbrev M : Call
M = Mend 10000

-- What is found where the last put is not made: of state e a key of either half, and of state i.
abbrev old : List Lookup
old = missing 263 ∷ page 7 ∷ page 23 ∷ []

abbrev old_apart : List Lookup
old_apart = missing 1030 ∷ page 7 ∷ []

pub rolled_back_states : List Row
unfolding each
rolled_back_states =
    -- state e cut in its doubling: the old directory stands; behind it the doubled one; so in the copy step and behind it
    narrow (P263 2 ∷ []) M (done []) 0 (stands 0 0x5041474600020200 ∷ []) (names 0 0 ∷ []) old
    ∷ narrow (P263 3 ∷ []) M (done []) 0 (stands 0 0x5041474600020201 ∷ []) (names 0 0 ∷ names 0 0 ∷ []) old
    ∷ narrow (P263 40 ∷ []) M (done []) 0 (stands 0 0x5041474600020201 ∷ []) (names 0 0 ∷ names 0 0 ∷ []) old
    ∷ narrow (P263 75 ∷ []) M (done []) 0 [] (names 0 0 ∷ names 0 0 ∷ []) old
    -- between its entries the mend has one store to make; from the last entry on none, and the split stays
    ∷ narrow (P263 76 ∷ []) (Mend 0) (refused 7) 0 [] (names 0 0 ∷ names 1 1 ∷ []) old
    ∷ narrow (P263 76 ∷ Mend 0 ∷ []) M (done []) 1 [] (names 0 0 ∷ names 0 0 ∷ []) old
    ∷ narrow (P263 77 ∷ []) M (done []) 0 [] (names 0 1 ∷ names 1 1 ∷ []) old
    -- the new segment is free again: the same put takes it; where the doubling was complete, with none
    ∷ narrow (P263 2 ∷ M ∷ []) (P263 10000) (done []) 79 [] (names 0 1 ∷ names 1 1 ∷ []) (pages 7 16 17)
    ∷ narrow (P263 76 ∷ M ∷ []) (P263 10000) (done []) 76 [] (names 0 1 ∷ names 1 1 ∷ []) (pages 7 16 17)
    -- a block of four entries, right half from right to left, then the left one; mends that are cut, and the last that is not
    ∷ broad (P263 73 ∷ []) M (done []) 1 (names 0 0 ∷ names 0 0 ∷ names 0 0 ∷ names 0 0 ∷ []) old
    ∷ broad (P263 74 ∷ []) M (done []) 2 (names 0 0 ∷ names 0 0 ∷ names 0 0 ∷ names 0 0 ∷ []) old
    ∷ broad [] (P263 75) (refused 7) 75 (names 0 0 ∷ names 0 1 ∷ names 1 1 ∷ names 1 1 ∷ []) old
    ∷ broad (P263 75 ∷ []) (Mend 1) (refused 7) 1 (names 0 0 ∷ names 0 0 ∷ names 1 1 ∷ names 1 1 ∷ []) old
    ∷ broad (P263 75 ∷ Mend 1 ∷ []) M (done []) 2 (names 0 0 ∷ names 0 0 ∷ names 0 0 ∷ names 0 0 ∷ []) old
    ∷ broad (P263 76 ∷ []) M (done []) 0 (names 0 1 ∷ names 0 1 ∷ names 1 1 ∷ names 1 1 ∷ []) old
    -- state i splits twice, 69 and 71 stores: a cut in the second split takes back the second alone, and keeps its doubling from 74 on
    ∷ apart (P1030 69 ∷ []) M (done []) 0 [] (names 0 1 ∷ names 1 1 ∷ []) old_apart
    ∷ apart (P1030 73 ∷ []) M (done []) 0 (stands 0 0x5041474600030201 ∷ []) (names 0 1 ∷ names 1 1 ∷ []) old_apart
    ∷ apart (P1030 74 ∷ []) M (done []) 0 [] (names 0 1 ∷ names 0 1 ∷ names 1 1 ∷ names 1 1 ∷ []) old_apart
    ∷ apart (P1030 139 ∷ []) M (done []) 1 [] (names 0 1 ∷ names 0 1 ∷ names 1 1 ∷ names 1 1 ∷ []) old_apart
    ∷ apart (P1030 140 ∷ []) M (done []) 0 [] (names 0 2 ∷ names 2 2 ∷ names 1 1 ∷ names 1 1 ∷ []) old_apart
    ∷ []

pub rolled_back_states_holds : all_pass rolled_back_states ≡ true
unfolding all_pass rolled_back_states
rolled_back_states_holds = refl

-- ---- The statements at cut puts

-- The sixteen keys of state e in a block of four entries, with two segments.
abbrev wide : List ℕ
wide = apply (word₀ 2 2 2 ∷ slots 7 16 16) (outcome_of (replicate 264 0) (Format 2 2 100)).after

-- What the put of 263 leaves there, with an allowance: 72 stores of the copy step, four entries, value and key.
abbrev cut_at : (allowance : ℕ) → List ℕ
cut_at allowance = (outcome_of wide (P263 allowance)).after

wide_consistent : consistent wide (depth wide) (segments wide) ≡ true
unfolding computed consistent
wide_consistent = refl

wide_passes : put_tests wide 263 ≡ none
unfolding computed
wide_passes = refl

-- It splits, with the new segment 1, once.
wide_splits : Splits wide 263 1
unfolding computed
wide_splits = record { window_full = refl; not_deepest = omega arith; free = refl }

wide_stores : length (splitting wide 263 1) ≡ 76
unfolding computed
wide_stores = refl

once : (n : ℕ) → Splits (behind_splits 263 (1 ∷ []) wide) 263 n → ⊥
unfolding computed
once n s = let z : ◌≡◌ {A = ℕ} 0 1 = cc in omega arith

-- Before the last entry, and from it on.
cut_75 : CutInSplit wide 263 75
cut_75 = record { finished = []; new = 1; made = Prim.tt; splits = wide_splits; from = omega arith; to = omega (arith, wide_stores) }

cut_77 : CutBehind wide 263 77
cut_77 = record { finished = 1 ∷ []; made = (wide_splits, Prim.tt); no_more = once; from = omega (arith, wide_stores) }

-- Behind the first a mend that is cut after one store, and one that is done; behind the second one that has nothing to do.
after_75 : List ℕ
unfolding computed
after_75 = (outcome_of (outcome_of (cut_at 75) (Mend 1)).after (Mend 2)).after

mended_75 : MendedTo (cut_at 75) after_75
unfolding computed mended_by after_75
mended_75 = record { before = 1 ∷ []; last = 2; reply = refl; left = refl }

after_77 : List ℕ
unfolding computed
after_77 = (outcome_of (cut_at 77) (Mend 0)).after

mended_77 : MendedTo (cut_at 77) after_77
unfolding computed mended_by after_77
mended_77 = record { before = []; last = 0; reply = refl; left = refl }

-- The directory of before, segment 1 free, and every word as after 72 stores.
module _ (rolls-back : MendingRollsBack) where
  rolled_75 : RolledBack wide 263 2630 75 cut_75 after_75
  rolled_75 = rolls-back wide 263 2630 75 wide_consistent wide_passes cut_75 after_75 mended_75

  depth_75 : depth after_75 ≡ 2
  unfolding computed cut_75
  depth_75 = rolled_75.directory.depth_same

  entry_75 : entry_at after_75 2 3 ≡ entry 0 0
  unfolding computed cut_75
  entry_75 = rolled_75.directory.entries_same 3 (omega arith)

  free_75 : named after_75 1 ≡ false
  unfolding cut_75
  free_75 = rolled_75.unnamed

  words_75 : after_75 ≡ cut_at 72
  unfolding computed cut_75
  words_75 = rolled_75.words

-- The directory of the whole split, and every word as the cut left it.
module _ (keeps : MendingKeepsSplits) where
  kept_77 : Stays wide 263 2630 77 cut_77 after_77
  kept_77 = keeps wide 263 2630 77 wide_consistent wide_passes cut_77 after_77 mended_77

  depth_77 : depth after_77 ≡ 2
  unfolding computed cut_77
  depth_77 = kept_77.directory.depth_same

  entry_77 : entry_at after_77 2 3 ≡ entry 1 1
  unfolding computed cut_77
  entry_77 = kept_77.directory.entries_same 3 (omega arith)

  words_77 : after_77 ≡ cut_at 77
  words_77 = kept_77.words

-- Four stores are enough for a mend behind it.
four_entries_holds : 2 ^ depth (cut_at 75) ≤ 4
unfolding computed
four_entries_holds = omega arith

enough_75 : CutPutMends → (outcome_of (cut_at 75) (Mend 4)).reply ≡ done []
enough_75 mends = mends wide 263 2630 75 4 wide_consistent wide_passes four_entries_holds

-- With fewer than 76 stores this put is cut in a split, which is the one into segment 1.
behind_late : (ns : List ℕ) (m : ℕ) → SplitsInto 263 ns wide → ((n : ℕ) → Splits (behind_splits 263 ns wide) 263 n → ⊥)
    → split_stores 263 ns wide ≤ m → 76 ≤ m
behind_late [] m made no_more from = absurd (no_more 1 wide_splits)
behind_late (n ∷ ns) m made no_more from =
    let e : n ≡ 1 = some-injective n 1 (sym made.0.free ∙ wide_splits.free) in
    omega (arith, rw (e, wide_stores) at from)

in_split : CutSomewhere → (m : ℕ) → m < 76 → CutInSplit wide 263 m
in_split somewhere m h =
    ⊎_elim
    (λ (c : CutInSplit wide 263 m). c)
    (λ (c : CutBehind wide 263 m). absurd (omega (arith, behind_late c.finished m c.made c.no_more c.from)))
    (somewhere wide 263 m wide_passes)

-- ---- And at a put that splits twice

-- The keys of state i, with three segments: 69 stores and 71.
abbrev deep : List ℕ
deep = apply (slots 7 64 16) (outcome_of (replicate 392 0) (Format 2 3 100)).after

abbrev behind_one : List ℕ
behind_one = behind_splits 1030 (1 ∷ []) deep

deep_splits : Splits deep 1030 1
unfolding computed
deep_splits = record { window_full = refl; not_deepest = omega arith; free = refl }

deep_again : Splits behind_one 1030 2
unfolding computed
deep_again = record { window_full = refl; not_deepest = omega arith; free = refl }

deep_stores : split_stores 1030 (1 ∷ []) deep ≡ 69
unfolding computed
deep_stores = refl

deep_more : length (splitting behind_one 1030 2) ≡ 71
unfolding computed
deep_more = refl

cut_139 : CutInSplit deep 1030 139
cut_139 =
    record {
      finished = 1 ∷ [];
      new = 2;
      made = (deep_splits, Prim.tt);
      splits = deep_again;
      from = omega (arith, deep_stores);
      to = omega (arith, deep_stores, deep_more);
    }

after_139 : List ℕ
unfolding computed
after_139 = (outcome_of (outcome_of deep (P1030 139)).after (Mend 1)).after

mended_139 : MendedTo (outcome_of deep (P1030 139)).after after_139
unfolding computed mended_by after_139
mended_139 = record { before = []; last = 1; reply = refl; left = refl }

-- The first split stays, the second is rolled back, and its doubling stays.
module _ (rolls-back : MendingRollsBack) where
  rolled_139 : RolledBack deep 1030 10300 139 cut_139 after_139
  unfolding computed consistent
  rolled_139 = rolls-back deep 1030 10300 139 refl refl cut_139 after_139 mended_139

  entry_139 : entry_at after_139 2 1 ≡ entry 0 1
  unfolding computed cut_139
  entry_139 = rolled_139.directory.entries_same 1 (omega arith)

  free_139 : named after_139 2 ≡ false
  unfolding cut_139
  free_139 = rolled_139.unnamed

-- ---- What is not so

-- The cut array itself is not rolled back: it names segment 1, and has another directory.
not_rolled : RolledBack wide 263 2630 75 cut_75 (cut_at 75) → ⊥
unfolding computed cut_75
not_rolled r = true≢false r.unnamed

other_directory : SameDirectory wide (cut_at 75) → ⊥
unfolding computed
other_directory d = let e : entry 0 1 ≡ entry 0 0 = d.entries_same 1 (omega arith) in omega arith

-- An array of another depth has another directory.
other_depth : SameDirectory wide (apply (word₀ 1 2 2 ∷ []) wide) → ⊥
unfolding computed
other_depth d = omega (arith, d.depth_same)
