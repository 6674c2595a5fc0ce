-- Refusals for want of space: rows by the test of the known states, and the statements of specs/Full.antt at such states. antt computes both.
-- A statement is taken as a hypothesis: this file imports no proof of one. The figures were first worked out by a separate script from
-- the documents.
use Prim.Native.Nat.{ℕ, ◌+◌, ◌*◌, ◌%◌, ◌<◌}
use native.Mathlib.Omega.{arith}
use mathlib.Core.Path.{◌≡◌, refl, sym}
use mathlib.Core.Bool.{true, true≢false}
use mathlib.Core.List.{List, [], ◌∷◌, ◌++◌, Memᴰ}
use lib.ListN.{length, replicate}
use Rattle.stores.specs.Lists.{each}
use Rattle.stores.specs.Store.{Store, store, apply}
use Rattle.replies.specs.declared.Refusal.TheVariants.{TooDeep, NoSegment}
use Rattle.std.specs.Prelude.{Err}
use Rattle.replies.specs.Replies.{done, refused}
use Rattle.index_rules.specs.declared.Call.TheVariants.{Format}
use Rattle.index_rules.specs.Layout.{max_depth, segments, local_depth, key_at}
use Rattle.index_rules.specs.Keys.{live, window}
use Rattle.index_rules.specs.Slots.{named}
use Rattle.index_rules.specs.Get.{key_entry}
use Rattle.index_rules.specs.Step.{outcome_of, Performed}
use Rattle.index_laws.specs.Full.{Different, SixteenSlots, WindowIsSixteen, TooDeepAt, NoSegmentAt, ForWantOfSpace, PutForWantOfSpace, PerformedForWantOfSpace}
use Rattle.index_rules.proofs.Table.{Row, behind, all_pass, computed}
use Rattle.index_rules.proofs.States.{F, P, stands, names, page, missing, P1030}
use Rattle.index_rules.proofs.Rows.{slot}
use Rattle.index_laws.proofs.Samples.{slots}

-- ---- Rows

-- Slots 60 to 63 and 0 to 11, the window of bucket 15, with the pages of the keys 15, 79, .. 975.
abbrev wrapped : List Store
wrapped = each (λ i. slot ((60 + i) % 64) (15 + 64 * i)) 16

pub full_states : List Row
unfolding each
full_states =
    -- state i with three segments: 5 behind two splits, and sixteen other live keys stand in the window, at depth 2; with two: 6, and both are named
    behind 392 (F 3 ∷ []) (slots 7 64 16) [] (P 1030) (refused 5) 140 (each (λ i. stands (64 + 2 * i) (7 + 64 * i) ∷ []) 16)
    (names 0 2 ∷ names 2 2 ∷ names 1 1 ∷ names 1 1 ∷ []) (missing 1030 ∷ [])
    ∷ behind 264 (F 2 ∷ []) (slots 7 64 16) [] (P 1030) (refused 6) 69 (each (λ i. stands (64 + 2 * i) (7 + 64 * i) ∷ []) 16)
    (names 0 1 ∷ names 1 1 ∷ []) (missing 1030 ∷ [])
    ∷ behind 136 (F 1 ∷ []) (slots 7 64 16) [] (P 1030) (refused 6) 0 [] (names 0 0 ∷ []) (missing 1030 ∷ [])
    -- the window of bucket 15 goes on at slot 0; with one slot of it empty the put is done
    ∷ behind 136 (F 1 ∷ []) wrapped [] (P 1038) (refused 6) 0 [] (names 0 0 ∷ []) (missing 1038 ∷ [])
    ∷ behind 136 (F 1 ∷ []) (wrapped ++ (store 14 0 ∷ [])) [] (P 1038) (done []) 2 (stands 14 1038 ∷ []) (names 0 0 ∷ []) (page 1038 ∷ [])
    ∷ behind 136 (F 1 ∷ []) (slots 7 64 15) [] (P 1030) (done []) 2 (stands 94 1030 ∷ []) (names 0 0 ∷ []) (page 1030 ∷ [])
    ∷ []

pub full_states_holds : all_pass full_states ≡ true
unfolding all_pass full_states
full_states_holds = refl

-- ---- The statements at these

-- The window of key 15, slot by slot.
abbrev later : List ℕ
later = 61 ∷ 62 ∷ 63 ∷ 0 ∷ 1 ∷ 2 ∷ 3 ∷ 4 ∷ 5 ∷ 6 ∷ 7 ∷ 8 ∷ 9 ∷ 10 ∷ 11 ∷ []

window_15 : window 15 ≡ 60 ∷ later
unfolding computed
window_15 = refl

module _ (sixteen : WindowIsSixteen) where
  count_15 : length (window 15) ≡ 16
  count_15 = (sixteen 15).count

  once_15 : Memᴰ 60 later → ⊥
  unfolding computed
  once_15 = (sixteen 15).different.0

  in_segment_15 : (j : ℕ) → Memᴰ j (window 15) → j < 64
  in_segment_15 = (sixteen 15).in_segment

-- State i with three segments, and with two; and what the put of 1030 leaves.
abbrev deep : List ℕ
deep = apply (slots 7 64 16) (outcome_of (replicate 392 0) (Format 2 3 100)).after

abbrev short : List ℕ
short = apply (slots 7 64 16) (outcome_of (replicate 264 0) (Format 2 2 100)).after

deep_left : List ℕ
unfolding computed
deep_left = (outcome_of deep (P1030 140)).after

short_left : List ℕ
unfolding computed
short_left = (outcome_of short (P1030 69)).after

-- What the statements say of these, by the definitions and of performed calls.
deep_put : PutForWantOfSpace → ForWantOfSpace 1030 (refused 5) deep_left
unfolding computed deep_left
deep_put put = put deep [] 1030 10300 140

short_put : PutForWantOfSpace → ForWantOfSpace 1030 (refused 6) short_left
unfolding computed short_left
short_put put = put short [] 1030 10300 69

deep_performed : Performed (P1030 140) deep [] (record { reply = Err TooDeep; stores = 140 }) deep_left []
unfolding computed deep_left
deep_performed = record { answered = record { reply = refl; stores = refl; words = refl }; list = refl }

deep_answered : PerformedForWantOfSpace → ForWantOfSpace 1030 (refused 5) deep_left
deep_answered performed = performed 1030 10300 140 deep [] _ deep_left [] deep_performed

short_performed : Performed (P1030 69) short [] (record { reply = Err NoSegment; stores = 69 }) short_left []
unfolding computed short_left
short_performed = record { answered = record { reply = refl; stores = refl; words = refl }; list = refl }

short_answered : PerformedForWantOfSpace → ForWantOfSpace 1030 (refused 6) short_left
short_answered performed = performed 1030 10300 69 short [] _ short_left [] short_performed

-- So L = D there, and slot 28, the first of the window, has another key, which is live: segment 0 of depth 2 has block bits 0, and starts at word 8.
first_slot : Memᴰ 28 (window 1030)
unfolding computed
first_slot = Memᴰ.head refl

module _ (explained : ForWantOfSpace 1030 (refused 5) deep_left) where
  deepest : local_depth (key_entry deep_left 1030) ≡ max_depth deep_left
  deepest = (explained.too_deep refl).deepest

  another : key_at deep_left 8 28 ≡ 1030 → ⊥
  unfolding computed deep_left
  another = (explained.too_deep refl).window_full.others 28 first_slot

  alive : live 2 0 (key_at deep_left 8 28) ≡ true
  unfolding computed deep_left
  alive = (explained.too_deep refl).window_full.all_live 28 first_slot

-- And here L < D, and the last segment is named.
two_segments : 1 < segments short_left
unfolding computed short_left
two_segments = omega arith

module _ (explained : ForWantOfSpace 1030 (refused 6) short_left) where
  shallow : local_depth (key_entry short_left 1030) < max_depth short_left
  shallow = (explained.no_segment refl).local_room

  last_named : named short_left 1 ≡ true
  last_named = (explained.no_segment refl).all_named 1 two_segments

  full_too : live 1 0 (key_at short_left 8 28) ≡ true
  unfolding computed short_left
  full_too = (explained.no_segment refl).window_full.all_live 28 first_slot

-- ---- What is not so

-- A number twice; a slot that no segment has; fifteen slots.
twice : Different (60 ∷ 61 ∷ 60 ∷ []) → ⊥
twice d = d.0 (Memᴰ.tail (Memᴰ.head refl))

beyond : (xs : List ℕ) → SixteenSlots (64 ∷ xs) → ⊥
beyond xs s = omega (arith, s.in_segment 64 (Memᴰ.head refl))

fifteen : SixteenSlots later → ⊥
fifteen s = omega (arith, s.count)

-- Neither refusal on an index with no page; nor 5 where L < D, nor 6 where a segment is free.
abbrev empty : List ℕ
empty = (outcome_of (replicate 264 0) (Format 2 2 100)).after

no_page : ForWantOfSpace 1030 (refused 5) empty → ⊥
unfolding computed
no_page f = true≢false (sym ((f.too_deep refl).window_full.all_live 28 first_slot))

not_five : TooDeepAt short 1030 → ⊥
unfolding computed
not_five t = omega (arith, t.deepest)

not_six : NoSegmentAt short 1030 → ⊥
unfolding computed
not_six t = true≢false (sym (t.all_named 1 (omega arith)))
