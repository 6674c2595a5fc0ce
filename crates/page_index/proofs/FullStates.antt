-- Codes 5 and 6, and the statements of specs/Full.antt at these. antt computes both. A statement is taken as a hypothesis: this file imports no
-- proof of one. The figures were first worked out by a separate script from the documents.
use Prim.Native.Nat.{ℕ, ◌+◌, ◌*◌, ◌<◌}
use native.Mathlib.Omega.{arith}
use mathlib.Core.Path.{◌≡◌, refl, sym}
use mathlib.Core.Bool.{true, true≢false}
use mathlib.Core.List.{List, [], ◌∷◌, Memᴰ}
use lib.ListN.{replicate}
use Rattle.stores.specs.Lists.{each}
use Rattle.stores.specs.Store.{Store, store, apply}
use Rattle.index_rules.specs.declared.Call.TheVariants.{Format, Put}
use Rattle.index_rules.specs.Layout.{max_depth, segments, local_depth}
use Rattle.index_rules.specs.Keys.{window}
use Rattle.index_rules.specs.Slots.{named}
use Rattle.index_rules.specs.Get.{key_entry}
use Rattle.index_rules.specs.Step.{outcome_of}
use Rattle.index_rules.proofs.Table.{computed}
use Rattle.board.specs.Jobs.{valid_year, valid_month, valid_number, job_key, year_tests, job_tests, behind, on_job, set_job}
use Rattle.page_index.specs.declared.PageIndexReply.{PageIndexReply}
use Rattle.page_index.specs.Told.{Told}
use Rattle.page_index.specs.Full.{CodeForWantOfSpace, ToldForWantOfSpace, ToldSetForWantOfSpace}

-- Sixteen jobs of January in year 1, of the numbers 7, 71, .. 967, fill slots 12 to 27 of segment 0: the window of number 1030 too, whose key
-- is 70662. With three segments and with two.
abbrev sixteen : List Store
sixteen = each (λ i. store (32 + 2 * i) (69639 + 64 * i) ∷ store (33 + 2 * i) (100 + i) ∷ []) 16

abbrev deep : List ℕ
deep = apply sixteen (outcome_of (replicate 392 0) (Format 2 3 100)).after

abbrev short : List ℕ
short = apply sixteen (outcome_of (replicate 264 0) (Format 2 2 100)).after

-- What is told: code, stores and value.
abbrev told_5 : PageIndexReply
told_5 = record { code = 5; stores = 140; value = 0 }

abbrev told_6 : PageIndexReply
told_6 = record { code = 6; stores = 69; value = 0 }

-- What the put of that key leaves.
deep_left : List ℕ
unfolding computed
deep_left = (outcome_of deep (Put 70662 5 140)).after

short_left : List ℕ
unfolding computed
short_left = (outcome_of short (Put 70662 5 69)).after

-- ---- Rows

put_told_5 : Told (outcome_of deep (Put 70662 5 140)) told_5 deep_left
unfolding computed deep_left
put_told_5 = record { answer = record { code = refl; count = refl; value = refl }; words = refl }

put_told_6 : Told (outcome_of short (Put 70662 5 69)) told_6 short_left
unfolding computed short_left
put_told_6 = record { answer = record { code = refl; count = refl; value = refl }; words = refl }

set_told_5 : Told (set_job deep 1 1 1030 5 140) told_5 deep_left
unfolding computed valid_year valid_month valid_number job_key year_tests job_tests behind on_job deep_left
set_told_5 = record { answer = record { code = refl; count = refl; value = refl }; words = refl }

-- ---- The statements at these

two_segments : 1 < segments short_left
unfolding computed short_left
two_segments = omega arith

module _ (explained : ToldForWantOfSpace) where
  deepest : local_depth (key_entry deep_left 70662) ≡ max_depth deep_left
  deepest = ((explained deep 70662 5 140 told_5 deep_left put_told_5).too_deep refl).deepest

  last_named : named short_left 1 ≡ true
  last_named = ((explained short 70662 5 69 told_6 short_left put_told_6).no_segment refl).all_named 1 two_segments

module _ (explained : ToldSetForWantOfSpace) where
  set_explained : CodeForWantOfSpace 70662 told_5 deep_left
  unfolding job_key
  set_explained = explained deep 1 1 1030 5 140 told_5 deep_left set_told_5

  set_deepest : local_depth (key_entry deep_left 70662) ≡ max_depth deep_left
  set_deepest = (set_explained.too_deep refl).deepest

-- ---- What is not so

first_slot : Memᴰ 12 (window 70662)
unfolding computed
first_slot = Memᴰ.head refl

-- 5 is not told of an index with no page.
no_page : CodeForWantOfSpace 70662 told_5 (outcome_of (replicate 264 0) (Format 2 2 100)).after → ⊥
unfolding computed
no_page f = true≢false (sym ((f.too_deep refl).window_full.all_live 12 first_slot))
