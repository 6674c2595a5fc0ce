-- Sets that are refused for want of space, and the statement of specs/Full.antt at these. antt computes both. The statement is taken as a
-- hypothesis: this file imports no proof of it. The figures were first worked out by a separate script from the documents.
use Prim.Native.Nat.{ℕ, ◌+◌, ◌*◌, ◌<◌}
use native.Mathlib.Omega.{arith}
use mathlib.Core.Path.{◌≡◌, refl, sym}
use mathlib.Core.Bool.{true, true≢false}
use mathlib.Core.List.{List, [], ◌∷◌, Memᴰ}
use lib.ListN.{replicate}
use Rattle.stores.specs.Lists.{each}
use Rattle.stores.specs.Store.{Store, store, apply}
use Rattle.replies.specs.Replies.{refused}
use Rattle.index_rules.specs.declared.Call.TheVariants.{Format}
use Rattle.index_rules.specs.Layout.{max_depth, segments, local_depth}
use Rattle.index_rules.specs.Keys.{window}
use Rattle.index_rules.specs.Slots.{named}
use Rattle.index_rules.specs.Get.{key_entry}
use Rattle.index_rules.specs.Step.{outcome_of}
use Rattle.index_laws.specs.Full.{ForWantOfSpace}
use Rattle.index_rules.proofs.Table.{computed}
use Rattle.board.specs.Jobs.{valid_year, valid_month, valid_number, job_key, year_tests, job_tests, behind, on_job, set_job}
use Rattle.board.specs.Full.{SetForWantOfSpace}

-- Sixteen jobs of January in year 1, of the numbers 7, 71, .. 967, fill slots 12 to 27 of segment 0: the window of number 1030 too.
abbrev sixteen : List Store
sixteen = each (λ i. store (32 + 2 * i) (69639 + 64 * i) ∷ store (33 + 2 * i) (100 + i) ∷ []) 16

-- With three segments and with two.
abbrev deep : List ℕ
deep = apply sixteen (outcome_of (replicate 392 0) (Format 2 3 100)).after

abbrev short : List ℕ
short = apply sixteen (outcome_of (replicate 264 0) (Format 2 2 100)).after

-- ---- Rows

says_5 : (set_job deep 1 1 1030 5 140).reply ≡ refused 5
unfolding computed valid_year valid_month valid_number job_key year_tests job_tests behind on_job
says_5 = refl

made_140 : (set_job deep 1 1 1030 5 10000).made ≡ 140
unfolding computed valid_year valid_month valid_number job_key year_tests job_tests behind on_job
made_140 = refl

says_6 : (set_job short 1 1 1030 5 69).reply ≡ refused 6
unfolding computed valid_year valid_month valid_number job_key year_tests job_tests behind on_job
says_6 = refl

made_69 : (set_job short 1 1 1030 5 10000).made ≡ 69
unfolding computed valid_year valid_month valid_number job_key year_tests job_tests behind on_job
made_69 = refl

-- ---- The statement at these

-- What the sets leave.
deep_left : List ℕ
unfolding computed valid_year valid_month valid_number job_key year_tests job_tests behind on_job
deep_left = (set_job deep 1 1 1030 5 140).after

short_left : List ℕ
unfolding computed valid_year valid_month valid_number job_key year_tests job_tests behind on_job
short_left = (set_job short 1 1 1030 5 69).after

two_segments : 1 < segments short_left
unfolding computed short_left
two_segments = omega arith

module _ (explained : SetForWantOfSpace) where
  deep_set : ForWantOfSpace 70662 (refused 5) deep_left
  unfolding computed valid_year valid_month valid_number job_key year_tests job_tests behind on_job deep_left
  deep_set = explained deep 1 1 1030 5 140

  deepest : local_depth (key_entry deep_left 70662) ≡ max_depth deep_left
  deepest = (deep_set.too_deep refl).deepest

  short_set : ForWantOfSpace 70662 (refused 6) short_left
  unfolding computed valid_year valid_month valid_number job_key year_tests job_tests behind on_job short_left
  short_set = explained short 1 1 1030 5 69

  last_named : named short_left 1 ≡ true
  last_named = (short_set.no_segment refl).all_named 1 two_segments

-- ---- What is not so

first_slot : Memᴰ 12 (window 70662)
unfolding computed
first_slot = Memᴰ.head refl

-- No set says 5 on a board with no job.
no_job_holds : ForWantOfSpace 70662 (refused 5) (outcome_of (replicate 264 0) (Format 2 2 100)).after → ⊥
unfolding computed
no_job_holds f = true≢false (sym ((f.too_deep refl).window_full.all_live 12 first_slot))
