-- Document 02, wish 6: mending finishes a merge once its first entry is stored, and before that leaves it undone.
use Rattle.std.specs.Prelude.{ℕ, ◌^◌, ◌≤◌, ◌<◌, ◌≡◌, true, List, [], ◌∷◌, length}
use Rattle.std.proofs.Math.Option.{none}
use Rattle.stores.specs.Store.{apply}
use Rattle.replies.specs.Replies.{done}
use Rattle.index_rules.specs.declared.Call.TheVariants.{Merge, Mend}
use Rattle.index_rules.specs.Layout.{depth, segments}
use Rattle.index_rules.specs.Keys.{index}
use Rattle.index_rules.specs.Scan.{consistent}
use Rattle.index_rules.specs.Get.{key_entry}
use Rattle.index_rules.specs.Merge.{merge_tests, slots_merged, merge}
use Rattle.index_rules.specs.Step.{outcome_of}

-- The array that mends with these allowances leave, one after another.
unfoldable pub mended_by : (allowances : List ℕ) → List ℕ → List ℕ
mended_by [] a = a
mended_by (n ∷ ns) a = mended_by ns (outcome_of a (Mend n)).after

-- Mending to completion leaves b of the array a: any mends, cut off or not, and a last one that is done.
pub record MendedTo (a b : List ℕ) : Type 0 where
  pub before : List ℕ
  pub last : ℕ
  pub reply : (outcome_of (mended_by before a) (Mend last)).reply ≡ done []
  pub left : b ≡ (outcome_of (mended_by before a) (Mend last)).after

-- The number of stores that a merge on the key makes in slots: its next store is that of its first entry.
abbrev pub slot_stores : List ℕ → (key : ℕ) → ℕ
slot_stores a key = length (slots_merged a (index key (depth a)) (key_entry a key))

-- Of a merge that passes its tests on an array with a consistent directory: once its first entry is stored, mending to completion leaves
-- exactly what the whole merge leaves.
abbrev pub MendingFinishes : Type 0
MendingFinishes =
    (a : List ℕ) (key allowance : ℕ) → consistent a (depth a) (segments a) ≡ true → merge_tests a key ≡ none → slot_stores a key < allowance
    → (b : List ℕ) → MendedTo (outcome_of a (Merge key allowance)).after b → b ≡ apply (merge a key).due a

-- Before that, mending changes nothing: the directory is as it was.
abbrev pub MendingLeaves : Type 0
MendingLeaves =
    (a : List ℕ) (key allowance : ℕ) → consistent a (depth a) (segments a) ≡ true → merge_tests a key ≡ none → allowance ≤ slot_stores a key
    → (b : List ℕ) → MendedTo (outcome_of a (Merge key allowance)).after b → b ≡ (outcome_of a (Merge key allowance)).after

-- Wherever the merge was cut, a mend that may make as many stores as the directory has entries is done.
abbrev pub MendingIsDone : Type 0
MendingIsDone =
    (a : List ℕ) (key allowance n : ℕ) → consistent a (depth a) (segments a) ≡ true → merge_tests a key ≡ none → 2 ^ depth a ≤ n
    → (outcome_of (outcome_of a (Merge key allowance)).after (Mend n)).reply ≡ done []
