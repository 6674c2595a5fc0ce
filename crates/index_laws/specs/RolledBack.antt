-- Document 01, behind the steps of a split: 'So an unfinished split is rolled back by mending.' A finished one stays.
use Rattle.std.specs.Prelude.{ℕ, ◌+◌, ◌-◌, ◌^◌, ◌≤◌, ◌<◌, min, ◌≡◌, true, false, List, [], ◌∷◌, ◌⊎◌, ltb, length}
use Rattle.std.proofs.Math.Option.{none, some}
use Rattle.stores.specs.Lists.{pick}
use Rattle.stores.specs.Store.{apply}
use Rattle.replies.specs.Replies.{done}
use Rattle.index_rules.specs.declared.Call.TheVariants.{Put, Mend}
use Rattle.index_rules.specs.Layout.{depth, max_depth, segments, entry_at, local_depth}
use Rattle.index_rules.specs.Keys.{width}
use Rattle.index_rules.specs.Scan.{consistent}
use Rattle.index_rules.specs.Slots.{full, named, free_segment}
use Rattle.index_rules.specs.Get.{key_entry}
use Rattle.index_rules.specs.Split.{doubling_for, splitting}
use Rattle.index_rules.specs.Put.{put_tests, key_choice}
use Rattle.index_rules.specs.Step.{outcome_of}
use Rattle.index_laws.specs.Finished.{MendedTo}

-- ---- The splits of a put

-- A put of the key that passes its tests on the array a splits the key's segment, with the new segment n: the window is full, and step 1
-- refuses nothing.
pub record Splits (a : List ℕ) (key n : ℕ) : Type 0 where
  pub window_full : key_choice a key ≡ full
  pub not_deepest : local_depth (key_entry a key) < max_depth a
  pub free : free_segment a ≡ some n

-- So it does with these new segments, one after another.
abbrev pub SplitsInto : (key : ℕ) → (news : List ℕ) → List ℕ → Type 0
SplitsInto key [] a = Unit {0}
SplitsInto key (n ∷ ns) a = Splits a key n × SplitsInto key ns (apply (splitting a key n) a)

-- The array that these splits leave.
abbrev pub behind_splits : (key : ℕ) → (news : List ℕ) → List ℕ → List ℕ
behind_splits key [] a = a
behind_splits key (n ∷ ns) a = behind_splits key ns (apply (splitting a key n) a)

-- The number of their stores.
abbrev pub split_stores : (key : ℕ) → (news : List ℕ) → List ℕ → ℕ
split_stores key [] a = 0
split_stores key (n ∷ ns) a = length (splitting a key n) + split_stores key ns (apply (splitting a key n) a)

-- ---- Where a put was cut

-- In a split, behind others that are finished: before the split's last store, which is that of the leading entry of the key's block.
pub record CutInSplit (a : List ℕ) (key allowance : ℕ) : Type 0 where
  pub finished : List ℕ
  pub new : ℕ
  pub made : SplitsInto key finished a
  pub splits : Splits (behind_splits key finished a) key new
  pub from : split_stores key finished a ≤ allowance
  pub to : allowance < split_stores key finished a + length (splitting (behind_splits key finished a) key new)

-- Behind all its splits, from the last entry of the last one on. So is a put that was not cut, and one that does not split.
pub record CutBehind (a : List ℕ) (key allowance : ℕ) : Type 0 where
  pub finished : List ℕ
  pub made : SplitsInto key finished a
  pub no_more : (n : ℕ) → Splits (behind_splits key finished a) key n → ⊥
  pub from : split_stores key finished a ≤ allowance

-- There is no third place.
abbrev pub CutSomewhere : Type 0
CutSomewhere = (a : List ℕ) (key allowance : ℕ) → put_tests a key ≡ none → CutInSplit a key allowance ⊎ CutBehind a key allowance

-- ---- What mending leaves

-- The array b has the directory of a: its depth, and each entry.
pub record SameDirectory (a b : List ℕ) : Type 0 where
  pub depth_same : depth b ≡ depth a
  pub entries_same : (i : ℕ) → i < 2 ^ depth a → entry_at b (depth a) i ≡ entry_at a (depth a) i

-- The array a, as a split finds it; doubled, where the doubling is complete within the split's first n stores.
abbrev pub doubled_within : (n : ℕ) → List ℕ → (key : ℕ) → List ℕ
doubled_within n a key = pick (ltb n (length (doubling_for a key))) a (apply (doubling_for a key) a)

-- The number of a split's stores before its first entry: the entries of the key's block, as it is after any doubling, are the last.
abbrev pub stores_before_entries : List ℕ → (key n : ℕ) → ℕ
stores_before_entries a key n = length (splitting a key n) - width (depth (apply (doubling_for a key) a)) (local_depth (key_entry a key))

-- The array that the split found in which a put was cut.
abbrev pub split_from : {a : List ℕ} {key allowance : ℕ} → CutInSplit a key allowance → List ℕ
split_from {a} {key} c = behind_splits key c.finished a

-- How many stores were made in that split.
abbrev pub made_in_split : {a : List ℕ} {key allowance : ℕ} → CutInSplit a key allowance → ℕ
made_in_split {a} {key} {allowance} c = allowance - split_stores key c.finished a

-- The stores of the put up to the first entry of that split.
abbrev pub up_to_entries : {a : List ℕ} {key allowance : ℕ} → CutInSplit a key allowance → ℕ
up_to_entries {a} {key} c = split_stores key c.finished a + stores_before_entries (split_from c) key c.new

-- The split is rolled back: the directory is that of before, doubled where the doubling was complete; the new segment is named by nothing;
-- and every word is as the same put leaves it, cut no later than before the first entry.
pub record RolledBack (a : List ℕ) (key value allowance : ℕ) (c : CutInSplit a key allowance) (b : List ℕ) : Type 0 where
  pub directory : SameDirectory (doubled_within (made_in_split c) (split_from c) key) b
  pub unnamed : named b c.new ≡ false
  pub words : b ≡ (outcome_of a (Put key value (min allowance (up_to_entries c)))).after

-- Of a put that passes its tests on an array with a consistent directory: up to the last entry of the split in which it was cut, mending to
-- completion rolls that split back.
abbrev pub MendingRollsBack : Type 0
MendingRollsBack =
    (a : List ℕ) (key value allowance : ℕ) → consistent a (depth a) (segments a) ≡ true → put_tests a key ≡ none
    → (c : CutInSplit a key allowance)
    → (b : List ℕ) → MendedTo (outcome_of a (Put key value allowance)).after b → RolledBack a key value allowance c b

-- The splits stay: the directory is that of the whole of them, and mending changes nothing.
pub record Stays (a : List ℕ) (key value allowance : ℕ) (c : CutBehind a key allowance) (b : List ℕ) : Type 0 where
  pub directory : SameDirectory (behind_splits key c.finished a) b
  pub words : b ≡ (outcome_of a (Put key value allowance)).after

-- From the last entry on it does, of the same puts.
abbrev pub MendingKeepsSplits : Type 0
MendingKeepsSplits =
    (a : List ℕ) (key value allowance : ℕ) → consistent a (depth a) (segments a) ≡ true → put_tests a key ≡ none
    → (c : CutBehind a key allowance)
    → (b : List ℕ) → MendedTo (outcome_of a (Put key value allowance)).after b → Stays a key value allowance c b

-- Wherever the put was cut, a mend that may make as many stores as the directory then has entries is done.
abbrev pub CutPutMends : Type 0
CutPutMends =
    (a : List ℕ) (key value allowance n : ℕ) → consistent a (depth a) (segments a) ≡ true → put_tests a key ≡ none
    → 2 ^ depth (outcome_of a (Put key value allowance)).after ≤ n
    → (outcome_of (outcome_of a (Put key value allowance)).after (Mend n)).reply ≡ done []
