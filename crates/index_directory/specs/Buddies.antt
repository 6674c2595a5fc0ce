-- What the search for the buddy answers, and what the code of a joined block's entries asks and stores.
use Rattle.std.specs.Prelude.{Option, Some, None, ℕ, suc, ◌+◌, ◌^◌, ◌≤◌, ◌<◌, ◌≡◌, true, false, List, leb, length}
use Rattle.stores.specs.Lists.{pick}
use Rattle.stores.specs.Store.{Store}
use Rattle.index_rules.specs.Layout.{depth}
use Rattle.index_rules.specs.Keys.{index, width, block_start}
use Rattle.index_rules.specs.Get.{key_entry}
use Rattle.index_rules.specs.Merge.{right_start, joined_start, joining, key_buddy, left_of, right_of}
use Rattle.index_layout.specs.declared.place.Place.{Place}
use Rattle.index_directory.specs.declared.buddy.Starts.{Starts}
use Rattle.index_directory.specs.declared.buddy.Pair.{Pair}
use Rattle.index_directory.specs.declared.join.JoinedBlock.{JoinedBlock}

-- ---- The buddy

-- The halves of the block of local depth M that holds index i, in the directory of depth g, begin so.
pub record BegunBy (s : Starts) (g M i : ℕ) : Type 0 where
  pub left_is : s.left ≡ block_start g M i
  pub right_is : s.right ≡ right_start g M i

-- The halves by the segment on index i's side and the other.
abbrev pub pair_of : Starts → (i own other : ℕ) → Pair
pair_of s i own other =
    pick (leb s.right i) (record { left = other; right = own; start = s.left }) (record { left = own; right = other; start = s.left })

-- The key's entry has a buddy, and the pair is what a merge on the key joins.
pub record PairAt (pair : Pair) (p : Place) (a : List ℕ) : Type 0 where
  pub buddy : key_buddy a p.key ≡ true
  pub left_is : left_of a p.key ≡ pair.left
  pub right_is : right_of a p.key ≡ pair.right
  pub start_is : joined_start a (index p.key (depth a)) (key_entry a p.key) ≡ pair.start

-- What the search answers.
abbrev pub PairedBy : Option Pair → Place → List ℕ → Type 0
PairedBy (Some pair) p a = PairAt pair p a
PairedBy None p a = key_buddy a p.key ≡ false

-- ---- The entries of a joined block

-- The entries of the block can be stored.
pub record Joinable (b : JoinedBlock) (a : List ℕ) : Type 0 where
  pub low : b.local_depth ≤ b.depth
  pub depth_high : b.depth ≤ 12
  pub inside : b.start + width b.depth b.local_depth ≤ 2 ^ b.depth
  pub fits : b.segment < 2 ^ 32
  pub room : 2 ^ suc b.depth ≤ length a

-- The stores of a merge's entries for such a block.
abbrev pub joining_of : JoinedBlock → List Store
joining_of b = joining b.depth b.local_depth b.start b.segment
