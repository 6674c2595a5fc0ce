-- The bureau's letter, demand 2: a put is refused for want of space only where the window is full and the segment can't be split.
use Rattle.std.specs.Prelude.{ℕ, ◌<◌, ◌≡◌, true, length}
use mathlib.Core.List.{List, [], ◌∷◌, Memᴰ}
use Rattle.std.proofs.Math.Option.{none}
use Rattle.replies.specs.declared.Answer.{Answer}
use Rattle.replies.specs.Replies.{Said, refused, said_by}
use Rattle.index_rules.specs.declared.Call.TheVariants.{Put}
use Rattle.index_rules.specs.Layout.{depth, max_depth, segments, local_depth, key_at}
use Rattle.index_rules.specs.Keys.{index, block_bits, live, window}
use Rattle.index_rules.specs.Slots.{hit, named}
use Rattle.index_rules.specs.Get.{key_entry, key_segment}
use Rattle.index_rules.specs.Step.{step, Performed}

-- ---- The window

-- No number stands twice in the list.
abbrev pub Different : List ℕ → Type 0
Different [] = Unit {0}
Different (x ∷ xs) = (Memᴰ x xs → ⊥) × Different xs

-- Sixteen different slots of a segment.
pub record SixteenSlots (slots : List ℕ) : Type 0 where
  pub count : length slots ≡ 16
  pub different : Different slots
  pub in_segment : (j : ℕ) → Memᴰ j slots → j < 64

-- Every key's probe window is that.
abbrev pub WindowIsSixteen : Type 0
WindowIsSixteen = (key : ℕ) → SixteenSlots (window key)

-- Every slot of the key's probe window has another key, which is live there, in the segment at `base` of local depth L with these block bits.
pub record FullWindow (a : List ℕ) (base L bits key : ℕ) : Type 0 where
  pub missing : hit a base key ≡ none
  pub others : (j : ℕ) → Memᴰ j (window key) → key_at a base j ≡ key → ⊥
  pub all_live : (j : ℕ) → Memᴰ j (window key) → live L bits (key_at a base j) ≡ true

-- So it is in the segment that the key's entry names.
abbrev pub KeyFull : List ℕ → (key : ℕ) → Type 0
KeyFull a key =
    FullWindow a (key_segment a key) (local_depth (key_entry a key)) (block_bits (depth a) (local_depth (key_entry a key)) (index key (depth a))) key

-- ---- The two refusals

-- 5, too deep: the window is full, and the segment can't be split, since L = D.
pub record TooDeepAt (a : List ℕ) (key : ℕ) : Type 0 where
  pub window_full : KeyFull a key
  pub deepest : local_depth (key_entry a key) ≡ max_depth a

-- 6, no segment: the window is full, L < D, and every segment is named by an entry.
pub record NoSegmentAt (a : List ℕ) (key : ℕ) : Type 0 where
  pub window_full : KeyFull a key
  pub local_room : local_depth (key_entry a key) < max_depth a
  pub all_named : (s : ℕ) → s < segments a → named a s ≡ true

-- What is said of a put of the key, and the array that it leaves: 5 and 6 are said only there.
pub record ForWantOfSpace (key : ℕ) (said : Said) (left : List ℕ) : Type 0 where
  pub too_deep : said ≡ refused 5 → TooDeepAt left key
  pub no_segment : said ≡ refused 6 → NoSegmentAt left key

-- So it is of every put, on every array and with every allowance.
abbrev pub PutForWantOfSpace : Type 0
PutForWantOfSpace =
    (a l : List ℕ) (key value allowance : ℕ)
    → ForWantOfSpace key (step a l (Put key value allowance)).outcome.reply (step a l (Put key value allowance)).outcome.after

-- And of every put that was performed.
abbrev pub PerformedForWantOfSpace : Type 0
PerformedForWantOfSpace =
    (key value allowance : ℕ) (a l : List ℕ) (answer : Answer) (a' l' : List ℕ) → Performed (Put key value allowance) a l answer a' l'
    → ForWantOfSpace key (said_by answer.reply) a'
