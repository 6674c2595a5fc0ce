-- Document 02, wish 7: a list array of 128 words is always enough for a block; joined from index 0 on, over one untouched index, the
-- answers are the full listing; and the two calls give 1, 3 and 4 on the same arrays.
use Rattle.std.specs.Prelude.{ℕ, zero, suc, ◌*◌, ◌^◌, ◌≤◌, ◌≡◌, true, false, List, [], ◌∷◌, ◌++◌, length, take}
use Rattle.std.proofs.Math.Option.{Option, none, some}
use Rattle.replies.specs.declared.Answer.{Answer}
use Rattle.replies.specs.Replies.{Said, done, listed, absent, refused, said_by, is_refusal, says_damage}
use Rattle.index_rules.specs.declared.Call.TheVariants.{List as ListCall, ListBlock}
use Rattle.index_rules.specs.Layout.{depth}
use Rattle.index_rules.specs.Scan.{leaders}
use Rattle.index_rules.specs.Listing.{records, words_of}
use Rattle.index_rules.specs.Step.{Step, step, Performed}

-- With a list array of 128 words or more, the listing of a block does not answer 10, on any array and at any index.
abbrev pub AlwaysEnough : Type 0
AlwaysEnough = (a l : List ℕ) (i : ℕ) → 128 ≤ length l → is_refusal 10 (step a l (ListBlock i)).outcome.reply ≡ false

-- Where one of the two listings is refused by 1, 3 or 4, so is the other, with the same number.
abbrev pub SameDamage : Type 0
SameDamage =
    (a l m : List ℕ) (i n : ℕ) → says_damage (refused n) ≡ true
    → is_refusal n (step a l ListCall).outcome.reply ≡ is_refusal n (step a m (ListBlock i)).outcome.reply

-- ---- The answers joined

-- Parts, one behind the other.
unfoldable pub joined : List (List ℕ) → List ℕ
joined [] = []
joined (p ∷ ps) = p ++ joined ps

-- A part in front of those gathered later.
unfoldable pub in_front : List ℕ → Option (List (List ℕ)) → Option (List (List ℕ))
in_front p none = none
in_front p (some ps) = some (p ∷ ps)

-- What is gathered from an answer on that says `said` and leaves the list array l: the words of its records, and where it names a
-- next index, what is gathered later from there on. None where it is refused.
unfoldable pub gathered_from : Said → (l : List ℕ) → (later : ℕ → Option (List (List ℕ))) → Option (List (List ℕ))
gathered_from (listed count (some j)) l later = in_front (take (2 * count) l) (later j)
gathered_from (listed count none) l later = some (take (2 * count) l ∷ [])
gathered_from (done values) l later = none
gathered_from absent l later = none
gathered_from (refused n) l later = none

-- What a reader with the one list array l gathers of the array a, from index i on, with n calls at most: part by part to the last. None
-- where a call is refused, or the last block has not come.
unfoldable pub gather : List ℕ → (n i : ℕ) (l : List ℕ) → Option (List (List ℕ))
gather a zero i l = none
gather a (suc n) i l =
    let s : Step = step a l (ListBlock i) in
    gathered_from s.outcome.reply s.list (λ j. gather a n j s.list)

-- The parts, joined, are the full listing of the array a, word for word, and there are as many as blocks.
pub record FullListing (a : List ℕ) (parts : List (List ℕ)) : Type 0 where
  pub words : joined parts ≡ words_of (records a)
  pub blocks : length parts ≡ length (leaders a (depth a))
  pub list : (m : List ℕ) (n : ℕ) → (step a m ListCall).outcome.reply ≡ done (n ∷ [])
      → joined parts ≡ take (2 * n) (step a m ListCall).list

-- A reader with a list array of 128 words or more gathers some parts from index 0 on, and they are the full listing. Every block has an
-- entry of its own, so that 2^G calls are enough.
pub record Gathered (a l : List ℕ) : Type 0 where
  pub parts : List (List ℕ)
  pub gathered : gather a (2 ^ depth a) 0 l ≡ some parts
  pub full : FullListing a parts

-- So it is on every array that list does not refuse by 1, 3 or 4.
abbrev pub JoinedListing : Type 0
JoinedListing =
    (a l m : List ℕ) → 128 ≤ length l → says_damage (step a m ListCall).outcome.reply ≡ false → Gathered a l

-- ---- The same over performed calls

-- A listing of the block at index i was performed on the array a, with some list array; it left the words `part` of its records there, and
-- has said what follows.
pub record BlockPerformed (a : List ℕ) (i : ℕ) (part : List ℕ) (f : Option ℕ) : Type 0 where
  pub list : List ℕ
  pub answer : Answer
  pub after : List ℕ
  pub list_after : List ℕ
  pub performed : Performed (ListBlock i) a list answer after list_after
  pub count : ℕ
  pub says : said_by answer.reply ≡ listed count f
  pub words : part ≡ take (2 * count) list_after

-- Such listings, each at the index that the one before has named, to the last: they left these parts.
abbrev pub PartsPerformed : List ℕ → (i : ℕ) → (part : List ℕ) → (parts : List (List ℕ)) → Type 0
PartsPerformed a i part [] = BlockPerformed a i part none
PartsPerformed a i part (p ∷ ps) = (j : ℕ) × BlockPerformed a i part (some j) × PartsPerformed a j p ps

-- From index 0 on, by whichever programs and with whichever list arrays, the parts are the full listing.
abbrev pub JoinedPerformedListing : Type 0
JoinedPerformedListing =
    (a : List ℕ) (part : List ℕ) (parts : List (List ℕ)) → PartsPerformed a 0 part parts → FullListing a (part ∷ parts)
