-- Document 02, wish 3: two listings of one untouched index are equal, word for word.
use Rattle.std.specs.Prelude.{ℕ, ◌*◌, ◌≡◌, List, [], ◌∷◌, length, take}
use Rattle.stores.specs.Written.{at_front}
use Rattle.replies.specs.declared.Answer.{Answer}
use Rattle.replies.specs.Replies.{done, said_by}
use Rattle.index_rules.specs.declared.Call.TheVariants.{List as ListCall}
use Rattle.index_rules.specs.Listing.{records, words_of}
use Rattle.index_rules.specs.Step.{step, Performed}

-- A list of the index array a into the list array l has said n records and is done: it has left exactly the defined words in front.
pub record ListDone (a l : List ℕ) (n : ℕ) : Type 0 where
  pub count : n ≡ length (records a)
  pub left : (step a l ListCall).list ≡ at_front (words_of (records a)) l

-- One list says n records and leaves l, the other says k and leaves m: as many, and the same words in front.
pub record SameRecords (n : ℕ) (l : List ℕ) (k : ℕ) (m : List ℕ) : Type 0 where
  pub count : n ≡ k
  pub words : take (2 * n) l ≡ take (2 * k) m

-- Two done lists of one index array, into any two list arrays.
abbrev pub SameListing : Type 0
SameListing =
    (a l m : List ℕ) (n k : ℕ)
    → (step a l ListCall).outcome.reply ≡ done (n ∷ []) → (step a m ListCall).outcome.reply ≡ done (k ∷ [])
    → SameRecords n (step a l ListCall).list k (step a m ListCall).list

-- A list that was performed on the index array a, said n records, and left l' in its list array and b in the index array.
pub record ListPerformed (a : List ℕ) (n : ℕ) (b l' : List ℕ) : Type 0 where
  pub list : List ℕ
  pub answer : Answer
  pub performed : Performed ListCall a list answer b l'
  pub says : said_by answer.reply ≡ done (n ∷ [])

-- Two performed lists of one index array, by whichever programs.
abbrev pub SamePerformedListing : Type 0
SamePerformedListing =
    (a : List ℕ) (n : ℕ) (b l' : List ℕ) (k : ℕ) (c m' : List ℕ) → ListPerformed a n b l' → ListPerformed a k c m'
    → SameRecords n l' k m'

-- A list, and another of what the first left.
abbrev pub ListingRepeats : Type 0
ListingRepeats =
    (a : List ℕ) (n : ℕ) (b l' : List ℕ) (k : ℕ) (c m' : List ℕ) → ListPerformed a n b l' → ListPerformed b k c m'
    → SameRecords n l' k m'
