-- What else is shown of every run of the index.
use Rattle.std.specs.Prelude.{ℕ, ◌^◌, ◌≤◌, ◌<◌, ◌≡◌, Bool, true, false, not, ◌&&◌, ◌||◌, List, [], ◌∷◌, length}
use Rattle.stores.specs.Written.{at_front}
use Rattle.index_rules.specs.declared.Call.{Call}
use Rattle.index_rules.specs.declared.Call.TheVariants.{Merge, Mend, List as ListCall}
use Rattle.replies.specs.declared.Answer.{Answer}
use Rattle.std.proofs.Math.Option.{some}
use Rattle.index_rules.specs.Layout.{depth, segments}
use Rattle.index_rules.specs.Slots.{named, free_segment}
use Rattle.index_rules.specs.Merge.{right_of}
use Rattle.replies.specs.Replies.{done, said_by, is_refusal, says_damage}
use Rattle.index_rules.specs.Mend.{mending}
use Rattle.index_rules.specs.Listing.{records, words_of}
use Rattle.index_rules.specs.Step.{step, Performed}
use Rattle.index_laws.specs.JoinedListing.{Gathered}
use Rattle.runs.specs.Run.{Point, start, may_follow, valid_run, EachCall}
use Rattle.index_history.specs.History.{view_of, Request, index, Formatted, CoveredPoint}
use Rattle.index_history.specs.Listing.{ListsMap}

-- In a run no call answers 1, 3 or 4.
abbrev pub NeverDamage : Type 0
NeverDamage =
    (a : List ℕ) → Formatted a → (calls : List Request) → valid_run index (start a) calls ≡ true
    → EachCall index (λ p r. says_damage (step p.array r.list r.call).outcome.reply ≡ false) (start a) calls

-- A mend at any point of a run is done if it may make as many stores as the directory has entries; at most 4,096.
abbrev pub MendSuffices : Type 0
MendSuffices =
    (p : Point) → CoveredPoint p → (allowance : ℕ) (l : List ℕ) → 2 ^ depth p.array ≤ allowance
    → (step p.array l (Mend allowance)).outcome.reply ≡ done []

-- The call waits for the mend: in a run it may come where none is awaited, and not where one is.
abbrev pub waits_for_mend : Call → Bool
waits_for_mend c = may_follow false (view_of c) (done []) && not (may_follow true (view_of c) (done []))

-- Such a call, made before the mend all the same (no run has one): unless it answers 2 or 4, the mend has no store to make, so that the call was made
-- on the mended store.
abbrev pub EarlyCalls : Type 0
EarlyCalls =
    (p : Point) → CoveredPoint p → (l : List ℕ) (c : Call) → waits_for_mend c ≡ true
    → (is_refusal 2 (step p.array l c).outcome.reply || is_refusal 4 (step p.array l c).outcome.reply) ≡ false
    → mending p.array ≡ []

-- A performed list that is done, where the store needs no recovery, has left the records of the array, and they are the map's.
abbrev pub ListIsMap : Type 0
ListIsMap =
    (p : Point) → CoveredPoint p → p.needs_recovery ≡ false
    → (l : List ℕ) (answer : Answer) (a' l' : List ℕ) (count : ℕ)
    → Performed ListCall p.array l answer a' l'
    → said_by answer.reply ≡ done (count ∷ [])
    → (l' ≡ at_front (words_of (records p.array)) l) × ListsMap p.map (records p.array) × (count ≡ length (records p.array))

-- There too a reader with a list array of 128 words or more gathers the records of the array, block by block, and they are the map's.
abbrev pub PartsAreMap : Type 0
PartsAreMap =
    (p : Point) → CoveredPoint p → p.needs_recovery ≡ false → (l : List ℕ) → 128 ≤ length l
    → Gathered p.array l × ListsMap p.map (records p.array)

-- Segment n is free in the array a: it is below S, no entry names it, and a split takes it, or a smaller one that no entry names.
pub record FreeIn (n : ℕ) (a : List ℕ) : Type 0 where
  pub below : n < segments a
  pub unnamed : named a n ≡ false
  pub taken : ℕ
  pub found : free_segment a ≡ some taken
  pub not_behind : taken ≤ n

-- Behind a done merge, of any store that the history rule covers, the right half's segment is free.
abbrev pub MergeFrees : Type 0
MergeFrees =
    (p : Point) → CoveredPoint p → (key allowance : ℕ) (l : List ℕ) → (step p.array l (Merge key allowance)).outcome.reply ≡ done []
    → FreeIn (right_of p.array key) (step p.array l (Merge key allowance)).outcome.after
