-- Lookups before mending: runs of the index that antt computes from the statements alone, in which keys are looked up behind every cut. This file
-- imports no proof.
use Prim.Native.Nat.{ℕ, ◌+◌, ◌*◌}
use mathlib.Core.Path.{◌≡◌, refl}
use mathlib.Core.Bool.{Bool, true, false, ◌&&◌}
use mathlib.Core.List.{List, [], ◌∷◌, ◌++◌}
use lib.Dec.{eqb}
use Rattle.stores.specs.Lists.{each}
use Rattle.replies.specs.Replies.{Said, done, listed, absent, refused, said_same}
use Rattle.index_rules.specs.declared.Call.{Call}
use Rattle.index_rules.specs.declared.Call.TheVariants.{Get, Put, Remove, Merge, Mend}
use Rattle.index_rules.specs.Step.{outcome_of}
use Rattle.index_rules.proofs.Table.{computed}
use Rattle.runs.specs.Map.{empty, updated, fed}
use Rattle.runs.specs.Run.{Point, start, may_follow, is_recovery, recovery_after, claimed, next, finish, valid_run}
use Rattle.runs.specs.BeforeMending.{mends_behind}
use Rattle.runs.specs.Check.{get_agrees, calls_agree, gets_agree, agrees, same_answers, mends_unseen}
use Rattle.index_history.specs.History.{Request, index}
use Rattle.index_history.proofs.Samples.{formatted, requests, lookup, sixteen, keys}

-- ---- Runs with lookups behind every call

-- A call, and the number it is to say: 0 for done, or that of the refusal.
pub record Due : Type 0 where
  pub call : Call
  pub says : ℕ

abbrev due : Call → ℕ → Due
due call says = record { call = call; says = says }

-- A run in which behind each of the calls `calls`, so also where a mend is awaited, every key of `asked` is looked up.
pub record AskedRun : Type 0 where
  pub before : List Call
  pub calls : List Due
  pub asked : List ℕ

abbrev gets_of : List ℕ → List Call
gets_of [] = []
gets_of (key ∷ keys) = Get key ∷ gets_of keys

abbrev asking : (asked : List ℕ) → List Due → List Call
asking asked [] = []
asking asked (d ∷ ds) = d.call ∷ (gets_of asked ++ asking asked ds)

-- The point behind some calls.
abbrev pub behind : List Call → Point
behind calls = finish index (start formatted) (requests calls)

is_number : ℕ → Said → Bool
is_number n (done values) = eqb n 0
is_number n (listed count next) = eqb n 0
is_number n absent = false
is_number n (refused m) = eqb n m

-- The calls say these numbers, from the array a on. (Lookups change no array.)
say_numbers : List ℕ → List Due → Bool
say_numbers a [] = true
say_numbers a (d ∷ ds) = is_number d.says (outcome_of a d.call).reply && say_numbers (outcome_of a d.call).after ds

pub asked_passes : AskedRun → Bool
asked_passes r =
    let calls : List Request = requests (r.before ++ asking r.asked r.calls) in
    say_numbers (behind r.before).array r.calls
    && (valid_run index (start formatted) calls && agrees index lookup r.asked (start formatted) calls)

-- The put of state e, 79 stores, cut in its doubling, behind it, in its copy step, behind that, between its entries and behind both, and between
-- value and key. Each time it is made again what was finished stays: the doubling first, then the split.
abbrev pub split_run : AskedRun
split_run =
    record {
      before = sixteen;
      calls =
          due (Put 263 5 1) 7 ∷ due (Mend 0) 0
          ∷ due (Put 263 5 3) 7 ∷ due (Mend 0) 0
          ∷ due (Put 263 5 40) 7 ∷ due (Mend 0) 0
          ∷ due (Put 263 5 72) 7 ∷ due (Mend 0) 0
          ∷ due (Put 263 5 73) 7 ∷ due (Mend 0) 7 ∷ due (Mend 1) 0
          ∷ due (Put 263 5 74) 7 ∷ due (Mend 0) 0
          ∷ due (Put 263 5 1) 7 ∷ due (Mend 0) 0
          ∷ due (Put 263 6 2) 0 ∷ [];
      asked = keys;
    }

-- A block of four entries in a directory of depth 2: state i, whose put of 1030 doubles twice and is refused, and two merges. Sixteen other pages
-- fill the window of key 11.
abbrev pub four_entries : List Call
four_entries =
    each (λ i. Put (7 + 64 * i) (200 + i) 2 ∷ []) 16
    ++ (Put 1030 1 1000 ∷ Merge 7 1000 ∷ Merge 7 1000 ∷ each (λ i. Put (11 + 16 * i) (100 + i) 2 ∷ []) 16)

-- The put of 267 splits the block in 72 stores of the copy step and four entries, from right to left: cut behind one, two, three and all of them, with
-- mends that are cut before their first store and between their stores. Then the merge, 16 stores in slots and four entries from left to right: cut
-- within the slots, before its first entry, and behind it, with a mend that is cut between its stores.
abbrev pub entries_run : AskedRun
entries_run =
    record {
      before = four_entries;
      calls =
          due (Put 267 5 73) 7 ∷ due (Mend 0) 7 ∷ due (Mend 1) 0
          ∷ due (Put 267 5 74) 7 ∷ due (Mend 1) 7 ∷ due (Mend 1) 0
          ∷ due (Put 267 5 75) 7 ∷ due (Mend 0) 7 ∷ due (Mend 2) 7 ∷ due (Mend 1) 0
          ∷ due (Put 267 5 76) 7 ∷ due (Mend 0) 0
          ∷ due (Put 267 6 2) 0 ∷ due (Remove 267 1) 0
          ∷ due (Merge 11 8) 7 ∷ due (Mend 0) 0
          ∷ due (Merge 11 16) 7 ∷ due (Mend 0) 0
          ∷ due (Merge 11 17) 7 ∷ due (Mend 1) 7 ∷ due (Mend 2) 0 ∷ [];
      asked = 11 ∷ 43 ∷ 27 ∷ 59 ∷ 267 ∷ 7 ∷ [];
    }

pub asked_runs_pass : (asked_passes split_run && asked_passes entries_run) ≡ true
unfolding computed is_number say_numbers asked_passes empty updated fed may_follow is_recovery recovery_after claimed next finish valid_run said_same get_agrees calls_agree gets_agree agrees
asked_runs_pass = refl

-- ---- Mending to completion

-- Calls of which the last is cut off, and mends to completion behind it: lookups of the keys say the same before and after.
pub record MendedCut : Type 0 where
  pub calls : List Call
  pub mends : List Call

cut_passes : MendedCut → Bool
cut_passes c = mends_unseen index lookup keys (behind c.calls) (requests c.mends)

pub all_cuts_pass : List MendedCut → Bool
all_cuts_pass [] = true
all_cuts_pass (c ∷ cs) = cut_passes c && all_cuts_pass cs

-- The put of state e, cut between its entries: a mend that is cut and one that is done.
abbrev pub cut_split : MendedCut
cut_split = record { calls = sixteen ++ (Put 263 5 76 ∷ []); mends = Mend 0 ∷ Mend 1 ∷ [] }

-- It; the merge behind the whole put, once 263 is removed, cut between its entries; and a remove that is cut.
pub mended_cuts : List MendedCut
mended_cuts =
    cut_split
    ∷ record { calls = sixteen ++ (Put 263 5 79 ∷ Remove 263 1 ∷ Merge 7 17 ∷ []); mends = Mend 0 ∷ Mend 0 ∷ Mend 1 ∷ [] }
    ∷ record { calls = Put 7 1 2 ∷ Remove 7 0 ∷ []; mends = Mend 0 ∷ [] }
    ∷ []

pub mended_cuts_pass : all_cuts_pass mended_cuts ≡ true
unfolding computed cut_passes all_cuts_pass mended_cuts empty updated fed is_recovery recovery_after claimed next finish mends_behind said_same same_answers mends_unseen
mended_cuts_pass = refl
