-- Runs that antt computes from the statement alone: this file imports the statement and not its proof.
use Prim.Native.Nat.{ℕ, ◌+◌, ◌*◌}
use mathlib.Core.Path.{◌≡◌, refl}
use mathlib.Core.Bool.{Bool, true, false, not, ◌&&◌, ◌||◌}
use mathlib.Core.List.{List, [], ◌∷◌, ◌++◌}
use lib.ListN.{replicate}
use Rattle.stores.specs.Lists.{each}
use Rattle.replies.specs.Replies.{Said, said_same}
use Rattle.index_rules.specs.declared.Call.{Call}
use Rattle.index_rules.specs.declared.Call.TheVariants.{Format, Get, Put, Remove, Merge, Mend, List as ListCall, ListBlock}
use Rattle.index_rules.specs.Step.{outcome_of}
use Rattle.index_rules.proofs.Table.{computed}
use Rattle.runs.specs.Map.{empty, updated, fed}
use Rattle.runs.specs.Run.{start, may_follow, is_recovery, recovery_after, claimed, next, finish, valid_run}
use Rattle.index_history.specs.History.{Request, index}
use Rattle.runs.specs.Check.{get_agrees, calls_agree, gets_agree, agrees}

-- A run from an index of D = 2, S = 4, with the keys that are asked for at its end, and whether it is a valid run.
pub record Sample : Type 0 where
  pub calls : List Call
  pub keys : List ℕ
  pub valid : Bool

-- The array on which a format has just answered done. It held 7 in every word before.
abbrev pub formatted : List ℕ
formatted = (outcome_of (replicate 520 7) (Format 2 4 67)).after

-- The calls as requests, each with a list array of 64 words.
abbrev pub requests : List Call → List Request
requests [] = []
requests (c ∷ cs) = record { call = c; list = replicate 64 0 } ∷ requests cs

-- What a get of a key says.
abbrev pub lookup : List ℕ → ℕ → Said
lookup a key = (outcome_of a (Get key)).reply

-- A valid run agrees with the map, and a run that is not valid is told as such.
unfoldable pub passes : Sample → Bool
passes s =
    (not s.valid || (valid_run index (start formatted) (requests s.calls) && agrees index lookup s.keys (start formatted) (requests s.calls)))
    && (s.valid || not (valid_run index (start formatted) (requests s.calls)))

unfoldable pub all_pass : List Sample → Bool
all_pass [] = true
all_pass (s ∷ ss) = passes s && all_pass ss

-- Sixteen puts that fill the window of key 7; the put of 263 then splits its segment.
abbrev pub sixteen : List Call
sixteen = each (λ i. Put (7 + 16 * i) (100 + i) 2 ∷ []) 16

abbrev pub keys : List ℕ
keys = 0 ∷ 263 ∷ 8 ∷ each (λ i. (7 + 16 * i) ∷ []) 16

-- A split cut between its entries, a mend cut, a mend done; a remove, a put and a remove that are refused or cut, formats refused, a
-- get of 0, listings with and without room, and gets in between, also where a mend is awaited.
abbrev pub long_run : List Call
long_run =
    sixteen
    ++ (Get 7 ∷ Put 263 5 76 ∷ Get 23 ∷ Get 263 ∷ Mend 0 ∷ Get 23 ∷ Format 1 4 100 ∷ Format 2 5 100 ∷ Get 0 ∷ Mend 1 ∷ Get 263 ∷ Get 23
    ∷ Put 263 6 1000 ∷ Get 263 ∷ Remove 23 1 ∷ Get 23 ∷ Remove 23 1 ∷ Put 0 9 100 ∷ Get 0 ∷ Remove 0 1 ∷ ListCall ∷ ListBlock 0
    ∷ ListBlock 1 ∷ ListBlock 2 ∷ Put 7 1 1 ∷ Get 7 ∷ Remove 39 0 ∷ Get 39 ∷ Mend 5 ∷ Get 39 ∷ Format 12 4096 100 ∷ [])

-- Behind the split of 279 segment 0 keeps a stale record of page 23. Page 23 is removed; then a merge that is refused with 15, since 7 and
-- 279 stand in one slot; one that is cut before its first entry, and mended; one that is cut behind it, and mended by a cut mend and a done
-- one; merges refused with 14 and 2; a put that splits again; and a merge that is done. Pages are asked for in between, also before the mends.
abbrev pub merge_run : List Call
merge_run =
    sixteen
    ++ (Put 279 5 1000 ∷ Remove 23 1 ∷ Merge 7 1000 ∷ Remove 7 1 ∷ Merge 39 17 ∷ Get 55 ∷ Mend 0 ∷ Get 55 ∷ Merge 39 17 ∷ Get 55 ∷ Get 39
    ∷ Mend 0 ∷ Get 55 ∷ Mend 1 ∷ Get 23 ∷ Get 55 ∷ Get 279 ∷ Merge 39 1000 ∷ Merge 0 1000 ∷ Put 7 8 2 ∷ Put 263 6 1000 ∷ Get 23 ∷ Get 263
    ∷ ListCall ∷ Remove 263 1 ∷ Merge 39 1000 ∷ Get 39 ∷ Get 55 ∷ [])

pub samples : List Sample
samples =
    -- the empty run
    record { calls = []; keys = keys; valid = true }
    ∷ record { calls = long_run; keys = keys; valid = true }
    -- merges, cut and whole, and a page removed before them that does not come back
    ∷ record { calls = merge_run; keys = 279 ∷ keys; valid = true }
    -- left waiting for a mend, behind a put that was cut between its entries, one that was cut between value and key, and a remove
    ∷ record { calls = sixteen ++ (Put 263 5 76 ∷ []); keys = keys; valid = true }
    ∷ record { calls = Put 7 1 1 ∷ Get 7 ∷ []; keys = keys; valid = true }
    ∷ record { calls = Put 7 1 2 ∷ Remove 7 0 ∷ Get 7 ∷ []; keys = keys; valid = true }
    -- a put that is cut is not told to the map; nor is one that is refused
    ∷ record { calls = Put 7 1 2 ∷ Put 7 2 0 ∷ Mend 0 ∷ Get 7 ∷ Put 0 3 2 ∷ []; keys = keys; valid = true }
    -- a removed key is absent
    ∷ record { calls = Put 7 1 2 ∷ Remove 7 1 ∷ Get 7 ∷ []; keys = keys; valid = true }
    -- no valid runs: a format that is done or cut off; calls other than gets, mends and refused formats where a mend is awaited
    ∷ record { calls = Format 2 4 100 ∷ []; keys = []; valid = false }
    ∷ record { calls = Format 2 4 66 ∷ []; keys = []; valid = false }
    ∷ record { calls = Put 7 1 1 ∷ Put 7 1 2 ∷ []; keys = []; valid = false }
    ∷ record { calls = Put 7 1 1 ∷ Get 7 ∷ Remove 7 1 ∷ []; keys = []; valid = false }
    ∷ record { calls = Put 7 1 2 ∷ Remove 7 0 ∷ ListCall ∷ []; keys = []; valid = false }
    ∷ record { calls = Put 7 1 2 ∷ Remove 7 0 ∷ ListBlock 0 ∷ []; keys = []; valid = false }
    ∷ record { calls = sixteen ++ (Put 263 5 76 ∷ Mend 0 ∷ Put 7 1 1 ∷ []); keys = []; valid = false }
    -- a cut merge waits for a mend as a cut put does, and merges wait for it too
    ∷ record { calls = sixteen ++ (Put 263 5 79 ∷ Remove 263 1 ∷ Merge 7 16 ∷ Get 7 ∷ Put 7 1 1 ∷ []); keys = []; valid = false }
    ∷ record { calls = Put 7 1 1 ∷ Merge 7 1 ∷ []; keys = []; valid = false }
    ∷ []

pub samples_pass : all_pass samples ≡ true
unfolding computed passes all_pass samples empty updated fed may_follow is_recovery recovery_after claimed next finish valid_run said_same get_agrees calls_agree gets_agree agrees
samples_pass = refl
