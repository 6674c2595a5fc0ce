-- Runs of the board that antt computes from the statement alone: this file imports the statement and not its proof.
use Prim.Native.Nat.{ℕ, ◌+◌, ◌*◌}
use mathlib.Core.Path.{◌≡◌, refl}
use mathlib.Core.Bool.{Bool, true, not, ◌&&◌}
use mathlib.Core.List.{List, [], ◌∷◌, ◌++◌}
use mathlib.Core.Option.{Option, none, some}
use lib.ListN.{replicate}
use Rattle.stores.specs.Lists.{each}
use Rattle.replies.specs.Replies.{Said, said_same}
use Rattle.index_rules.specs.declared.Call.{Call}
use Rattle.index_rules.specs.declared.Call.TheVariants.{Format, Get, Mend}
use Rattle.index_rules.specs.Step.{outcome_of}
use Rattle.index_rules.proofs.Table.{computed}
use Rattle.runs.specs.Map.{Map, empty, updated, fed, map_says}
use Rattle.runs.specs.Run.{start, may_follow, is_recovery, recovery_after, claimed, next, finish, valid_run}
use Rattle.runs.specs.Check.{get_agrees, calls_agree, gets_agree, agrees}
use Rattle.board.specs.Jobs.{valid_year, valid_month, valid_number, job_key, year_tests, job_tests, behind, on_job}
use Rattle.board_history.specs.BoardHistory.{BoardCall, sets, reads, removes, prints, calls, board}

-- A job's key and what the map is to have for it.
pub record Held : Type 0 where
  pub key : ℕ
  pub pages : Option ℕ

-- The array on which a format has just answered done.
abbrev pub formatted : List ℕ
formatted = (outcome_of (replicate 520 7) (Format 2 4 67)).after

-- One of the index's own calls.
abbrev pub own : Call → BoardCall
own c = calls (record { call = c; list = [] })

-- What a get of a key says.
abbrev pub lookup : List ℕ → ℕ → Said
lookup a key = (outcome_of a (Get key)).reply

-- Sixteen jobs of January in year 1 that fill the window of number 7; the set of number 263 then splits their segment.
abbrev pub sixteen : List BoardCall
sixteen = each (λ i. sets 1 1 (7 + 16 * i) (100 + i) 2 ∷ []) 16

-- The key of a number in that month.
abbrev pub key_of : ℕ → ℕ
key_of n = 69632 + n

abbrev pub keys : List ℕ
keys = key_of 263 ∷ key_of 8 ∷ each (λ i. key_of (7 + 16 * i) ∷ []) 16

map_has : Map → List Held → Bool
map_has m [] = true
map_has m (h ∷ hs) = said_same (map_says (m h.key)) (map_says h.pages) && map_has m hs

-- A valid run agrees with the map, which at its end has these.
unfoldable pub agreeing : List BoardCall → List Held → Bool
unfolding map_has
agreeing run held =
    valid_run board (start formatted) run
    && (agrees board lookup keys (start formatted) run && map_has (finish board (start formatted) run).map held)

-- A set cut in the middle of a split, a mend cut and a mend done; jobs read in between, also before the mend; a job set anew, one removed; calls
-- that the board refuses with 11, 12 and 13, also before the mend.
abbrev pub long_run : List BoardCall
long_run =
    sixteen
    ++ (sets 1 1 263 5 76 ∷ reads 1 1 263 ∷ reads 1 1 23 ∷ reads 1 13 23 ∷ prints 0 9 ∷ own (Mend 0) ∷ reads 1 1 23 ∷ sets 0 1 263 5 9
    ∷ own (Mend 1) ∷ reads 1 1 263 ∷ reads 1 1 23 ∷ sets 1 1 263 6 1000 ∷ reads 1 1 263 ∷ reads 0 1 263 ∷ sets 1 13 7 1 9
    ∷ removes 1 1 4096 9 ∷ removes 1 1 23 1 ∷ reads 1 1 23 ∷ sets 1 1 39 8 1 ∷ [])

pub sample : Bool
sample =
    agreeing [] []
    && (agreeing long_run
    (record { key = key_of 263; pages = some 6 }
    ∷ record { key = key_of 23; pages = none }
    ∷ record { key = key_of 39; pages = some 8 }
    ∷ record { key = key_of 7; pages = some 100 }
    ∷ [])
    -- after a set that is cut, no other set before the mend is done
    && not (valid_run board (start formatted) (sixteen ++ (sets 1 1 263 5 76 ∷ sets 1 1 7 1 9 ∷ []))))

pub sample_passes : sample ≡ true
unfolding sample agreeing computed said_same empty updated fed may_follow is_recovery recovery_after claimed next finish valid_run get_agrees calls_agree gets_agree agrees valid_year valid_month valid_number job_key year_tests job_tests behind on_job
sample_passes = refl
