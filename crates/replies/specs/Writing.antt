-- A call that leaves the array as it is and writes to the front of another lent one: a list its words, a print its bytes.
use Rattle.std.specs.Prelude.{ℕ, List, []}
use Rattle.std.proofs.Math.Option.{Option, none, some}
use Rattle.replies.specs.declared.Refusal.{Refusal}
use Rattle.replies.specs.Replies.{Said, refuse}

-- What it says, and the words that it writes; those behind them stay.
pub record Writing : Type 0 where
  pub reply : Said
  pub words : List ℕ

-- It says this and writes nothing.
abbrev pub nothing : Said → Writing
nothing said = record { reply = said; words = [] }

-- A writing behind tests: a refusal by the tests writes nothing.
unfoldable pub behind_tests : Option Refusal → Writing → Writing
behind_tests none w = w
behind_tests (some r) w = nothing (refuse r)
