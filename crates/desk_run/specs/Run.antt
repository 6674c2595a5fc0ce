-- Document 01, 'The desk program': what a script writes, and the index array that it leaves.
use Rattle.std.specs.Prelude.{ℕ, List, [], ◌∷◌, ◌++◌, leb, length, replicate}
use Rattle.std.proofs.Math.Option.{Option, none, some}
use Rattle.stores.specs.Lists.{pick}
use Rattle.stores.specs.Plan.{Outcome}
use Rattle.replies.specs.Replies.{Said}
use Rattle.index_rules.specs.Step.{effect, carried_out}
use Rattle.text.specs.Parts.{lines_of}
use Rattle.desk_text.specs.Line.{Spoken, call_of}
use Rattle.desk_text.specs.Output.{answer_line, other_line, too_long_line}

-- The most bytes of a script.
abbrev pub most_bytes : ℕ
most_bytes = 16384

-- The text written, and the index array afterwards.
pub record Ran : Type 0 where
  pub text : List ℕ
  pub words : List ℕ

-- A line's call that has said and left this.
abbrev pub answered : (letter : ℕ) → Outcome Said → Ran
answered letter o = record { text = answer_line letter o.reply o.made; words = o.after }

-- One line on the index array a, with a list array of `room` words: a call is made, any other line prints a question mark. What the
-- list array holds does not matter: the desk program prints no record.
unfoldable pub ran_call : (room : ℕ) → List ℕ → Option Spoken → Ran
ran_call room a none = record { text = other_line; words = a }
ran_call room a (some line) = answered line.letter (carried_out (effect a room line.call) a)

-- What one line gives, followed by what the later ones give.
abbrev pub followed : Ran → Ran → Ran
followed first later = record { text = first.text ++ later.text; words = later.words }

-- Lines one after the other, each on the array that the one before left.
unfoldable pub ran_lines : (room : ℕ) → List ℕ → List (List ℕ) → Ran
ran_lines room a [] = record { text = []; words = a }
ran_lines room a (line ∷ lines) =
    let first : Ran = ran_call room a (call_of line) in
    followed first (ran_lines room first.words lines)

-- What the lines of a script write.
abbrev pub lines_output : (room : ℕ) → List ℕ → (script : List ℕ) → List ℕ
lines_output room a script = (ran_lines room a (lines_of script)).text

-- A whole script; one of too many bytes gives the single line `!`, and nothing is run.
unfoldable pub ran : (room : ℕ) → List ℕ → (script : List ℕ) → Ran
ran room a script = pick (leb (length script) most_bytes) (ran_lines room a (lines_of script)) (record { text = too_long_line; words = a })

-- The words that the desk program owns, all 0 at the start.
abbrev pub index_words : ℕ
index_words = 4160

-- The words of the list array that it lends.
abbrev pub list_words : ℕ
list_words = 512

-- What the desk program writes for a script.
abbrev pub desk_output : (script : List ℕ) → List ℕ
desk_output script = (ran list_words (replicate index_words 0) script).text
