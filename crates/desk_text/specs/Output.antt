-- Document 01, 'The desk program': the lines of output.
use Rattle.std.specs.Prelude.{ℕ, List, [], ◌∷◌, ◌++◌}
use Rattle.replies.specs.Replies.{Said, done, listed, absent, refused}
use Rattle.text.specs.Parts.{tab, line_feed}
use Rattle.text.specs.Number.{decimal}

-- The second field: 0 for done, `-` for absent, or the number of the refusal.
abbrev pub reply_text : Said → List ℕ
reply_text (done values) = 48 ∷ []
reply_text (listed n f) = 48 ∷ []
reply_text absent = 45 ∷ []
reply_text (refused n) = decimal n

-- A field for each value, with its tab in front.
unfoldable pub values_text : List ℕ → List ℕ
values_text [] = []
values_text (v ∷ vs) = tab ∷ decimal v ++ values_text vs

-- The fields behind the store count: the value of a get that found its key, or the record count of a done list. No letter stands for
-- a list of one block, so a line of it has none.
abbrev pub said_text : Said → List ℕ
said_text (done values) = values_text values
said_text (listed n f) = []
said_text absent = []
said_text (refused n) = []

-- What a line starts with, in front of the store count.
abbrev pub head_text : (letter : ℕ) → Said → List ℕ
head_text letter said = letter ∷ tab ∷ reply_text said

-- What it ends with, behind the store count.
abbrev pub end_text : Said → List ℕ
end_text said = said_text said ++ line_feed ∷ []

-- The line of an answer: the letter, the reply, the stores made, and the value or count.
unfoldable pub answer_line : (letter : ℕ) → Said → (stores : ℕ) → List ℕ
answer_line letter said stores =
    letter ∷ tab ∷ reply_text said ++ tab ∷ decimal stores ++ said_text said ++ line_feed ∷ []

-- The line for a line that is no call: a question mark.
abbrev pub other_line : List ℕ
other_line = 63 ∷ line_feed ∷ []

-- The line for a script of too many bytes: an exclamation mark.
abbrev pub too_long_line : List ℕ
too_long_line = 33 ∷ line_feed ∷ []

-- The bytes of room for the longest line: letter, reply, stores and value with their tabs and the line feed.
abbrev pub line_room : ℕ
line_room = 48
