-- Document 01, 'The desk program': a text in parts. A script's lines are parted by line feeds, a line's fields by tabs.
use Rattle.std.specs.Prelude.{ℕ, List, [], ◌∷◌, eqb}
use Rattle.stores.specs.Lists.{pick}

-- The byte that parts a line's fields.
abbrev pub tab : ℕ
tab = 9

-- The byte that parts a script's lines.
abbrev pub line_feed : ℕ
line_feed = 10

-- Parts of which the first has one more byte in front.
unfoldable pub started_by : ℕ → List (List ℕ) → List (List ℕ)
started_by x [] = (x ∷ []) ∷ []
started_by x (p ∷ ps) = (x ∷ p) ∷ ps

-- The parts of a text between the bytes b: one part more than there are such bytes, and a part may be empty.
unfoldable pub parts : (b : ℕ) → List ℕ → List (List ℕ)
parts b [] = [] ∷ []
parts b (x ∷ xs) =
    let later : List (List ℕ) = parts b xs in
    pick (eqb x b) ([] ∷ later) (started_by x later)

-- The parts that have a byte.
unfoldable pub nonempty : List (List ℕ) → List (List ℕ)
nonempty [] = []
nonempty ([] ∷ ps) = nonempty ps
nonempty ((x ∷ p) ∷ ps) = (x ∷ p) ∷ nonempty ps

-- The lines of a script. The last may lack its line feed; empty lines are skipped.
unfoldable pub lines_of : List ℕ → List (List ℕ)
lines_of script = nonempty (parts line_feed script)

-- The fields of a line, parted by a single tab.
unfoldable pub fields_of : List ℕ → List (List ℕ)
fields_of line = parts tab line
