-- What the iterators over a text have still to give.
use Rattle.std.specs.Prelude.{ℕ, List, [], Some, None}
use Rattle.text.specs.declared.parts.Parts.{Parts}
use Rattle.text.specs.declared.script.Lines.{Lines}
use Rattle.text.specs.Parts.{parts, nonempty}

-- The parts that are left.
abbrev pub parts_left : Parts → List (List ℕ)
parts_left p = elim p.rest [ None ↦ [] | Some rest ↦ parts p.by rest.now ]

-- The lines that are left.
abbrev pub lines_left : Lines → List (List ℕ)
lines_left l = nonempty (parts_left l.parts)
