-- What the first pass of a print promises: it counts the lines' bytes.
use Rattle.std.specs.Prelude.{ℕ, ◌≡◌, List, length, Result, Ok, Err}
use Rattle.std.proofs.Math.Option.{none, some}
use Rattle.replies.specs.declared.Refusal.{Refusal}
use Rattle.replies.specs.Replies.{number_of}
use Rattle.board.specs.Print.{Lookup, lines_in, refused_in}

-- The bytes of the lines of the jobs that lookups find.
abbrev pub bytes_of : List Lookup → ℕ
bytes_of ls = length (lines_in ls)

-- No lookup is refused, and the lines have so many bytes; or a lookup is refused so.
abbrev pub CountedBy : Result ℕ Refusal → List Lookup → Type 0
CountedBy (Ok n) ls = (refused_in ls ≡ none) × (n ≡ bytes_of ls)
CountedBy (Err r) ls = refused_in ls ≡ some (number_of r)
