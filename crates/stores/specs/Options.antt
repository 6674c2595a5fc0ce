-- A value that may be there, as code answers it and as the definitions take it.
use Rattle.std.specs.Prelude.{Some, None}
use Rattle.std.proofs.Math.Option.{Option, none, some}

-- The value that the code's option holds, or none.
abbrev pub option_of : {A : Type 0} → Rattle.std.specs.Prelude.Option A → Option A
option_of (Some x) = some x
option_of None = none
