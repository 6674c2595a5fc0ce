-- An iterator that gives the first of what is left comes nearer to its end.
use Rattle.std.proofs.Common.{List, length, ap, arith, Option, Some, None}
use Rattle.std.specs.Iterator.{YieldsFirstBy, item_count, MakesProgress}

pub progress_first : {S A B : Type 0} (view : A → B) (rest : S → List B) (s : S) (r : Option A) (t : S) → YieldsFirstBy view rest s r t
    → MakesProgress (λ _. Unit {0}) (item_count rest) s r t
progress_first view rest s None t y = record { on = λ _. tt; keeps = tt; rests = λ _. tt }
progress_first view rest s (Some x) t y = record { on = λ _. (tt, tt, omega (arith, ap length y)); keeps = tt; rests = λ _. tt }
