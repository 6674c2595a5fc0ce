-- A plan, and what is left of it under an allowance.
use Rattle.std.specs.Prelude.{ℕ, min, List, [], ◌++◌, leb, length}
use Rattle.stores.specs.Store.{Store, exec}
use Rattle.stores.specs.Lists.{pick}

infixr 25 ◌then◌
-- What a call that changes the array is to do: its due stores, in order, and its reply once all of them are made.
pub record Plan (R : Type 0) : Type 0 where
  pub due : List Store
  pub reply : R

-- The plan with no store.
abbrev pub reply_only : {R : Type 0} → R → Plan R
reply_only r = record { due = []; reply = r }

-- The stores ss first, and then a further plan.
abbrev pub ◌then◌ : {R : Type 0} → List Store → Plan R → Plan R
ss then p = record { due = ss ++ p.due; reply = p.reply }

-- What a call has said and left: its reply, the number of stores made, and the array.
pub record Outcome (R : Type 0) : Type 0 where
  pub reply : R
  pub made : ℕ
  pub after : List ℕ

-- The plan p carried out on the array a with at most n stores. Where at most n are due, all are made and the plan's reply
-- is given; else exactly the first n are made, and the reply is `cut_off`.
unfoldable pub cut : {R : Type 0} → R → ℕ → Plan R → List ℕ → Outcome R
cut cut_off n p a =
    record {
      reply = pick (leb (length p.due) n) p.reply cut_off;
      made = min n (length p.due);
      after = exec p.due n a;
    }
