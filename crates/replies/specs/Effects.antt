-- What any call does with the array that it is lent, and what is said and left by it.
use Rattle.std.specs.Prelude.{ℕ, ◌≡◌, List, []}
use Rattle.stores.specs.Store.{Store}
use Rattle.stores.specs.Plan.{Plan, Outcome}
use Rattle.replies.specs.Replies.{Said, changed}
use Rattle.replies.specs.Writing.{Writing}

-- A call changes the array by a plan, under an allowance; or it answers, leaves the array as it is, and may write to the list
-- array.
pub data Effect : Type 0 where
  changes : (allowance : ℕ) → Plan Said → Effect
  answers : Writing → Effect

-- What is said by an effect on the array a, and the array left: 7, cut off, where more stores are due than allowed.
abbrev pub carried_out : Effect → List ℕ → Outcome Said
carried_out (changes allowance p) a = changed allowance p a
carried_out (answers w) a = record { reply = w.reply; made = 0; after = a }

-- The words that an effect writes to the front of the list array.
abbrev pub words_by : Effect → List ℕ
words_by (changes allowance p) = []
words_by (answers w) = w.words

-- What an effect says that is not cut off.
abbrev pub reply_by : Effect → Said
reply_by (changes allowance p) = p.reply
reply_by (answers w) = w.reply

-- The stores that are due by an effect.
abbrev pub due_by : Effect → List Store
due_by (changes allowance p) = p.due
due_by (answers w) = []

-- The call has left the array as it was.
pub record Unchanged (a : List ℕ) (o : Outcome Said) : Type 0 where
  pub after : o.after ≡ a
  pub made : o.made ≡ 0
