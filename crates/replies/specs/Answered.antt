-- What the code has answered and left, against what a definition says and leaves.
use Rattle.std.specs.Prelude.{ℕ, min, ◌≡◌, List, leb}
use Rattle.stores.specs.declared.Budget.{Budget}
use Rattle.stores.specs.Lists.{pick}
use Rattle.stores.specs.Plan.{Outcome}
use Rattle.stores.specs.Written.{at_front}
use Rattle.replies.specs.declared.Answer.{Answer}
use Rattle.replies.specs.Replies.{Said, refused, said_by}
use Rattle.replies.specs.Writing.{Writing}

-- The answer and the array afterwards are those of the outcome: what is said, the number of stores made, and every word.
pub record Answered (o : Outcome Said) (answer : Answer) (after : List ℕ) : Type 0 where
  pub reply : said_by answer.reply ≡ o.reply
  pub stores : answer.stores ≡ o.made
  pub words : after ≡ o.after

-- The answer is that of the writing w, with no store; the array lent to it has w's words in front, and behind them what stood there.
pub record Wrote (w : Writing) (answer : Answer) (before after : List ℕ) : Type 0 where
  pub reply : said_by answer.reply ≡ w.reply
  pub stores : answer.stores ≡ 0
  pub left : after ≡ at_front w.words before

-- What an answer says behind the stores of a budget: the reply, or 7 where more were due than allowed.
abbrev pub AfterStores : (r : Answer) (reply : Said) → Budget → Type 0
AfterStores r reply b =
    (said_by r.reply ≡ pick (leb b.due b.allowance) reply (refused 7)) × (r.stores ≡ min b.allowance b.due)

-- What an answer with no store says.
abbrev pub Without : (r : Answer) (reply : Said) → Type 0
Without r reply = (said_by r.reply ≡ reply) × (r.stores ≡ 0)
