-- From the code's answer to an outcome: with stores under an allowance, and with none.
use mathlib.Core.Path.{◌≡◌, ◌∙◌}
use mathlib.Core.List.{List}
use mathlib.Core.Option.{Option, some}
use Prim.Native.Nat.{ℕ}
use native.Mathlib.Nat.{sub-zero, zero-add, min-zero}
use native.Mathlib.Omega.{arith}
use borrow.Author.Tests.{le-leb}
use lib.ListN.{length}
use Rattle.stores.specs.Store.{exec, apply}
use Rattle.stores.specs.Plan.{Plan, reply_only, cut}
use Rattle.stores.specs.declared.Budget.{Budget}
use Rattle.stores.specs.Executed.{Executed, begun}
use Rattle.stores.proofs.Stores.{executed_none}
use Rattle.replies.specs.declared.Refusal.{Refusal}
use Rattle.replies.specs.declared.Answer.{Answer}
use Rattle.replies.specs.Replies.{Said, refuse, said_by, tested, changed}
use Rattle.replies.specs.Answered.{Answered, AfterStores}

module _ (allowance : ℕ) (p : Plan Said) (before : List ℕ) (r : Answer) where
  -- The plan's stores were made under the allowance, and the answer tells their number and the plan's reply.
  pub answered_stores : (b : Budget) (after : List ℕ) → Executed p.due (begun allowance) before b after → AfterStores r p.reply b
      → Answered (changed allowance p before) r after
  unfolding changed cut
  answered_stores b after e a =
      let n : b.due ≡ length p.due = e.count ∙ zero-add (length p.due) in
      record {
        reply = rw (n, e.allowance) at a.0;
        stores = rw (n, e.allowance) at a.1;
        words = e.words ∙ rw (sub-zero allowance);
      }

-- An answer with no store.
pub answered_only : (allowance : ℕ) (s : Said) (before : List ℕ) (r : Answer) → said_by r.reply ≡ s → r.stores ≡ 0
    → Answered (changed allowance (reply_only s) before) r before
unfolding changed cut exec apply
answered_only allowance s before r e k =
    record {
      reply = rw (le-leb 0 allowance (omega arith)) e;
      stores = rw (min-zero allowance) k;
      words = (executed_none (begun allowance) before).words ∙ rw (sub-zero allowance);
    }

-- A refusal by the tests in front of a plan.
pub answered_refused : (allowance : ℕ) (t : Option Refusal) (q : Refusal) (p : Plan Said) (before : List ℕ) (r : Answer)
    → t ≡ some q → said_by r.reply ≡ refuse q → r.stores ≡ 0 → Answered (changed allowance (tested t p) before) r before
unfolding tested
answered_refused allowance t q p before r u e k = rw u (answered_only allowance (refuse q) before r e k)
