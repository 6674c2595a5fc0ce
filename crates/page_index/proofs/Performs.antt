-- The promise of each C function of the index, and of each of the board's on one job, is a performed call. So a chain of C calls is
-- a chain of performed calls, and the history rule over those (`performed_history_rule` of `index_history`) speaks of it.
use Prim.Native.Nat.{ℕ}
use mathlib.Core.Path.{◌≡◌, refl, sym, ap, ◌∙◌}
use mathlib.Core.Bool.{Bool, false}
use mathlib.Core.List.{List, []}
use mathlib.Core.Option.{none}
use lib.ListN.{length}
use Rattle.stores.specs.Plan.{Outcome}
use Rattle.replies.specs.declared.Answer.{Answer}
use Rattle.index_rules.specs.declared.Call.{Call}
use Rattle.index_rules.specs.declared.Call.TheVariants.{List as ListCall, ListBlock}
use Rattle.replies.specs.Replies.{Said, said_by}
use Rattle.index_rules.specs.Listing.{list}
use Rattle.index_rules.specs.Step.{effect, lists, step, outcome_of}
use Rattle.replies.proofs.Sayable.{Sayable}
use Rattle.index_laws.proofs.Said.{step_sayable}
use Rattle.index.proofs.Performs.{answered_performed, list_performed, list_block_performed}
use Rattle.board.specs.Jobs.{job_key, job_tests, behind, on_job}
use Rattle.page_index.specs.declared.PageIndexReply.{PageIndexReply}
use Rattle.page_index.specs.Told.{Tells, Told, ToldWriting, ToldBlock, next_said, ToldPerformed}
use Rattle.page_index.proofs.Tellings.{tells_same}

-- The answer that an outcome's reply and count make, where a reply of the code says so.
abbrev answer_of : {may : ℕ → Bool} (o : Outcome Said) → Sayable may o.reply → Answer
answer_of o s = record { reply = s.reply; stores = o.made }

answer_tells : {may : ℕ → Bool} (o : Outcome Said) (s : Sayable may o.reply) (r : PageIndexReply) → Tells o.reply o.made r
    → Tells (said_by s.reply) o.made r
answer_tells o s r k = tells_same k (sym s.says) refl

module _ (a l : List ℕ) (r : PageIndexReply) where
  -- What `page_index_format`, `_get`, `_put`, `_remove`, `_merge` and `_mend` promise, with any list array.
  pub told_performed : (call : Call) → lists call ≡ false → (a' : List ℕ) → Told (outcome_of a call) r a' → ToldPerformed call a l r a' l
  told_performed call q a' t =
      let s = step_sayable a [] call in
      let answer = answer_of (outcome_of a call) s in
      record {
        answer = answer;
        performed = answered_performed a l answer a' call q (record { reply = s.says; stores = refl; words = t.words });
        tells = answer_tells (outcome_of a call) s r t.answer;
      }

  -- What `page_index_list` promises.
  pub list_told_performed : (l' : List ℕ) → ToldWriting (list a (length l)) r l l' → ToldPerformed ListCall a l r a l'
  unfolding step effect
  list_told_performed l' t =
      let s = step_sayable a l ListCall in
      let answer = answer_of (step a l ListCall).outcome s in
      record {
        answer = answer;
        performed = list_performed a l answer l' (record { reply = s.says; stores = refl; left = t.left });
        tells = answer_tells (step a l ListCall).outcome s r t.told;
      }

  -- What `page_index_list_block` promises; and the word at `next`, which held m, holds what the answer says of it.
  pub list_block_told_performed : (i : ℕ) (l' : List ℕ) (m n : ℕ) → ToldBlock a i r l l' m n
      → (t : ToldPerformed (ListBlock i) a l r a l') × (n ≡ next_said (said_by t.answer.reply) m)
  unfolding step effect
  list_block_told_performed i l' m n t =
      let s = step_sayable a l (ListBlock i) in
      let answer = answer_of (step a l (ListBlock i)).outcome s in (
        record {
          answer = answer;
          performed = list_block_performed a l answer i l' (record { reply = s.says; stores = refl; left = t.writing.left });
          tells = answer_tells (step a l (ListBlock i)).outcome s r t.writing.told;
        },
        t.next ∙ ap (λ (said : Said). next_said said m) (sym s.says),
      )

  -- What `month_board_set`, `_read` and `_remove` promise, where the board's tests pass: the index's call on the job's key.
  pub job_told_performed : (year month number : ℕ) (call : ℕ → Call) → lists (call (job_key year month number)) ≡ false
      → job_tests year month number ≡ none → (a' : List ℕ) → Told (on_job a year month number call) r a'
      → ToldPerformed (call (job_key year month number)) a l r a' l
  unfolding on_job behind
  job_told_performed year month number call q passed a' t =
      told_performed (call (job_key year month number)) q a' (rw passed at t)
