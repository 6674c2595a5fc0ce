-- The history rule, and lookups before mending, over performed calls: what programs run.
use mathlib.Core.Path.{◌≡◌, sym, ◌∙◌}
use mathlib.Core.Bool.{true}
use Rattle.replies.specs.Replies.{said_by}
use Rattle.index_rules.specs.Step.{effect, step, Performed}
use Rattle.runs.specs.Run.{Point, may_follow, next, CallAgrees}
use Rattle.runs.proofs.Runs.{Invariant, runs_agree}
use Rattle.runs.proofs.BeforeMending.{lookups_before_mending}
use Rattle.index_history.specs.History.{view_of, Link, performed, FormatPerformed, PerformedHistoryRule, PerformedBeforeMending}
use Rattle.index_history.proofs.Plans.{Good, CallKept}
use Rattle.index_history.proofs.Calls.{get_is_map}
use Rattle.index_history.proofs.Theorem.{good_start, call_kept}

-- What the definitions say of a link: its reply and its array are those of the step.
link_kept : (p : Point) → Good p → (l : Link) → Performed l.call p.array l.list l.answer l.after l.list_after
    → may_follow p.needs_recovery (view_of l.call) (said_by l.answer.reply) ≡ true
    → CallKept p (view_of l.call) (said_by l.answer.reply) l.after
link_kept p good l done-so may =
    let d = done-so.answered in
    rw (d.reply, d.words) (call_kept p good l.list l.call (rw d.reply at may))

agreeing : Invariant performed FormatPerformed Good (CallAgrees performed)
unfolding effect step next
agreeing =
    record {
      at_start = λ a f.
          good_start a
          (record {
            before = f.before;
            D = f.D;
            S = f.S;
            allowance = f.allowance;
            reply = sym f.performed.answered.reply ∙ f.says_done;
            left = f.performed.answered.words;
          });
      kept = λ p good l done-so may. let k = link_kept p good l done-so may in (k.agrees, k.good);
      says = λ p good key c said g. g.said_so ∙ g.performed.answered.reply ∙ get_is_map p good key c;
    }

pub performed_history_rule : PerformedHistoryRule
performed_history_rule = runs_agree performed FormatPerformed Good agreeing

pub performed_before_mending : PerformedBeforeMending
performed_before_mending = lookups_before_mending performed FormatPerformed Good (CallAgrees performed) agreeing
