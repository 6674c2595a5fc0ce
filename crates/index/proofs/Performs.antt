-- From a call's own promise to that of the performed call.
use mathlib.Core.Path.{◌≡◌, refl, sym}
use mathlib.Core.Bool.{false}
use Prim.Native.Nat.{ℕ}
use mathlib.Core.List.{List, []}
use lib.ListN.{length}
use Rattle.replies.specs.declared.Answer.{Answer}
use Rattle.replies.specs.Writing.{Writing}
use Rattle.replies.specs.Answered.{Answered, Wrote}
use Rattle.index_rules.specs.declared.Call.{Call}
use Rattle.index_rules.specs.declared.Call.TheVariants.{List as ListCall, ListBlock}
use Rattle.index_rules.specs.Listing.{list}
use Rattle.index_rules.specs.ListBlock.{list_block}
use Rattle.index_rules.specs.Step.{answers, effect, lists, step, outcome_of, Performed}
use Rattle.index_laws.proofs.Listing.{step_apart, list_array_kept}

module _ (a l : List ℕ) (r : Answer) where
  -- What `format`, `get`, `put`, `remove`, `merge` and `mend` promise is a performed call, with any list array: they do not look at it, and
  -- leave it.
  pub answered_performed : (b : List ℕ) (call : Call) → lists call ≡ false → Answered (outcome_of a call) r b → Performed call a l r b l
  answered_performed b call q k =
      record {
        answered = rw (step_apart a l [] call q) k;
        list = sym (list_array_kept a l call q);
      }

  -- What `list` and `list_block` promise is one too.
  pub wrote_performed : (l' : List ℕ) (w : Writing) (call : Call) → effect a (length l) call ≡ answers w → Wrote w r l l' → Performed call a l r a l'
  unfolding step
  wrote_performed l' w call e k =
      record {
        answered = rw e (record { reply = k.reply; stores = k.stores; words = refl });
        list = rw e k.left;
      }

  pub list_performed : (l' : List ℕ) → Wrote (list a (length l)) r l l' → Performed ListCall a l r a l'
  unfolding effect
  list_performed l' k = wrote_performed l' (list a (length l)) ListCall refl k

  pub list_block_performed : (i : ℕ) (l' : List ℕ) → Wrote (list_block a i (length l)) r l l' → Performed (ListBlock i) a l r a l'
  unfolding effect
  list_block_performed i l' k = wrote_performed l' (list_block a i (length l)) (ListBlock i) refl k

  -- The call that was given is the one that was answered.
  pub performed : (b : List ℕ) {given call : Call} → given ≡ call → lists call ≡ false → Answered (outcome_of a call) r b
      → Performed given a l r b l
  performed b {given} {call} e q k = rw e (answered_performed b call q k)
