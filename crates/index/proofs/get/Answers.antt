-- `index::get` meets its contract.
use mathlib.Core.Path.{ap, ◌∙◌}
use Rattle.replies.specs.Replies.{said_by}
use Rattle.index.proofs.Calls.{get_answer}
use Rattle.index.proofs.get.Goals as goal

pub returns : goal.returns
returns c = get_answer _ _ _ (ap said_by c.without_store.ensures.0 ∙ c.get_reply.ensures, c.without_store.ensures.1)
