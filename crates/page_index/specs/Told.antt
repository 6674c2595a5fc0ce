-- An answer as three numbers.
use Rattle.std.specs.Prelude.{ℕ, ◌≡◌, List, [], ◌∷◌, length}
use Rattle.std.proofs.Math.Option.{none, some}
use Rattle.stores.specs.Plan.{Outcome}
use Rattle.stores.specs.Written.{at_front}
use Rattle.replies.specs.declared.Answer.{Answer}
use Rattle.replies.specs.Replies.{Said, done, listed, absent, refused, said_by}
use Rattle.index_rules.specs.declared.Call.{Call}
use Rattle.index_rules.specs.Step.{Performed}
use Rattle.replies.specs.Writing.{Writing}
use Rattle.index_rules.specs.ListBlock.{list_block}
use Rattle.page_index.specs.declared.PageIndexReply.{PageIndexReply}

-- The code of a reply: 0 for done, document 01's number of a refusal, and 255, which is our choice, for absent.
abbrev pub code_of : Said → ℕ
code_of (done values) = 0
code_of (listed n f) = 0
code_of absent = 255
code_of (refused n) = n

-- The value that goes with a reply: what a get found, how many records a list or a list of one block wrote, or how many bytes a print; else
-- 0.
abbrev pub value_of : Said → ℕ
value_of (done []) = 0
value_of (done (v ∷ vs)) = v
value_of (listed n f) = n
value_of absent = 0
value_of (refused n) = 0

-- What C's `*next` holds behind a reply, where it held `before`: the index of the block that follows, or 0 after the last; a reply that
-- lists no block leaves it.
abbrev pub next_said : Said → (before : ℕ) → ℕ
next_said (listed n (some i)) before = i
next_said (listed n none) before = 0
next_said (done values) before = before
next_said absent before = before
next_said (refused n) before = before

-- An answer in three numbers says this, with this number of stores.
pub record Tells (said : Said) (stores : ℕ) (r : PageIndexReply) : Type 0 where
  pub code : r.code ≡ code_of said
  pub count : r.stores ≡ stores
  pub value : r.value ≡ value_of said

-- The answer and the array afterwards are those of the outcome: what is said, the number of stores made, and every word.
pub record Told (o : Outcome Said) (r : PageIndexReply) (after : List ℕ) : Type 0 where
  pub answer : Tells o.reply o.made r
  pub words : after ≡ o.after

-- A list or a print has told what it says, with no store; the array lent to it has its words in front, and behind them what stood there.
pub record ToldWriting (w : Writing) (r : PageIndexReply) (before after : List ℕ) : Type 0 where
  pub told : Tells w.reply 0 r
  pub left : after ≡ at_front w.words before

-- A list of the block at index i of the array a has told so too; and the word at `next`, which held m, holds what the reply says of it.
pub record ToldBlock (a : List ℕ) (i : ℕ) (r : PageIndexReply) (before after : List ℕ) (m n : ℕ) : Type 0 where
  pub writing : ToldWriting (list_block a i (length before)) r before after
  pub next : n ≡ next_said (list_block a i (length before)).reply m

-- A call was performed, and its answer told in the three numbers of r.
pub record ToldPerformed (call : Call) (a l : List ℕ) (r : PageIndexReply) (a' l' : List ℕ) : Type 0 where
  pub answer : Answer
  pub performed : Performed call a l answer a' l'
  pub tells : Tells (said_by answer.reply) answer.stores r
