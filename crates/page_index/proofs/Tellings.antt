-- What is told of the same answer, and what stays where no block is listed.
use Prim.Native.Nat.{ℕ}
use mathlib.Core.Path.{◌≡◌, refl, ap, ◌∙◌}
use Rattle.std.specs.Prelude.{Option, Result, Ok, Err}
use Rattle.replies.specs.declared.Refusal.{Refusal}
use Rattle.replies.specs.declared.Reply.{Reply}
use Rattle.replies.specs.declared.Reply.TheVariants.{Done, Value, Listed, Absent}
use Rattle.replies.specs.Replies.{Said, said_by}
use Rattle.page_index.specs.declared.PageIndexReply.{PageIndexReply}
use Rattle.page_index.specs.Told.{Tells, code_of, value_of, next_said}

-- An answer that says the same says so in numbers too.
pub tells_same : {s t : Said} {m n : ℕ} {r : PageIndexReply} → Tells s m r → s ≡ t → m ≡ n → Tells t n r
tells_same k p q = record { code = k.code ∙ ap code_of p; count = k.count ∙ q; value = k.value ∙ ap value_of p }

-- A reply that lists no block, and a refusal, leave the word at `next`.
pub next_kept : (reply : Result Reply Refusal) (before : ℕ) → ((n : ℕ) (f : Option ℕ) → reply ≡ Ok (Listed n f) → ⊥)
    → before ≡ next_said (said_by reply) before
next_kept (Ok Done) before t = refl
next_kept (Ok (Value v)) before t = refl
next_kept (Ok (Listed n f)) before t = absurd (t n f refl)
next_kept (Ok Absent) before t = refl
next_kept (Err r) before t = refl
