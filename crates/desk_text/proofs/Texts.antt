-- The fields of an answer's line: what they are for each reply, and how long they are.
use Prim.Native.Nat.{ℕ, ◌≤◌}
use mathlib.Core.Path.{◌≡◌, refl}
use mathlib.Core.List.{[], ◌∷◌, ◌++◌, append-nil}
use native.Mathlib.Omega.{arith}
use lib.ListN.{length, length-append}
use Rattle.std.specs.Prelude.{Result, Ok, Err}
use Rattle.replies.specs.declared.Refusal.{Refusal}
use Rattle.replies.specs.declared.Reply.{Reply}
use Rattle.replies.specs.declared.Reply.TheVariants.{Done, Value, Listed, Absent}
use Rattle.replies.specs.Replies.{number_of, said_by}
use Rattle.replies.proofs.Numbers.{number_below_100}
use Rattle.text.specs.Parts.{tab, line_feed}
use Rattle.text.specs.Number.{decimal}
use Rattle.desk_text.specs.Output.{reply_text, values_text, end_text, answer_line, line_room}
use Rattle.text.proofs.Digits.{length_decimal, length_below_100}

-- The number of a refusal has at most two digits.
pub length_refusal : (r : Refusal) → length (decimal (number_of r)) ≤ 2
length_refusal r = length_below_100 (number_of r) (number_below_100 r)

pub length_reply : (r : Result Reply Refusal) → length (reply_text (said_by r)) ≤ 2
length_reply (Ok Done) = omega arith
length_reply (Ok (Value v)) = omega arith
length_reply (Ok (Listed n f)) = omega arith
length_reply (Ok Absent) = omega arith
length_reply (Err r) = length_refusal r

-- A reply that is neither absent nor a refusal is written as 0.
pub reply_done : (r : Result Reply Refusal) → (r ≡ Ok Absent → ⊥) → ((f : Refusal) → r ≡ Err f → ⊥) → reply_text (said_by r) ≡ 48 ∷ []
reply_done (Ok Done) t u = refl
reply_done (Ok (Value v)) t u = refl
reply_done (Ok (Listed n f)) t u = refl
reply_done (Ok Absent) t u = absurd (t refl)
reply_done (Err r) t u = absurd (u r refl)

-- A line ends with its value, where the reply has one, and else with the line feed alone.
pub end_value : (v : ℕ) → end_text (said_by (Ok (Value v))) ≡ (tab ∷ decimal v) ++ (line_feed ∷ [])
unfolding values_text
end_value v = rw (append-nil (decimal v))

pub end_plain : (r : Result Reply Refusal) → ((v : ℕ) → r ≡ Ok (Value v) → ⊥) → end_text (said_by r) ≡ line_feed ∷ []
unfolding values_text
end_plain (Ok Done) t = refl
end_plain (Ok (Value v)) t = absurd (t v refl)
end_plain (Ok (Listed n f)) t = refl
end_plain (Ok Absent) t = refl
end_plain (Err r) t = refl

-- The line of an answer has room in `line_room` bytes.
pub length_answer : (letter : ℕ) (r : Result Reply Refusal) (stores : ℕ) → length (answer_line letter (said_by r) stores) ≤ line_room
unfolding answer_line values_text
length_answer letter (Ok Done) stores = simp length-append (omega (arith, length_decimal stores))
length_answer letter (Ok (Value v)) stores = simp length-append (omega (arith, length_decimal stores, length_decimal v))
length_answer letter (Ok (Listed n f)) stores = simp length-append (omega (arith, length_decimal stores))
length_answer letter (Ok Absent) stores = simp length-append (omega (arith, length_decimal stores))
length_answer letter (Err r) stores = simp length-append (omega (arith, length_decimal stores, length_refusal r))
