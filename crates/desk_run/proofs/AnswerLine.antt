-- The line of an answer, written part by part: what has room behind each part.
use Rattle.std.proofs.Common.{◌≡◌, ℕ, [], ◌∷◌, ◌++◌, arith, refl, append-nil}
use Rattle.std.specs.Prelude.{Result, Ok}
use Rattle.replies.specs.declared.Refusal.{Refusal}
use Rattle.replies.specs.declared.Reply.{Reply}
use Rattle.replies.specs.declared.Reply.TheVariants.{Done, Value, Listed, Absent}
use Rattle.replies.specs.Replies.{said_by}
use Rattle.text.specs.declared.output.Output.{Output}
use Rattle.text.specs.Parts.{tab, line_feed}
use Rattle.text.specs.Number.{decimal}
use Rattle.text.specs.Output.{HasSpace, HasRoom, Appended}
use Rattle.text.proofs.Appended.{fits_first, room_behind, appended_append}
use Rattle.desk_text.specs.Output.{reply_text, values_text, said_text, head_text, answer_line, line_room}
use Rattle.desk_text.proofs.Texts.{length_answer}

-- The letter and its tab.
pub head_written : (letter : ℕ) (o o₁ o₂ : Output) → HasSpace line_room o → Appended (letter ∷ []) o o₁ → Appended (tab ∷ []) o₁ o₂
    → Appended (letter ∷ tab ∷ []) o o₂
head_written letter o o₁ o₂ space first second = appended_append (letter ∷ []) (tab ∷ []) o o₁ (omega arith) first o₂ second

module _ (letter : ℕ) (r : Result Reply Refusal) (stores : ℕ) (o o₂ : Output) (space : HasSpace line_room o)
    (head : Appended (letter ∷ tab ∷ []) o o₂)
  where
    whole : HasRoom (answer_line letter (said_by r) stores) o
    whole = let short = length_answer letter r stores in omega arith

    with_value : HasRoom (head_text letter (said_by r) ++ (tab ∷ decimal stores) ++ said_text (said_by r)) o
    unfolding answer_line
    with_value = fits_first (head_text letter (said_by r) ++ (tab ∷ decimal stores) ++ said_text (said_by r)) (line_feed ∷ []) o whole

    with_stores : HasRoom (head_text letter (said_by r) ++ (tab ∷ decimal stores)) o
    with_stores = fits_first (head_text letter (said_by r) ++ (tab ∷ decimal stores)) (said_text (said_by r)) o with_value

    with_reply : HasRoom (head_text letter (said_by r)) o
    with_reply = fits_first (head_text letter (said_by r)) (tab ∷ decimal stores) o with_stores

    pub room_reply : HasRoom (reply_text (said_by r)) o₂
    room_reply = room_behind (letter ∷ tab ∷ []) (reply_text (said_by r)) o o₂ with_reply head

    module _ (o₃ : Output) (reply : Appended (reply_text (said_by r)) o₂ o₃) where
      replied : Appended (head_text letter (said_by r)) o o₃
      replied = appended_append (letter ∷ tab ∷ []) (reply_text (said_by r)) o o₂ with_reply head o₃ reply

      pub room_stores : HasRoom (tab ∷ decimal stores) o₃
      room_stores = room_behind (head_text letter (said_by r)) (tab ∷ decimal stores) o o₃ with_stores replied

      module _ (o₄ : Output) (counted : Appended (tab ∷ decimal stores) o₃ o₄) where
        stored : Appended (head_text letter (said_by r) ++ (tab ∷ decimal stores)) o o₄
        stored = appended_append (head_text letter (said_by r)) (tab ∷ decimal stores) o o₃ with_stores replied o₄ counted

        pub room_value : HasRoom (said_text (said_by r)) o₄
        room_value = room_behind (head_text letter (said_by r) ++ (tab ∷ decimal stores)) (said_text (said_by r)) o o₄ with_value stored

        module _ (o₅ : Output) (value : Appended (said_text (said_by r)) o₄ o₅) where
          valued : Appended (head_text letter (said_by r) ++ (tab ∷ decimal stores) ++ said_text (said_by r)) o o₅
          valued = appended_append (head_text letter (said_by r) ++ (tab ∷ decimal stores)) (said_text (said_by r)) o o₄ with_value stored o₅ value

          pub room_end : HasRoom (line_feed ∷ []) o₅
          unfolding answer_line
          room_end =
              room_behind (head_text letter (said_by r) ++ (tab ∷ decimal stores) ++ said_text (said_by r)) (line_feed ∷ []) o o₅ whole valued

          pub answer_written : (o₆ : Output) → Appended (line_feed ∷ []) o₅ o₆ → Appended (answer_line letter (said_by r) stores) o o₆
          unfolding answer_line
          answer_written o₆ last =
              appended_append (head_text letter (said_by r) ++ (tab ∷ decimal stores) ++ said_text (said_by r)) (line_feed ∷ []) o o₅ whole valued o₆ last

-- The field of a reply's value, and no field of a reply without one.
pub value_field : (v : ℕ) → said_text (said_by (Ok (Value v))) ≡ tab ∷ decimal v
unfolding values_text
value_field v = append-nil (tab ∷ decimal v)

pub no_value : (r : Reply) → ((v : ℕ) → r ≡ Value v → ⊥) → said_text (said_by (Ok r)) ≡ []
unfolding values_text
no_value Done n = refl
no_value (Value v) n = absurd (n v refl)
no_value (Listed m f) n = refl
no_value Absent n = refl
