-- A line run, lines one behind the other, and the whole run.
use Rattle.std.proofs.Common.{◌≡◌, ℕ, ◌*◌, ◌<◌, ◌≤◌, List, [], ◌∷◌, ◌++◌, length, replicate, refl, ◌∙◌, arith, append_assoc, append-nil, length-append}
use mathlib.Core.Option.{none, some}
use borrow.Author.Tests.{le-leb, lt-leb}
use Rattle.stores.specs.Written.{Written}
use Rattle.stores.proofs.Written.{written_within}
use Rattle.replies.specs.declared.Answer.{Answer}
use Rattle.index_rules.specs.declared.Call.{Call}
use Rattle.replies.specs.Replies.{said_by}
use Rattle.index_rules.specs.Step.{step, Performed}
use Rattle.text.specs.declared.output.Output.{Output}
use Rattle.text.specs.Output.{HasSpace, HasRoom, Appended}
use Rattle.text.proofs.Appended.{appended_none, appended_append, moved_on, length_kept}
use Rattle.desk_text.specs.Line.{spoken, call_of}
use Rattle.desk_text.specs.Output.{answer_line, other_line, too_long_line, line_room}
use Rattle.desk_text.proofs.Texts.{length_answer}
use Rattle.desk_run.specs.Run.{most_bytes, list_words, index_words, ran_call, ran_lines, lines_output, ran, desk_output}
use Rattle.desk_run.specs.Progress.{LineRan, OutputWritten}

-- ---- One line

module _ (line list a : List ℕ) (before after : Output) where
  pub line_other : call_of line ≡ none → Appended other_line before after → LineRan line list a before a after
  unfolding ran_call
  line_other e w = record { text = rw e w; words = rw e; short = omega (arith, w.text.behind) }

  pub line_called : (letter : ℕ) (call : Call) (answer : Answer) (a' list' : List ℕ) → call_of line ≡ some (spoken letter call)
      → Performed call a list answer a' list'
      → Appended (answer_line letter (said_by answer.reply) answer.stores) before after
      → LineRan line list a before a' after
  unfolding ran_call step
  line_called letter call answer a' list' e p w =
      record {
        text = rw e (rw (p.answered.reply, p.answered.stores) at w);
        words = rw e p.answered.words;
        short = omega (arith, w.text.behind, length_answer letter answer.reply answer.stores);
      }

-- ---- Lines one behind the other

-- Of these lines some have been run on the array a, and those in `left` have not: what all of them give is the part that has been
-- written, followed by what the lines left give from the array now. Each of these has room.
pub record LinesRan (room : ℕ) (a : List ℕ) (lines : List (List ℕ)) (before : Output) (left : List (List ℕ)) (a' : List ℕ) (now : Output) : Type 0 where
  pub part : List ℕ
  pub fits : HasRoom part before
  pub written : Appended part before now
  pub text : (ran_lines room a lines).text ≡ part ++ (ran_lines room a' left).text
  pub room_left : HasSpace (line_room * length left) now

pub lines_started : (room : ℕ) (a : List ℕ) (lines : List (List ℕ)) (o : Output) → HasSpace (line_room * length lines) o
    → LinesRan room a lines o lines a o
lines_started room a lines o h =
    record { part = []; fits = omega arith; written = appended_none o; text = refl; room_left = h }

module _ (room : ℕ) (a : List ℕ) (lines : List (List ℕ)) (o : Output) (line : List ℕ) (left : List (List ℕ)) (a₁ : List ℕ) (o₁ : Output)
    (r : LinesRan room a lines o (line ∷ left) a₁ o₁)
  where
    pub line_fits : HasSpace line_room o₁
    line_fits = omega (arith, r.room_left)

    pub lines_more : (list a₂ : List ℕ) (o₂ : Output) → length list ≡ room → LineRan line list a₁ o₁ a₂ o₂ → LinesRan room a lines o left a₂ o₂
    unfolding ran_lines
    lines_more list a₂ o₂ same s =
        let text : List ℕ = (ran_call (length list) a₁ (call_of line)).text in
        let long : HasRoom text o₁ = omega (arith, line_fits, s.short, s.text.text.behind) in
        let moved = moved_on r.part o o₁ r.fits r.written in
        let kept = length_kept r.part o o₁ r.fits r.written in
        let kept_more = length_kept text o₁ o₂ long s.text in
        let fits : HasRoom (r.part ++ text) o = omega (arith, length-append r.part text) in
        record {
          part = r.part ++ text;
          fits = fits;
          written = appended_append r.part text o o₁ fits r.written o₂ s.text;
          text = r.text ∙ rw (s.words, same, append_assoc) refl;
          room_left = omega (arith, r.room_left, s.short);
        }

-- All lines have been run.
pub lines_ended : (room : ℕ) (a : List ℕ) (lines : List (List ℕ)) (o : Output) (a' : List ℕ) (now : Output) → LinesRan room a lines o [] a' now
    → Appended (ran_lines room a lines).text o now
unfolding ran_lines
lines_ended room a lines o a' now r = rw (r.text, append-nil r.part) r.written

-- ---- The whole run

module _ (script out : List ℕ) (written : ℕ) (out' : List ℕ) where
  output_fits : Written (desk_output script) 0 out written out' → OutputWritten script out written out'
  output_fits w = record { output = w; fits = written_within (desk_output script) 0 out written out' (omega arith) w }

  pub output_too_long : most_bytes < length script → Written too_long_line 0 out written out' → OutputWritten script out written out'
  unfolding ran
  output_too_long many w = output_fits (rw (lt-leb (length script) most_bytes many, desk_output) w)

  pub output_lines : length script ≤ most_bytes → Written (lines_output list_words (replicate index_words 0) script) 0 out written out'
      → OutputWritten script out written out'
  unfolding ran
  output_lines few w = output_fits (rw (le-leb (length script) most_bytes few, desk_output) w)
