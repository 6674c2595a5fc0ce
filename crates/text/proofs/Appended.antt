-- Texts written to an output one behind the other.
use Rattle.std.proofs.Common.{◌≡◌, ℕ, ◌+◌, ◌≤◌, List, [], ◌++◌, length, refl, ap, ◌∙◌, arith, length-append, length-drop}
use lib.Seq.{length-take-le}
use Rattle.stores.proofs.Written.{written_none, written_append}
use Rattle.stores.specs.Written.{Written}
use Rattle.text.specs.declared.output.Output.{Output}
use Rattle.text.specs.Output.{HasRoom, Appended}

-- Where a text fits, what it is written to keeps its length.
written_length : (ws : List ℕ) (at : ℕ) (l : List ℕ) (next : ℕ) (l' : List ℕ) → at + length ws ≤ length l → Written ws at l next l'
    → length l' ≡ length l
written_length ws at l next l' fits w =
    let within : at ≤ length l = omega arith in
    ap length w.list ∙ simp (length-append, length-take-le at l within, length-drop) (omega arith)

module _ (vs : List ℕ) (o p : Output) (fits : HasRoom vs o) (first : Appended vs o p) where
  -- The position has moved on, and the buffer has kept its length.
  pub moved_on : p.written ≡ o.written + length vs
  moved_on = first.text.behind

  pub length_kept : length p.bytes.now ≡ length o.bytes.now
  length_kept = written_length vs o.written o.bytes.now p.written p.bytes.now fits first.text

-- What has room for two texts has room for the first.
pub fits_first : (vs ws : List ℕ) (o : Output) → HasRoom (vs ++ ws) o → HasRoom vs o
fits_first vs ws o fits = let both = length-append vs ws in omega arith

module _ (vs ws : List ℕ) (o p : Output) (fits : HasRoom (vs ++ ws) o) (first : Appended vs o p) where
  -- There is room for the text behind the first one.
  pub room_behind : HasRoom ws p
  room_behind =
      let both = length-append vs ws in
      let moved = moved_on vs o p (fits_first vs ws o fits) first in
      let kept = length_kept vs o p (fits_first vs ws o fits) first in
      omega arith

  pub appended_append : (q : Output) → Appended ws p q → Appended (vs ++ ws) o q
  appended_append q second =
      record {
        text = written_append vs ws _ _ _ _ _ _ (omega (arith, fits_first vs ws o fits)) first.text second.text;
        same_buffer = second.same_buffer ∙ first.same_buffer;
      }

-- Nothing written.
pub appended_none : (o : Output) → Appended [] o o
appended_none o = record { text = written_none o.written o.bytes.now; same_buffer = refl }
