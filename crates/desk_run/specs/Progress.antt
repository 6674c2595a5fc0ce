-- What the steps of a run promise.
use Rattle.std.specs.Prelude.{ℕ, ◌+◌, ◌≤◌, ◌≡◌, List, length}
use Rattle.stores.specs.Written.{Written}
use Rattle.text.specs.declared.output.Output.{Output}
use Rattle.text.specs.Output.{Appended}
use Rattle.desk_text.specs.Line.{call_of}
use Rattle.desk_text.specs.Output.{line_room}
use Rattle.desk_run.specs.Run.{ran_call, desk_output}

-- One line has been run on the index array a, with the list array: its text stands in the output behind what stood there.
pub record LineRan (line list a : List ℕ) (before : Output) (a' : List ℕ) (after : Output) : Type 0 where
  pub text : Appended (ran_call (length list) a (call_of line)).text before after
  pub words : a' ≡ (ran_call (length list) a (call_of line)).words
  pub short : after.written ≤ before.written + line_room

-- The output of the desk program for the script stands in front: its bytes, and behind them what stood there before.
pub record OutputWritten (script out : List ℕ) (written : ℕ) (out' : List ℕ) : Type 0 where
  pub output : Written (desk_output script) 0 out written out'
  pub fits : written ≤ length out'
