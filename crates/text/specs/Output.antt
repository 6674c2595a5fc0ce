-- What an output has room for, and what writing to it does.
use Rattle.std.specs.Prelude.{ℕ, ◌+◌, ◌≤◌, ◌≡◌, List, length}
use Rattle.stores.specs.Written.{Written}
use Rattle.text.specs.declared.output.Output.{Output}

-- So many bytes are left behind what has been written.
abbrev pub HasSpace : (bytes : ℕ) → Output → Type 0
HasSpace bytes o = o.written + bytes ≤ length o.bytes.now

-- The words fit behind what has been written.
abbrev pub HasRoom : (words : List ℕ) → Output → Type 0
HasRoom words o = HasSpace (length words) o

-- The words have been written behind what had been, all else in the buffer is as it was, and it is the same buffer.
pub record Appended (words : List ℕ) (before after : Output) : Type 0 where
  pub text : Written words before.written before.bytes.now after.written after.bytes.now
  pub same_buffer : after.bytes.ghost_name ≡ before.bytes.ghost_name
