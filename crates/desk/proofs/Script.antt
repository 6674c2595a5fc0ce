-- What the desk writes for the bytes that it read, and what it is to write for the whole input.
use Rattle.std.specs.Prelude.{◌≡◌, ℕ, ◌+◌, ◌<◌, ◌≤◌, List, [], ◌++◌, Option, None, Some, IfSome, Result, Ok, Err, OnOk, length, take, drop}
use Rattle.std.proofs.Common.{refl, sym, ap, subst, ◌∙◌, arith, append-nil, length-append, length-take-le}
use mathlib.Core.Logic.{⊎_elim}
use borrow.Author.Tests.{lt-leb}
use Rattle.std.proofs.lemmas.Bool.{cases_lt}
use Rattle.std.proofs.Math.Seq.{take-append_seam}
use Rattle.std.specs.Io.KnownBytes.{Consumes, IsAtEnd, Appends}
use Rattle.desk_text.specs.Output.{too_long_line}
use Rattle.desk_run.specs.Run.{most_bytes, ran, desk_output}
use Rattle.desk_run.specs.Progress.{OutputWritten}
use Rattle.stores.proofs.Written.{written_at_front}

-- Of a script that is too long, one line is written, whatever its bytes are.
output_too_long : (script : List ℕ) → most_bytes < length script → desk_output script ≡ too_long_line
unfolding ran
output_too_long script many = rw (lt-leb (length script) most_bytes many, desk_output) refl

-- The first bytes, one more than a script may have, decide what is written; fewer are read only where no more are left.
output_read : (read left : List ℕ) → (length read < most_bytes + 1 → left ≡ []) → desk_output read ≡ desk_output (read ++ left)
output_read read left ended =
    ⊎_elim
    (λ (few : length read < most_bytes + 1). rw (ended few, append-nil read) refl)
    (λ (many : most_bytes + 1 ≤ length read).
    output_too_long read (omega arith) ∙ sym (output_too_long (read ++ left) (rw (length-append read left) (omega arith))))
    (cases_lt (length read) (most_bytes + 1))

-- The output of what was read is that of all that the input held.
output_known : (a b u v : Option (List ℕ)) (text written : List ℕ) (n : ℕ) → n ≤ length text → Consumes a b (take n text)
    → (n < most_bytes + 1 → IsAtEnd b) → written ≡ desk_output (take n text) → Appends u v written
    → IfSome a (λ script. Appends u v (desk_output script))
output_known None b u v text written n within read ended is put = tt
output_known (Some x) None u v text written n within read ended is put = absurd read
output_known (Some x) (Some y) u v text written n within read ended is put =
    let size : length (take n text) ≡ n = length-take-le n text within in
    let same : desk_output (take n text) ≡ desk_output x =
    output_read (take n text) y (λ (few : length (take n text) < most_bytes + 1). ended (subst (λ (k : ℕ). k < most_bytes + 1) size few)) ∙ ap desk_output (sym read) in
    subst (Appends u v) (is ∙ same) put

-- The bytes of a run's output, of which the array has its front.
front_written : (script before : List ℕ) (n : ℕ) (after : List ℕ) → OutputWritten script before n after → take n after ≡ desk_output script
front_written script before n after w =
    let size : n ≡ length (desk_output script) = omega (arith, w.output.behind) in
    ap (λ (k : ℕ). take k after) size ∙ ap (take (length (desk_output script))) (written_at_front (desk_output script) before n after w.output)
    ∙ take-append_seam (desk_output script) (drop (length (desk_output script)) before)

-- A whole run: bytes read, the script run, its output written.
pub script_ran : {T E : Type 0} (r : Result T E) (a b u v : Option (List ℕ)) (text : List ℕ) (n : ℕ) (before : List ℕ) (written : ℕ) (after : List ℕ)
    → n ≤ length text → Consumes a b (take n text) → (n < most_bytes + 1 → IsAtEnd b) → OutputWritten (take n text) before written after
    → OnOk r (Appends u v (take written after)) → OnOk r (IfSome a (λ script. Appends u v (desk_output script)))
script_ran (Ok t) a b u v text n before written after within read ended w put =
    output_known a b u v text (take written after) n within read ended (front_written (take n text) before written after w) put
script_ran (Err e) a b u v text n before written after within read ended w put = tt
