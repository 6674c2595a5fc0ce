-- The bytes printed are within the buffer.
use Rattle.std.proofs.Common.{◌≡◌, ◌∙◌, ap, arith, length-take, Ok}
use Rattle.replies.specs.declared.Reply.TheVariants.{Value}
use Rattle.board.proofs.Cases.{printed_within}
use Rattle.example_board.proofs.show.Goals as goal

pub slice_bounds-buffer-end : goal.slice_bounds-buffer-end
slice_bounds-buffer-end g c =
    let value : c.in-Ok-Value.field-0 ≡ Value c.in-Ok-Value.bytes = rw c.in-Ok-Value.is at c.in-Ok-Value.field-0-is in
    let is : c.print-answer.result.reply ≡ Ok (Value c.in-Ok-Value.bytes) = c.in-Ok-Value.is ∙ ap Ok value in
    let within = printed_within _ _ _ _ _ _ c.print-answer.ensures is in
    omega (arith, within)

pub slice_bounds-write_all-end : goal.slice_bounds-write_all-end
slice_bounds-write_all-end g c =
    let value : c.in-Ok-Value.field-0 ≡ Value c.in-Ok-Value.bytes = rw c.in-Ok-Value.is at c.in-Ok-Value.field-0-is in
    let is : c.print-answer.result.reply ≡ Ok (Value c.in-Ok-Value.bytes) = c.in-Ok-Value.is ∙ ap Ok value in
    let within = printed_within _ _ _ _ _ _ c.print-answer.ensures is in
    simp length-take (omega (arith, within))
