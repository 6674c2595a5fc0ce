-- A read puts its bytes behind those that stand at the buffer's start.
use Rattle.std.proofs.Common.{sym, subst, rules}
use Rattle.std.specs.Io.KnownBytes.{Consumes}
use Rattle.intake.proofs.Behind.{Consumes-trans, take-behind}
use Rattle.intake.proofs.read_full.Goals as goal

pub loop-size-preserved : goal.loop-size-preserved
loop-size-preserved g c =
    let before = c.loop-size.invariant in
    let read = c.in_ok-count.ensures in
    let joined = take-behind c.loop-size.size c.in_ok-count.count c.loop-size.buffer c.read.new.buf _ before.0 read.bound.0 in
    (search rules, subst (Consumes _ _) (sym joined) (Consumes-trans _ _ _ _ _ before.1 read.bytes.0))
