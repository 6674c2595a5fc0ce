-- What is written is the output of all that the input held.
use Rattle.std.proofs.Common.{◌<◌, arith}
use Rattle.desk.proofs.Script.{script_ran}
use Rattle.desk.proofs.run_script.Goals as goal

pub returns : goal.returns
returns g c =
    let read = c.in_ok-size.ensures in
    script_ran c.write_all.result _ _ _ _ c.read_full.new.buffer c.in_ok-size.size _ c.run-written.result c.run-written.new.out
    read.within.0 read.bytes (λ (few : c.in_ok-size.size < 16385). read.whole (omega arith)) c.run-written.ensures c.write_all.ensures.bytes
