-- `board::write::write_year` meets its contract. The invariant: the lines of the jobs at the places below `place` are written.
use Rattle.std.proofs.Common.{◌≡◌, length, ap, ◌∙◌, add-one, arith}
use Rattle.text.specs.Output.{HasRoom}
use Rattle.board.specs.Print.{year_lookups, all_numbers, lines_in}
use Rattle.board.proofs.Lookups.{year_places, written_start, written_turn, turn_fits, written_to}
use Rattle.board.proofs.write.write_year.Goals as goal

pub loop-place-init : goal.loop-place-init
loop-place-init c = (omega arith, written_start _ _)

pub write_job-requires : goal.write_job-requires
write_job-requires c =
    let room : HasRoom (lines_in (year_lookups c.args.words.now c.args.year all_numbers)) c.new-output.result =
    omega (arith, c.requires.room, c.new-output.ensures.written, ap length c.new-output.ensures.bytes) in
    rw (c.at.ensures.0, c.at.ensures.1, c.at.ensures.2)
    (turn_fits _ _ 49152 _ _ c.loop-place-test.true (rw (year_places _ _) at room) c.loop-place.invariant.1)

pub loop-place-preserved : goal.loop-place-preserved
loop-place-preserved c =
    let room : HasRoom (lines_in (year_lookups c.args.words.now c.args.year all_numbers)) c.new-output.result =
    omega (arith, c.requires.room, c.new-output.ensures.written, ap length c.new-output.ensures.bytes) in (
      omega (arith, c.loop-place-test.true),
      rw (add-one c.loop-place.place)
          (written_turn _ _ 49152 _ _ c.loop-place-test.true (rw (year_places _ _) at room) c.loop-place.invariant.1 _
          (rw (c.at.ensures.0, c.at.ensures.1, c.at.ensures.2) at c.write_job.ensures)),
    )

pub returns : goal.returns
returns c =
    let all : c.loop-place.place ≡ 49152 = omega (arith, c.loop-place-test.false, c.loop-place.invariant.0) in
    let same_buffer = c.loop-place.invariant.1.same_buffer ∙ c.new-output.ensures.same_reference in
    let text = rw (c.new-output.ensures.written, c.new-output.ensures.bytes, all) at c.loop-place.invariant.1.text in
    rw (year_places _ _) (written_to _ _ c.loop-place.output _ text (grind arith))
