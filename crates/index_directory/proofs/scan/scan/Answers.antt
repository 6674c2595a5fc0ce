-- `index_directory::scan::scan` meets its contract.
use mathlib.Core.Path.{sym, ◌∙◌}
use native.Mathlib.Omega.{arith}
use Rattle.std.proofs.lemmas.Result.{err_from_is_err_and}
use Rattle.index_layout.proofs.Shapes.{bounds}
use Rattle.index_directory.proofs.Blocks.{scan_start, scan_read, scan_goes_on, scan_stops, ends_consistent, ends_unmended}
use Rattle.index_directory.proofs.scan.scan.Goals as goal

pub loop-i-init : goal.loop-i-init
loop-i-init c = (omega arith, scan_start _ _ _)

pub returns-in_err-step : goal.returns-in_err-step
returns-in_err-step c =
    let d = c.requires in
    let l = c.loop-i in
    let p = err_from_is_err_and c.from_residual.result c.from_residual.ensures.1 in
    rw (p.1, p.2)
    (scan_stops _ l.i l.step l.invariant.1 _ (rw d.depth_read (omega arith))
    (sym c.in_err-step.was ∙ c.scan_entry.ensures ∙ scan_read d _ l.i c.pow2-count.ensures _))

pub loop-i-preserved : goal.loop-i-preserved
loop-i-preserved c =
    let l = c.loop-i in (
      omega arith,
      scan_goes_on _ _ _ l.i l.step _ l.invariant.1
          (sym c.in_ok-step.was ∙ c.scan_entry.ensures ∙ scan_read c.requires _ l.i c.pow2-count.ensures _),
    )

pub returns-then-step : goal.returns-then-step
returns-then-step c =
    ends_consistent _ c.loop-i.i _ c.loop-i.invariant.1 (rw c.requires.depth_read (omega arith)) c.if-step.true

pub returns-else-step : goal.returns-else-step
returns-else-step c =
    ends_unmended _ c.loop-i.i _ c.loop-i.invariant.1 (rw c.requires.depth_read (omega arith)) c.if-step.false

pub overflow_step-i : goal.overflow_step-i
overflow_step-i c = let b = bounds c.requires in omega (arith, c.pow2-count.ensures)

pub pow2-count-requires : goal.pow2-count-requires
pow2-count-requires c = let b = bounds c.requires in omega arith

pub overflow_add-count : goal.overflow_add-count
overflow_add-count c = let b = bounds c.requires in omega arith

pub offset_bounds-words-count : goal.offset_bounds-words-count
offset_bounds-words-count c = let b = bounds c.requires in omega arith

pub bounds-words-count : goal.bounds-words-count
bounds-words-count c = let b = bounds c.requires in omega arith

pub scan_entry-requires : goal.scan_entry-requires
scan_entry-requires c = let b = bounds c.requires in omega arith
