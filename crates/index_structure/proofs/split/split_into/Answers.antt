-- `index_structure::split::split_into` meets its contract.
use native.Mathlib.Omega.{arith}
use Rattle.stores.proofs.Loops.{begun_due, executed_length}
use Rattle.index_layout.proofs.Shapes.{bounds}
use Rattle.index_layout.proofs.Places.{place_bounds}
use Rattle.index_structure.proofs.Splits.{halvable, doubling_due, split_halved, split_doubled}
use borrow.Author.Rules.{rules}
use Rattle.index_structure.proofs.split.split_into.Goals as goal

pub read_segment-old-requires : goal.read_segment-old-requires
read_segment-old-requires c = (place_bounds c.requires.place).whole

pub halve-requires : goal.halve-requires
halve-requires c =
    let p = c.requires in
    let d = c.double.ensures in
    let deep = c.if-place-depth.true in
    (halvable p _ _ (omega arith) (let r = p.local_room in omega arith) (executed_length d), omega (arith, doubling_due p deep _ _ _ d, begun_due c.new-budget.ensures))

pub returns-then-place-depth : goal.returns-then-place-depth
returns-then-place-depth c =
    rw c.new-budget.ensures at
    (split_doubled c.requires c.read_segment-old.ensures c.if-place-depth.true _ _ _ _ _ c.double.ensures c.halve.ensures)

pub halve-requires-2 : goal.halve-requires-2
halve-requires-2 c =
    let p = c.requires in
    let q = place_bounds p.place in
    (halvable p _ _ (let r = q.local_low in omega (arith, c.if-place-depth.false)) (bounds p.place.header_read).present (search rules), omega (arith, begun_due c.new-budget.ensures))

pub returns : goal.returns
returns c =
    rw c.new-budget.ensures at (split_halved c.requires c.read_segment-old.ensures _ _ _ c.if-place-depth.false c.halve-2.ensures)
