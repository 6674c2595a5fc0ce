-- `index_structure::empty::store_empty` meets its contract.
use borrow.Author.Rules.{rules}
use native.Mathlib.Omega.{arith}
use Prim.Native.Nat.{◌+◌, ◌*◌}
use Rattle.stores.specs.Store.{store}
use Rattle.stores.proofs.Lists.{length_each_ones}
use Rattle.index_layout.proofs.Shapes.{shape}
use Rattle.stores.proofs.Loops.{begun_due, executed_length}
use Rattle.index_layout.proofs.Places.{first_segment_fits}
use Rattle.index_structure.proofs.Empties.{format_stores_holds}
use Rattle.index_structure.proofs.empty.store_empty.Goals as goal

pub store-requires : goal.store-requires
store-requires c = let f = first_segment_fits _ _ _ c.requires.0 c.requires.1 in (omega arith, search rules)

pub store-requires-2 : goal.store-requires-2
store-requires-2 c =
    let f = first_segment_fits _ _ _ c.requires.0 c.requires.1 in
    let e = c.store.ensures in
    (omega (arith, executed_length e), omega (arith, e.count, begun_due c.new-budget.ensures))

pub segment_base-base-requires : goal.segment_base-base-requires
segment_base-base-requires c = let s = shape _ _ c.requires.0 in (omega arith, omega arith)

pub clear_keys-requires : goal.clear_keys-requires
clear_keys-requires c =
    let f = first_segment_fits _ _ _ c.requires.0 c.requires.1 in
    let e = c.store.ensures in
    let k = c.store-2.ensures in
    (rw c.segment_base-base.ensures (omega (arith, executed_length e, executed_length k)), omega (arith, e.count, k.count, begun_due c.new-budget.ensures))

pub pack_header-word-requires : goal.pack_header-word-requires
pack_header-word-requires c = let s = shape _ _ c.requires.0 in (omega arith, omega arith, omega arith)

pub store-requires-3 : goal.store-requires-3
store-requires-3 c =
    let f = first_segment_fits _ _ _ c.requires.0 c.requires.1 in
    let e = c.store.ensures in
    let k = c.store-2.ensures in
    let l = c.clear_keys.ensures in (
      omega (arith, executed_length e, executed_length k, executed_length l),
      omega (arith, e.count, k.count, l.count, begun_due c.new-budget.ensures, length_each_ones (λ j. store (c.segment_base-base.result + 2 * j) 0) 64),
    )

pub returns : goal.returns
returns c =
    rw c.new-budget.ensures at
    (format_stores_holds _ _ _ _ _ _ _ _ _ _ _ _ _ _ c.segment_base-base.ensures c.pack_header-word.ensures c.store.ensures c.store-2.ensures
    c.clear_keys.ensures c.store-3.ensures)
