-- `index_directory::scan::scan_entry` meets its contract.
use borrow.Author.Tests.{lt-ltb, le-ltb, eq-eqb, ne_eqb}
use mathlib.Core.Path.{◌≡◌, sym, ◌∙◌}
use Prim.Native.Nat.{◌%◌}
use native.Mathlib.Omega.{arith}
use Rattle.std.proofs.lemmas.Result.{err_from_is_err_and}
use Rattle.index_rules.specs.Keys.{width}
use Rattle.index_rules.specs.Scan.{valid_leader}
use Rattle.index_laws.proofs.Keys.{width_pos, width_le}
use Rattle.index_laws.proofs.Scan.{range_depth}
use Rattle.index_directory.specs.Scans.{scan_at}
use Rattle.index_layout.proofs.Entries.{mask_width}
use Rattle.index_layout.proofs.Answers.{entry_at_holds, entry_broken, entry_refused}
use Rattle.index_directory.proofs.scan.scan_entry.Goals as goal

pub returns-then-before : goal.returns-then-before
unfolding scan_at
returns-then-before c = rw (lt-ltb _ _ c.if-i-block.true, c.if-before.true)

pub returns-else-before : goal.returns-else-before
unfolding scan_at
returns-else-before c = rw (lt-ltb _ _ c.if-i-block.true, c.if-before.false)

pub returns-in_err-opened : goal.returns-in_err-opened
unfolding scan_at valid_leader
returns-in_err-opened c =
    let p = err_from_is_err_and c.from_residual.result c.from_residual.ensures.1 in
    let e = c.open_entry.ensures in
    let q = c.in_err-opened.was in
    rw (p.1, p.2, entry_refused _ _ _ _ e _ q, le-ltb _ _ c.if-i-block.false, entry_broken _ _ _ _ e _ q)

pub block_width-width-requires : goal.block_width-width-requires
block_width-width-requires c =
    let o = entry_at_holds _ _ _ _ c.open_entry.ensures _ c.in_ok-opened.was in
    (rw o.depth_is at (range_depth _ _ _ o.range), omega arith)

pub overflow_sub-width : goal.overflow_sub-width
overflow_sub-width c = rw c.block_width-width.ensures (width_pos _ _)

pub returns-then-i-width-ne0 : goal.returns-then-i-width-ne0
unfolding scan_at valid_leader
returns-then-i-width-ne0 c =
    let o = entry_at_holds _ _ _ _ c.open_entry.ensures _ c.in_ok-opened.was in
    rw (
      le-ltb _ _ c.if-i-block.false,
      o.range,
      o.depth_is,
      ne_eqb _ 0 (λ q. c.if-i-width-ne0.true (mask_width _ _ _ _ c.block_width-width.ensures ∙ q)),
    )

pub overflow_add-end : goal.overflow_add-end
overflow_add-end c =
    let w = width_le c.args.header.depth
    c.in_ok-opened.opened.depth (omega arith) in
    omega (arith, c.block_width-width.ensures)

pub returns : goal.returns
unfolding scan_at valid_leader
returns c =
    let a = c.args in
    let L = c.in_ok-opened.opened.depth in
    let o = entry_at_holds _ _ _ _ c.open_entry.ensures _ c.in_ok-opened.was in
    let w = c.block_width-width.ensures in
    let aligned : a.i % width a.header.depth L ≡ 0 = sym (mask_width a.header.depth L a.i _ w) ∙ c.if-i-width-ne0.false in
    rw (le-ltb _ _ c.if-i-block.false, o.range, o.depth_is, eq-eqb _ 0 aligned, w)
