-- `index_layout::header::words_for` meets its contract.
use native.Mathlib.Omega.{arith}
use native.Mathlib.Numerals.{add-one}
use Prim.Native.Nat.{◌+◌, ◌^◌, ◌≤◌}
use lib.Pow.{pow_mono}
use Rattle.index_rules.specs.Layout.{words_for}
use Rattle.index_layout.proofs.Shapes.{shape}
use Rattle.index_layout.proofs.header.words_for.Goals as goal

pub overflow_add-result : goal.overflow_add-result
overflow_add-result c =
    let s = shape _ _ c.requires in
    let p : 2 ^ (c.args.max_depth + 1) ≤ 8192 = pow_mono {j = 13} (omega arith) in
    omega (arith, c.pow2.ensures)

pub returns : goal.returns
unfolding words_for
returns c = rw (c.pow2.ensures, add-one)
