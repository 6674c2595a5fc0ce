-- `index_layout::key::block_bits` meets its contract.
use mathlib.Core.Path.{◌≡◌, sym, ◌∙◌}
use Prim.Native.Nat.{ℕ, suc, ◌+◌, ◌*◌, ◌/◌, ◌%◌, ◌^◌, ◌<◌}
use native.Mathlib.Nat.{mod-eq_of_lt, mod-one, div-one}
use native.Mathlib.Numerals.{add-one, one-add}
use native.Mathlib.Omega.{arith}
use lib.Pow.{shr-shr, mod-pow-add}
use Rattle.index_laws.proofs.Keys.{first_zero, first_in_front, block_bits_shift, block_bits_lt}
use Rattle.index_layout.proofs.key.block_bits.Goals as goal

-- One bit more of the block's bits.
one_more_holds : (b t : ℕ) → b / 2 ^ t % 2 * 2 ^ t + b % 2 ^ t ≡ b % 2 ^ suc t
one_more_holds b t = sym (rw one-add at (mod-pow-add b 1 t))

pub loop-init : goal.loop-init
loop-init c =
    (sym (block_bits_shift _ _ _) ∙ sym (div-one _), first_zero _ ∙ sym (mod-one _), omega arith, omega arith)

pub loop-preserved : goal.loop-preserved
loop-preserved c =
    let i = c.loop.invariant in
    let bit : c.loop.bits % 2 < 2 = omega arith in (
      rw i.0 (shr-shr _ _ 1),
      rw add-one
          (first_in_front c.loop.reversed (c.loop.bits % 2) c.loop.counter bit
          ∙ rw (i.0, i.1) (one_more_holds _ _)),
      rw add-one (omega arith),
      omega arith,
    )

pub returns : goal.returns
returns c =
    let i = c.loop.invariant in
    let a = c.args in
    let e : c.loop.counter ≡ a.local_depth = omega arith in
    rw e at i.1 ∙ mod-eq_of_lt (block_bits_lt a.depth a.local_depth a.i (omega arith) (omega arith))
