-- `index_segment::live::is_live_by` meets its contract: the mask of L ones keeps the low L bits, and those give the index.
use Prim.Native.Nat.{ℕ, ◌*◌, ◌-◌, ◌%◌, ◌^◌, ◌≤◌}
use borrow.Author.Rules.{rules}
use borrow.Author.Tests.{eq-eqb, ne_eqb}
use native.Mathlib.Nat.{one-mul}
use native.Mathlib.Omega.{arith}
use mathlib.Core.Path.{◌≡◌, ◌∙◌}
use lib.Bits.{bit_and, and_mask}
use lib.Pow.{shl_exact}
use Rattle.index_laws.proofs.Keys.{live_bits}
use Rattle.index_segment.proofs.live.is_live_by.Goals as goal

shifted_one : (L : ℕ) → L ≤ 12 → 1 * 2 ^ L % 18446744073709551616 ≡ 2 ^ L
shifted_one L h = shl_exact {a = 1} 1 L 64 (search rules) (omega arith) ∙ one-mul (2 ^ L)

masked : (L n : ℕ) → L ≤ 12 → bit_and n (1 * 2 ^ L % 18446744073709551616 - 1) ≡ n % 2 ^ L
masked L n h = rw (shifted_one L h) (and_mask n L)

pub returns-then-key-ne0 : goal.returns-then-key-ne0
returns-then-key-ne0 c =
    let a = c.args in
    let L = a.block.local_depth in
    rw (
      masked L a.bits a.block.shallow,
      masked L a.block.bits a.block.shallow,
      live_bits L a.block.bits a.key,
      ne_eqb a.key 0 c.if-key-ne0.true,
      c.requires,
    )

pub returns-else-key-ne0 : goal.returns-else-key-ne0
returns-else-key-ne0 c =
    let a = c.args in
    rw (live_bits a.block.local_depth a.block.bits a.key, eq-eqb a.key 0 c.if-key-ne0.false)
