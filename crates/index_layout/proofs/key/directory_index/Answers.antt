-- `index_layout::key::directory_index` meets its contract.
use mathlib.Core.Path.{◌≡◌, sym, ◌∙◌}
use Prim.Native.Nat.{ℕ, ◌+◌, ◌*◌, ◌/◌, ◌<◌}
use native.Mathlib.Omega.{arith}
use Rattle.index_rules.specs.Keys.{first_bits}
use Rattle.index_laws.proofs.Keys.{first_lt, first_shift, block_bits_shift, first_joined}
use Rattle.index_layout.proofs.key.directory_index.Goals as goal

-- Four bits are below 16.
small : (bits : ℕ) → first_bits bits 4 < 16
small bits = first_lt bits 4

-- Twelve bits, four at a time.
twelve : (bits : ℕ) → first_bits bits 12 ≡ 256 * first_bits bits 4 + 16 * first_bits (bits / 16) 4 + first_bits (bits / 256) 4
twelve bits =
    let rest : first_bits (bits / 16) 8 ≡ 16 * first_bits (bits / 16) 4 + first_bits (bits / 16 / 16) 4 = first_joined (bits / 16) 4 4 in
    let twice : bits / 16 / 16 ≡ bits / 256 = omega arith in
    first_joined bits 4 8 ∙ rw (rest, twice) (omega arith)

pub overflow_mul-all : goal.overflow_mul-all
overflow_mul-all c = let s : c.first_four.result < 16 = rw c.first_four.ensures (small _) in omega arith

pub overflow_mul-all-2 : goal.overflow_mul-all-2
overflow_mul-all-2 c = let s : c.first_four-2.result < 16 = rw c.first_four-2.ensures (small _) in omega arith

pub overflow_add-all : goal.overflow_add-all
overflow_add-all c =
    let s : c.first_four.result < 16 = rw c.first_four.ensures (small _) in
    let t : c.first_four-2.result < 16 = rw c.first_four-2.ensures (small _) in
    omega arith

pub overflow_add-all-2 : goal.overflow_add-all-2
overflow_add-all-2 c =
    let s : c.first_four.result < 16 = rw c.first_four.ensures (small _) in
    let t : c.first_four-2.result < 16 = rw c.first_four-2.ensures (small _) in
    let u : c.first_four-3.result < 16 = rw c.first_four-3.ensures (small _) in
    omega arith

pub returns : goal.returns
returns c =
    let a = c.args in
    let first = c.first_four in
    let second = c.first_four-2 in
    let third = c.first_four-3 in
    let joined : 256 * first.result + 16 * second.result + third.result ≡ first_bits a.bits 12 =
    rw (first.ensures, second.ensures, third.ensures) (sym (twelve a.bits)) in
    rw (joined, ← block_bits_shift 12 a.depth (first_bits a.bits 12)) (first_shift a.bits 12 a.depth (omega arith))
