-- `index::blocks::BlocksIterator::next` meets its contract.
use Prim.Native.Nat.{◌-◌, ◌^◌, ◌<◌}
use mathlib.Core.Path.{refl}
use native.Mathlib.Omega.{arith}
use Rattle.index_layout.proofs.Shapes.{bounds}
use Rattle.index.proofs.Listings.{loop_leads, turn}
use Rattle.index.proofs.blocks.BlocksIterator.next.Goals as goal

pub pow2-requires : goal.pow2-requires
pow2-requires c = let g = bounds c.args.self.now.read.0 in omega arith

pub read_block-place-requires : goal.read_block-place-requires
read_block-place-requires c =
    let b = c.args.self.now in
    (b.read, loop_leads b.read.0 _ c.pow2.ensures _ (omega arith) b.own)

pub invariant_of-self : goal.invariant_of-self
invariant_of-self c =
    let b = c.args.self.now in
    let lead = loop_leads b.read.0 _ c.pow2.ensures _ c.if-self-pow2.false b.own in
    let t = turn b.read.0 b.read.1 _ c.pow2.ensures _ lead _ c.read_block-place.ensures in
    record { read = b.read; own = t.leads_next; inside = omega (arith, t.inside, c.pow2.ensures) }

pub returns-clause-steps : goal.returns-clause-steps
returns-clause-steps c =
    let b = c.args.self.now in
    let lead = loop_leads b.read.0 _ c.pow2.ensures _ c.if-self-pow2.false b.own in
    (lead, c.read_block-place.ensures, refl, refl, refl)

pub returns-clause-goes : goal.returns-clause-goes
returns-clause-goes c =
    let b = c.args.self.now in
    let lead = loop_leads b.read.0 _ c.pow2.ensures _ c.if-self-pow2.false b.own in
    let t = turn b.read.0 b.read.1 _ c.pow2.ensures _ lead _ c.read_block-place.ensures in
    let fewer : 2 ^ b.header.depth - c.read_block-place.result.next < 2 ^ b.header.depth - b.next =
    omega (arith, t.onwards, t.inside, c.pow2.ensures) in
    record { on = λ _. (tt, tt, fewer); keeps = tt; rests = λ _. tt }
