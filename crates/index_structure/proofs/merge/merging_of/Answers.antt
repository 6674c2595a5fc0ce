-- `index_structure::merge::merging_of` meets its contract.
use native.Mathlib.Omega.{arith}
use Rattle.index_structure.proofs.merge.merging_of.Goals as goal

pub overflow_sub-joined : goal.overflow_sub-joined
overflow_sub-joined c = omega (arith, c.requires.deep)

pub invariant_of-joined : goal.invariant_of-joined
invariant_of-joined c = record { shallow = omega (arith, c.requires.low, c.requires.depth_high) }
