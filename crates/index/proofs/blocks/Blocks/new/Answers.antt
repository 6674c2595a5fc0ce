-- `index::blocks::Blocks::new` meets its contract.
use native.Mathlib.Omega.{arith}
use Rattle.index_laws.proofs.Scan.{leader_zero}
use Rattle.index.proofs.blocks.Blocks.new.Goals as goal

pub invariant_of-result : goal.invariant_of-result
invariant_of-result c = record { read = c.requires; own = leader_zero _ _; inside = omega arith }
