-- `index_segment::choice::usable_slot` meets its contract.
use borrow.Author.Rules.{rules}
use mathlib.Core.Bool.{not}
use Rattle.index_rules.specs.Keys.{live}
use Rattle.index_layout.specs.Blocks.{shared}
use Rattle.index_segment.proofs.choice.usable_slot.Goals as goal

pub returns : goal.returns
returns c = c.first_slot.ensures (λ k. not (live c.args.block.local_depth (shared c.args.block) k)) (λ k t r. search rules)
