-- `index_directory::bit_set::smallest_missing` meets its contract.
use borrow.Author.Rules.{rules}
use mathlib.Core.Path.{◌≡◌}
use Prim.Native.Nat.{◌<◌, ◌^◌}
use native.Mathlib.Omega.{arith}
use Rattle.stores.specs.Store.{word}
use Rattle.index_directory.proofs.BitSets.{full_word, missing_in_word, missing_behind}
use Rattle.index_directory.proofs.bit_set.smallest_missing.Goals as goal

pub returns-then-word : goal.returns-then-word
returns-then-word c =
    let below : word c.args.set.now c.loop-i.i < 2 ^ 64 = search rules in
    rw c.trailing_ones.ensures (missing_in_word c.args.set.now c.loop-i.i c.loop-i.invariant below c.if-word.true)

pub loop-i-preserved : goal.loop-i-preserved
loop-i-preserved c = full_word c.args.set.now c.loop-i.i c.loop-i.invariant c.if-word.false

pub returns : goal.returns
returns c =
    let all : c.loop-i.i ≡ 64 = omega (arith, c.requires) in
    missing_behind c.args.set.now 64 c.requires (rw all at c.loop-i.invariant)
