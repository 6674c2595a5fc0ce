-- `index_directory::buddy::buddy_index` meets its contract.
use native.Mathlib.Omega.{arith}
use Rattle.index_directory.proofs.Buddies.{buddy_left, buddy_right}
use Rattle.index_directory.proofs.buddy.buddy_index.Goals as goal

pub returns-then-starts-i : goal.returns-then-starts-i
returns-then-starts-i c = λ g M b. buddy_left b c.if-starts-i.true

pub returns : goal.returns
returns c = λ g M b. buddy_right b (λ h. omega (arith, c.if-starts-i.false))
