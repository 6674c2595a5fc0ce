-- `index::listing::following` meets its contract.
use Rattle.index.proofs.Listings.{following_said}
use Rattle.index.proofs.listing.following.Goals as goal

pub returns : goal.returns
returns c = rw (c.then_some.ensures, c.pow2.ensures) (following_said _ _)
