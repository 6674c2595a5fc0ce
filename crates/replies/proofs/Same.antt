-- Replies that the tests find to be the same are.
use Prim.Native.Nat.{ℕ}
use mathlib.Core.Option.{Option, none, some}
use mathlib.Core.Path.{◌≡◌, refl, ap, ap₂}
use mathlib.Core.Bool.{true, false≢true}
use borrow.Author.Tests.{eqb-true}
use lib.Dec.{eqb}
use Rattle.stores.proofs.Tests.{and_left, and_right}
use Rattle.stores.proofs.Lists.{same_numbers}
use Rattle.replies.specs.Replies.{Said, done, listed, absent, refused, following_same, said_same}

pub same_following : (f g : Option ℕ) → following_same f g ≡ true → f ≡ g
unfolding following_same
same_following (some i) (some j) e = ap some (eqb-true i j e)
same_following (some i) none e = absurd (false≢true e)
same_following none (some j) e = absurd (false≢true e)
same_following none none e = refl

pub same_said : (s t : Said) → said_same s t ≡ true → s ≡ t
unfolding said_same
same_said (done xs) (done ys) e = ap done (same_numbers xs ys e)
same_said (done xs) (listed n g) e = absurd (false≢true e)
same_said (done xs) absent e = absurd (false≢true e)
same_said (done xs) (refused n) e = absurd (false≢true e)
same_said (listed m f) (done ys) e = absurd (false≢true e)
same_said (listed m f) (listed n g) e =
    ap₂ (λ (k : ℕ) (h : Option ℕ). listed k h) (eqb-true m n (and_left (eqb m n) (following_same f g) e))
    (same_following f g (and_right (eqb m n) (following_same f g) e))
same_said (listed m f) absent e = absurd (false≢true e)
same_said (listed m f) (refused n) e = absurd (false≢true e)
same_said absent (done ys) e = absurd (false≢true e)
same_said absent (listed n g) e = absurd (false≢true e)
same_said absent absent e = refl
same_said absent (refused n) e = absurd (false≢true e)
same_said (refused m) (done ys) e = absurd (false≢true e)
same_said (refused m) (listed n g) e = absurd (false≢true e)
same_said (refused m) absent e = absurd (false≢true e)
same_said (refused m) (refused n) e = ap refused (eqb-true m n e)
