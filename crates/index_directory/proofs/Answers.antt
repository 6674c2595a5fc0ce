-- What the answer of a scan tells its caller of the leaders.
use mathlib.Core.Path.{◌≡◌, refl}
use mathlib.Core.Bool.{Bool, true, false}
use mathlib.Core.List.{List}
use mathlib.Core.Option.{some, none}
use Rattle.std.specs.Prelude.{ℕ, Ok, Err, Result}
use Rattle.stores.proofs.Tests.{by_test}
use Rattle.replies.specs.declared.Refusal.{Refusal}
use Rattle.replies.specs.declared.Refusal.TheVariants.{Broken, Unmended}
use Rattle.index_rules.specs.Layout.{depth, segments}
use Rattle.index_rules.specs.Scan.{leaders_valid, entries_agree}
use Rattle.replies.specs.Replies.{unless}
use Rattle.index_rules.specs.Put.{directory_tests}
use Rattle.index_directory.specs.Scans.{verdict_of}

tests_broken : (v t : Bool) → some Broken ≡ unless v Broken (unless t Unmended none) → v ≡ false
unfolding unless
tests_broken false t e = refl
tests_broken true true e = cc
tests_broken true false e = cc

-- The scan has answered 'broken': a leader is not valid.
pub verdict_broken : (a : List ℕ) → some Broken ≡ directory_tests a none → leaders_valid a (depth a) (segments a) ≡ false
unfolding directory_tests
verdict_broken a e = tests_broken (leaders_valid a (depth a) (segments a)) (entries_agree a (depth a)) e

-- It has answered anything else: all are valid.
pub verdict_valid : (a : List ℕ) (r : Result Unit Refusal) → verdict_of r ≡ directory_tests a none → (r ≡ Err Broken → ⊥)
    → leaders_valid a (depth a) (segments a) ≡ true
unfolding directory_tests unless
verdict_valid a r e n =
    by_test (leaders_valid a (depth a) (segments a))
    (λ t. t)
    (λ t. absurd (n (is_broken r (rw t at e))))
  where
    is_broken : (r : Result Unit Refusal) → verdict_of r ≡ some Broken → r ≡ Err Broken
    is_broken (Ok x) e = cc
    is_broken (Err q) e = cc
