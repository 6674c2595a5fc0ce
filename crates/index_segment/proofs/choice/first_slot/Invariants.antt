-- `index_segment::choice::first_slot` meets its contract. The invariant: no slot so far has a key that passes.
use Prim.Native.Nat.{ℕ}
use mathlib.Core.Path.{◌≡◌}
use mathlib.Core.Bool.{Bool}
use mathlib.Core.List.{List}
use mathlib.Core.Option.{none}
use Rattle.stores.specs.Lists.{first_in}
use Rattle.index_segment.specs.Bucket.{bucket_words, passes}
use Rattle.index_segment.proofs.Search.{slots_before}
use Rattle.index_segment.proofs.choice.first_slot.Given as goal

abbrev pub invariant-loop-j : goal.invariant-loop-j
invariant-loop-j g l =
    (p : ℕ → Bool)
    → ((key : ℕ) (t : Bool) → goal.F-post g l.passes key t → t ≡ p key)
    → (a : List ℕ)
    → l.fn.bucket.words ≡ bucket_words a l.number
    → first_in (passes p a) (slots_before l.number l.j) ≡ none
