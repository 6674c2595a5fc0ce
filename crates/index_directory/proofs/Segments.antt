-- The search for a free segment: what is noted entry by entry, and the answer from the set.
use mathlib.Core.Path.{◌≡◌, refl, sym, ap, ◌∙◌}
use mathlib.Core.Bool.{Bool, true, false, not, ◌&&◌, ◌||◌}
use mathlib.Core.List.{List}
use mathlib.Core.Option.{none, some}
use Prim.Native.Nat.{ℕ, ◌+◌, ◌^◌, ◌≤◌, ◌<◌}
use native.Mathlib.Numerals.{add-one}
use native.Mathlib.Omega.{arith}
use borrow.Author.Tests.{lt-ltb, le-ltb, ltb-true, ltb-false}
use lib.Dec.{eqb, ltb}
use Rattle.std.specs.Bool.{then_some}
use Rattle.stores.specs.Lists.{any_below}
use Rattle.stores.specs.Options.{option_of}
use Rattle.stores.proofs.Numbers.{first_same_below, first_nowhere, first_at}
use Rattle.stores.proofs.Tests.{by_test}
use Rattle.index_rules.specs.Layout.{depth, segments, entry_at, segment_of}
use Rattle.index_rules.specs.Slots.{named, free_segment}
use Rattle.index_directory.specs.BitSets.{holds, Empty, SmallestMissing}
use Rattle.index_directory.specs.Frees.{free_in, NotedEntry, HoldsNamed}

-- ---- The pass

-- Entry i names segment s.
abbrev names : List ℕ → (s i : ℕ) → Bool
names a s i = eqb (segment_of (entry_at a (depth a) i)) s

-- The set holds the numbers below S that one of the first i entries names, and no others.
abbrev pub NotedBelow : (a noted : List ℕ) (i : ℕ) → Type 0
NotedBelow a noted i = (s : ℕ) → holds noted s ≡ (ltb s (segments a) && any_below (names a s) i)

and_none : (b : Bool) → b && false ≡ false
and_none true = refl
and_none false = refl

one_more_holds : (b x y : Bool) → (b && y || b && x) ≡ b && (x || y)
one_more_holds true true true = refl
one_more_holds true true false = refl
one_more_holds true false true = refl
one_more_holds true false false = refl
one_more_holds false x y = refl

module _ (a : List ℕ) where
  pub noted_none : (noted : List ℕ) → Empty noted → NotedBelow a noted 0
  unfolding any_below
  noted_none noted e s = e s ∙ sym (and_none (ltb s (segments a)))

  pub noted_entry : (before after : List ℕ) (i : ℕ) → NotedBelow a before i → NotedEntry (entry_at a (depth a) i) (segments a) before after
      → NotedBelow a after (i + 1)
  unfolding any_below
  noted_entry before after i b e s =
      rw add-one (e s ∙ ap (λ (t : Bool). ltb s (segments a) && names a s i || t) (b s)
      ∙ one_more_holds (ltb s (segments a)) (any_below (names a s) i) (names a s i))

  pub noted_all : (noted : List ℕ) (i : ℕ) → i ≡ 2 ^ depth a → NotedBelow a noted i → HoldsNamed noted a
  unfolding named
  noted_all noted i q b = record {
    exactly_named = λ s h. b s ∙ rw (lt-ltb s (segments a) h, q) refl;
    no_others = λ s h. b s ∙ rw (le-ltb s (segments a) h) refl;
  }

-- ---- The answer

module _ {noted : List ℕ} {r : ℕ} (m : SmallestMissing r noted) (S : ℕ) where
  pub free_there : r < S → some r ≡ free_in noted S
  unfolding free_in
  free_there h = sym (first_at (λ s. not (holds noted s)) S r h (λ s k. ap not (m.below_held s k)) (ap not m.missing))

  pub free_nowhere : S ≤ r → none ≡ free_in noted S
  unfolding free_in
  free_nowhere h = sym (first_nowhere (λ s. not (holds noted s)) S (λ s k. ap not (m.below_held s (omega arith))))

  pub free_answer : option_of (then_some (ltb r S) r) ≡ free_in noted S
  free_answer =
      by_test (ltb r S) (λ t. rw t (free_there (ltb-true r S t))) (λ t. rw t (free_nowhere (ltb-false r S t)))

-- The answer from what the pass notes is the smallest segment that no entry names.
pub free_named : {noted a : List ℕ} (S : ℕ) → HoldsNamed noted a → segments a ≡ S → free_in noted S ≡ free_segment a
unfolding free_in free_segment
free_named {noted} {a} S h q =
    rw (← q) (first_same_below (λ s. not (holds noted s)) (λ s. not (named a s)) (segments a) (λ s k. ap not (h.exactly_named s k)))
