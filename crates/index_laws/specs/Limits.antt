-- Demand 1: the words that a call can touch and look at, refusals that change nothing, and the most stores of a merge.
use Rattle.std.specs.Prelude.{ℕ, ◌+◌, ◌^◌, ◌≤◌, ◌<◌, ◌≡◌, List, [], length}
use Rattle.std.proofs.Math.Option.{Option, none, some}
use Rattle.stores.specs.Store.{Store, word}
use Rattle.stores.specs.Plan.{Outcome}
use Rattle.replies.specs.Replies.{Said}
use Rattle.index_rules.specs.declared.Call.{Call}
use Rattle.index_rules.specs.declared.Call.TheVariants.{Format, Get, Put, Remove, Merge, Mend, List as ListCall, ListBlock}
use Rattle.index_rules.specs.Layout.{depth, max_depth, segments, words_for}
use Rattle.index_rules.specs.Step.{Effect, changes, answers}

-- ---- The words that a call may touch

-- A pair of D and S.
pub record Sizes : Type 0 where
  pub D : ℕ
  pub S : ℕ

-- The D and S that a call brings with it: a format has some.
abbrev pub own_sizes : Call → Option Sizes
own_sizes (Format D S allowance) = some (record { D = D; S = S })
own_sizes (Get key) = none
own_sizes (Put key value allowance) = none
own_sizes (Remove key allowance) = none
own_sizes (Merge key allowance) = none
own_sizes (Mend allowance) = none
own_sizes ListCall = none
own_sizes (ListBlock i) = none

-- The number of words, from word 0 on, that these D and S take, else those of word 0.
abbrev pub extent_of : List ℕ → Option Sizes → ℕ
extent_of a none = words_for (max_depth a) (segments a)
extent_of a (some s) = words_for s.D s.S

-- The number of words that a call may touch, from word 0 on.
abbrev pub extent : List ℕ → Call → ℕ
extent a c = extent_of a (own_sizes c)

-- The store is below the words that D and S take.
abbrev pub Below : (D S : ℕ) → Store → Type 0
Below D S s = s.at < words_for D S

-- The stores that are due by an effect.
abbrev pub due_by : Effect → List Store
due_by (changes allowance p) = p.due
due_by (answers w) = []

-- ---- The words that it looks at

-- Two arrays of the same length agree in the words that D and S of the first take.
pub record Agree (a b : List ℕ) : Type 0 where
  pub length_same : length a ≡ length b
  pub words_same : (i : ℕ) → i < words_for (max_depth a) (segments a) → word a i ≡ word b i

-- What two arrays share for a call to do the same on both: the words that D and S take, and the length; for a format, the
-- length alone.
abbrev pub AlikeFor : (a b : List ℕ) → Option Sizes → Type 0
AlikeFor a b none = Agree a b
AlikeFor a b (some s) = length a ≡ length b

-- The same by the call.
abbrev pub Alike : (a b : List ℕ) → Call → Type 0
Alike a b c = AlikeFor a b (own_sizes c)

-- The outcomes x on the array a and y on the array b say the same, after as many stores, and leave the same word wherever
-- a and b had the same.
pub record SameOutcome (a b : List ℕ) (x y : Outcome Said) : Type 0 where
  pub reply : x.reply ≡ y.reply
  pub made : x.made ≡ y.made
  pub words : (i : ℕ) → word a i ≡ word b i → word x.after i ≡ word y.after i

-- ---- Refusals, and a merge

-- The call has left the array as it was.
pub record Unchanged (a : List ℕ) (o : Outcome Said) : Type 0 where
  pub after : o.after ≡ a
  pub made : o.made ≡ 0

-- The bound on a merge's stores.
pub record MergeBound (a : List ℕ) (due : List Store) : Type 0 where
  pub by_depth : length due ≤ 128 + 2 ^ depth a
  pub most : length due ≤ 4224
