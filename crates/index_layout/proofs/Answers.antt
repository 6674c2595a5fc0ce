-- What each answer of the layout's functions tells its caller.
use mathlib.Core.Path.{◌≡◌, refl}
use mathlib.Core.Bool.{Bool, true, false}
use mathlib.Core.List.{List, [], ◌∷◌}
use Prim.Native.Nat.{ℕ}
use native.Mathlib.Omega.{arith}
use Rattle.stores.specs.Lists.{pick}
use Rattle.index_rules.specs.Layout.{valid_header, depth, max_depth, segments, segment_of, local_depth}
use Rattle.index_rules.specs.Scan.{in_range}
use Rattle.std.specs.Prelude.{Result, Ok, Err}
use Rattle.replies.specs.declared.Refusal.{Refusal}
use Rattle.replies.specs.declared.Refusal.TheVariants.{NoStore, NoKey, Broken, Unmended, TooDeep, NoSegment, CutOff, BadShape, TooShort, ShortList, BadYear, BadMonth, BadNumber, NoBuddy, BothLive, NoLeader}
use Rattle.replies.specs.Replies.{done, refused, number_of}
use Rattle.index_layout.specs.declared.header.Header.{Header}
use Rattle.index_layout.specs.declared.entry.Entry.{Entry}
use Rattle.index_layout.specs.Headers.{header_said, header_of, Describes}
use Rattle.index_layout.specs.Entries.{entry_said, entry_of}

-- A reply that is given where a test holds, and else a refusal.
given : (t : Bool) (xs ys : List ℕ) (n : ℕ) → done xs ≡ pick t (done ys) (refused n) → (t ≡ true) × (xs ≡ ys)
given true xs ys n e = (refl, cc)
given false xs ys n e = cc

not_given : (t : Bool) (ys : List ℕ) (m n : ℕ) → refused m ≡ pick t (done ys) (refused n) → (t ≡ false) × (m ≡ n)
not_given true ys m n e = cc
not_given false ys m n e = (refl, cc)

-- The refusals with the numbers 1 and 3.
pub number_1 : (r : Refusal) → number_of r ≡ 1 → r ≡ NoStore
number_1 NoStore e = refl
number_1 NoKey e = absurd (omega arith)
number_1 Broken e = absurd (omega arith)
number_1 Unmended e = absurd (omega arith)
number_1 TooDeep e = absurd (omega arith)
number_1 NoSegment e = absurd (omega arith)
number_1 CutOff e = absurd (omega arith)
number_1 BadShape e = absurd (omega arith)
number_1 TooShort e = absurd (omega arith)
number_1 ShortList e = absurd (omega arith)
number_1 BadYear e = absurd (omega arith)
number_1 BadMonth e = absurd (omega arith)
number_1 BadNumber e = absurd (omega arith)
number_1 NoBuddy e = absurd (omega arith)
number_1 BothLive e = absurd (omega arith)
number_1 NoLeader e = absurd (omega arith)

pub number_3 : (r : Refusal) → number_of r ≡ 3 → r ≡ Broken
number_3 NoStore e = absurd (omega arith)
number_3 NoKey e = absurd (omega arith)
number_3 Broken e = refl
number_3 Unmended e = absurd (omega arith)
number_3 TooDeep e = absurd (omega arith)
number_3 NoSegment e = absurd (omega arith)
number_3 CutOff e = absurd (omega arith)
number_3 BadShape e = absurd (omega arith)
number_3 TooShort e = absurd (omega arith)
number_3 ShortList e = absurd (omega arith)
number_3 BadYear e = absurd (omega arith)
number_3 BadMonth e = absurd (omega arith)
number_3 BadNumber e = absurd (omega arith)
number_3 NoBuddy e = absurd (omega arith)
number_3 BothLive e = absurd (omega arith)
number_3 NoLeader e = absurd (omega arith)

-- ---- Word 0

module _ (a : List ℕ) (r : Result Header Refusal) (e : header_said r ≡ header_of a) where
  pub header_valid : (h : Header) → r ≡ Ok h → Describes h a
  unfolding header_of
  header_valid h q =
      let g = given (valid_header a) (h.depth ∷ h.max_depth ∷ h.segments ∷ []) (depth a ∷ max_depth a ∷ segments a ∷ []) 1 (rw q at e) in
      let l : h.depth ∷ h.max_depth ∷ h.segments ∷ [] ≡ depth a ∷ max_depth a ∷ segments a ∷ [] = g.1 in
      record { valid = g.0; depth_read = cc; max_depth_read = cc; segments_read = cc }

  pub header_not_valid : (x : Refusal) → r ≡ Err x → valid_header a ≡ false
  unfolding header_of
  header_not_valid x q = (not_given (valid_header a) (depth a ∷ max_depth a ∷ segments a ∷ []) (number_of x) 1 (rw q at e)).0

  -- The only refusal is that the array is no store.
  pub header_refused : (x : Refusal) → r ≡ Err x → x ≡ NoStore
  unfolding header_of
  header_refused x q = number_1 x (not_given (valid_header a) (depth a ∷ max_depth a ∷ segments a ∷ []) (number_of x) 1 (rw q at e)).1

-- ---- An entry

-- The entry e is in range, with segment s and local depth L.
pub record Opened (g S e s L : ℕ) : Type 0 where
  pub range : in_range g S e ≡ true
  pub segment_is : segment_of e ≡ s
  pub depth_is : local_depth e ≡ L

module _ (g S e : ℕ) (r : Result Entry Refusal) (h : entry_said r ≡ entry_of g S e) where
  pub entry_at_holds : (x : Entry) → r ≡ Ok x → Opened g S e x.segment x.depth
  unfolding entry_of
  entry_at_holds x q =
      let o = given (in_range g S e) (x.segment ∷ x.depth ∷ []) (segment_of e ∷ local_depth e ∷ []) 3 (rw q at h) in
      let l : x.segment ∷ x.depth ∷ [] ≡ segment_of e ∷ local_depth e ∷ [] = o.1 in
      record { range = o.0; segment_is = cc; depth_is = cc }

  pub entry_broken : (x : Refusal) → r ≡ Err x → in_range g S e ≡ false
  unfolding entry_of
  entry_broken x q = (not_given (in_range g S e) (segment_of e ∷ local_depth e ∷ []) (number_of x) 3 (rw q at h)).0

  -- The only refusal is that the entry is broken.
  pub entry_refused : (x : Refusal) → r ≡ Err x → x ≡ Broken
  unfolding entry_of
  entry_refused x q = number_3 x (not_given (in_range g S e) (segment_of e ∷ local_depth e ∷ []) (number_of x) 3 (rw q at h)).1
