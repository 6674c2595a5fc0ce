-- The lines of a script, one after the other.
use Prim.Native.Nat.{ℕ, suc, ◌+◌, ◌*◌, ◌≤◌}
use mathlib.Core.Path.{◌≡◌, refl, sym, ap, ◌∙◌}
use mathlib.Core.Bool.{Bool, true, false, not, false≢true}
use mathlib.Core.List.{List, [], ◌∷◌}
use native.Mathlib.Omega.{arith}
use borrow.Author.Tests.{ne_eqb}
use denote.Param.Members.{Mut}
use denote.Ref.{Bor}
use lib.Dec.{eqb}
use lib.ListN.{length}
use Rattle.std.specs.Prelude.{Option, Some, None}
use Rattle.std.specs.Fn.{CalledAt}
use Rattle.std.specs.Iterator.{Yields, YieldsFirstRef, FindsItem}
use Rattle.std.specs.List.{FoldsTo}
use Rattle.stores.proofs.Tests.{by_test}
use Rattle.text.specs.declared.parts.Parts.{Parts}
use Rattle.text.specs.Parts.{line_feed, started_by, parts, nonempty, lines_of}
use Rattle.text.specs.Left.{parts_left}

pub lines_none : lines_of [] ≡ []
unfolding lines_of parts nonempty
lines_none = refl

-- ---- The first part that has a byte

nonempty_skip : (p : List ℕ) (ps : List (List ℕ)) → false ≡ not (eqb (length p) 0) → nonempty (p ∷ ps) ≡ nonempty ps
unfolding nonempty
nonempty_skip [] ps e = refl
nonempty_skip (x ∷ p) ps e = absurd (false≢true (rw (ne_eqb (suc (length p)) 0 (omega arith)) at e))

nonempty_here : (p : List ℕ) (ps : List (List ℕ)) → true ≡ not (eqb (length p) 0) → nonempty (p ∷ ps) ≡ p ∷ nonempty ps
unfolding nonempty
nonempty_here [] ps e = absurd (false≢true (sym e))
nonempty_here (x ∷ p) ps e = refl

-- The library's search for a part, by a closure that asks whether it has a byte.
module _ {F : Type 0} (g : Mut F (Bor (Bor (List ℕ)) × Unit {0}) Bool) (f : F)
    (asks : (x : Bor (List ℕ)) (b : Bool) (q : F) → CalledAt g f x b q → (q ≡ f) × (b ≡ not (eqb (length x.now) 0)))
  where
    passed_over : (xs : List (Bor (List ℕ))) (s t : Parts) (p j : F) → p ≡ f → Yields (YieldsFirstRef parts_left) s xs t
        → FoldsTo (λ p x q. CalledAt g p x false q) p xs j → (nonempty (parts_left s) ≡ nonempty (parts_left t)) × (j ≡ f)
    passed_over [] s t p j e y c = (ap (λ u. nonempty (parts_left u)) y, sym c ∙ e)
    passed_over (x ∷ xs) s t p j e y c =
        let asked = asks x false c.0 (rw e at c.1) in
        let later = passed_over xs y.0 t c.0 j asked.0 y.2 c.2 in
        (rw y.1 (nonempty_skip x.now (parts_left y.0) asked.1) ∙ later.0, later.1)

    pub first_with_byte : (s : Parts) (r : Option (Bor (List ℕ))) (u : Parts) → FindsItem (YieldsFirstRef parts_left) g s f r u
        → YieldsFirstRef (λ p. nonempty (parts_left p)) s r u
    unfolding nonempty
    first_with_byte s None u found =
        let before = passed_over found.0 s found.2.0 f found.1 refl found.2.1 found.3 in
        (before.0 ∙ rw found.2.2.0, rw found.2.2.1)
    first_with_byte s (Some x) u found =
        let before = passed_over found.0 s found.2.0 f found.1 refl found.2.1 found.3 in
        let asked = asks x true found.4.0 (rw before.1 at found.4.1) in
        before.0 ∙ rw found.2.2 (nonempty_here x.now (parts_left u) asked.1)

-- ---- How many lines there are

-- 1 where the first part is empty.
abbrev first_empty : List (List ℕ) → ℕ
first_empty [] = 0
first_empty ([] ∷ ps) = 1
first_empty ((x ∷ p) ∷ ps) = 0

started_few : (x n : ℕ) (ps : List (List ℕ)) → 2 * length (nonempty ps) + first_empty ps ≤ n + 1
    → 2 * length (nonempty (started_by x ps)) + first_empty (started_by x ps) ≤ suc n + 1
unfolding nonempty started_by
started_few x n [] h = omega arith
started_few x n ([] ∷ ps) h = omega arith
started_few x n ((y ∷ p) ∷ ps) h = omega arith

parts_few : (xs : List ℕ) → 2 * length (nonempty (parts line_feed xs)) + first_empty (parts line_feed xs) ≤ length xs + 1
unfolding nonempty parts
parts_few [] = omega arith
parts_few (x ∷ xs) =
    by_test (eqb x line_feed)
    (λ e. rw e (omega (arith, parts_few xs)))
    (λ e. rw e (started_few x (length xs) (parts line_feed xs) (parts_few xs)))

-- Lines are parted by line feeds and none is empty, so twice their number is at most one more than the bytes.
pub lines_few : (script : List ℕ) → 2 * length (lines_of script) ≤ length script + 1
unfolding lines_of
lines_few script = omega (arith, parts_few script)
