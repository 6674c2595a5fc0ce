-- Words written to a list one behind the other.
use Prim.Native.Nat.{ℕ, ◌+◌, ◌≤◌, ◌<◌}
use native.Mathlib.Nat.{add-zero, zero-add}
use native.Mathlib.Numerals.{add-one}
use native.Mathlib.Omega.{arith}
use mathlib.Core.Path.{◌≡◌, refl, sym, ap, ◌∙◌}
use mathlib.Core.List.{List, [], ◌∷◌, ◌++◌, append_assoc, append-nil}
use lib.ListN.{length, take, drop, set, length-append, length-drop, take-append-drop}
use lib.Seq.{length-take-le, sets-eq, take_at, drop_at, drop-append-add, drop-drop}
use Rattle.stores.specs.Written.{at_front, Written}

pub written_none : (at : ℕ) (l : List ℕ) → Written [] at l at l
written_none at l =
    record { behind = omega arith; list = rw (append-nil (take at l), add-zero at) (sym (take-append-drop at l)) }

pub written_one : (x at : ℕ) (l : List ℕ) → at < length l → Written (x ∷ []) at l (at + 1) (set l at x)
written_one x at l h = record { behind = refl; list = sets-eq (x ∷ []) l at (omega (arith, h)) }

pub written_pair : (x y at : ℕ) (l : List ℕ) → at + 2 ≤ length l → Written (x ∷ y ∷ []) at l (at + 2) (set (set l at x) (at + 1) y)
written_pair x y at l h = record { behind = refl; list = rw (add-one at) (sets-eq (x ∷ y ∷ []) l at h) }

-- The list afterwards, up to the position behind the words and from there on.
module _ (ws : List ℕ) (at : ℕ) (l : List ℕ) (next : ℕ) (l' : List ℕ) (h : at ≤ length l) (w : Written ws at l next l') where
  front_length : length (take at l ++ ws) ≡ next
  front_length = length-append (take at l) ws ∙ rw (length-take-le at l h) (sym w.behind)

  -- The words stand behind what stood before them.
  pub written_front : take next l' ≡ take at l ++ ws
  written_front = rw w.list (take_at (take at l ++ ws) (drop (at + length ws) l) next front_length)

  -- What stands behind the words is as it was.
  pub written_behind : drop next l' ≡ drop next l
  written_behind =
      ap (drop next) w.list
      ∙ drop_at (take at l ++ ws) (drop (at + length ws) l) next front_length
      ∙ ap (λ (k : ℕ). drop k l) (sym w.behind)

  -- They stand within the list.
  pub written_within : next ≤ length l'
  written_within =
      let whole : length l' ≡ length (take at l ++ ws) + length (drop (at + length ws) l) =
      ap length w.list ∙ length-append (take at l ++ ws) (drop (at + length ws) l) in
      let front : length (take at l ++ ws) ≡ next = front_length in
      omega arith

-- Words behind words.
pub written_append : (vs ws : List ℕ) (at : ℕ) (l : List ℕ) (m : ℕ) (l₁ : List ℕ) (n : ℕ) (l₂ : List ℕ) → at ≤ length l
    → Written vs at l m l₁ → Written ws m l₁ n l₂ → Written (vs ++ ws) at l n l₂
written_append vs ws at l m l₁ n l₂ h p q =
    let front : List ℕ = take at l ++ vs in
    let back : List ℕ = drop (at + length vs) l in
    let m' : m ≡ length front = sym (front_length vs at l m l₁ h p) in
    let long : at + length vs + length ws ≡ at + length (vs ++ ws) = rw (length-append vs ws) (omega arith) in
    let kept : take m l₁ ≡ front = written_front vs at l m l₁ h p in
    let left : drop (m + length ws) l₁ ≡ drop (at + length (vs ++ ws)) l =
    rw (p.list, m') (drop-append-add front back (length ws))
    ∙ drop-drop (length ws) (at + length vs) l
    ∙ ap (λ (k : ℕ). drop k l) long in
    record {
      behind = rw (length-append vs ws) (omega (arith, p.behind, q.behind));
      list = q.list ∙ rw (kept, left, append_assoc (take at l) vs ws);
    }

-- ---- Words in front

-- Words written from position 0 on stand in front.
pub written_at_front : (ws l : List ℕ) (next : ℕ) (l' : List ℕ) → Written ws 0 l next l' → l' ≡ at_front ws l
written_at_front ws l next l' w = w.list ∙ ap (λ (i : ℕ). ws ++ drop i l) (zero-add (length ws))

-- They are read back from there.
pub at_front_words : (ws l : List ℕ) → take (length ws) (at_front ws l) ≡ ws
at_front_words ws l = take_at ws (drop (length ws) l) (length ws) refl

-- Where they fit, the list keeps its length.
pub at_front_length : (ws l : List ℕ) → length ws ≤ length l → length (at_front ws l) ≡ length l
at_front_length ws l h = length-append ws (drop (length ws) l) ∙ rw (length-drop (length ws) l) (omega arith)
