-- The call of a letter and numbers: what the numbers are, and which are too few or too many.
use Rattle.std.proofs.Common.{◌≡◌, ◌⊎◌, ℕ, ◌<◌, ◌≤◌, List, [], ◌∷◌, length, get_or, refl, sym, arith}
use Rattle.std.proofs.Math.Option.{none}
use borrow.Author.Tests.{ne_eqb}
use Rattle.desk_text.specs.Line.{letter_format, letter_put, letter_get, letter_remove, letter_mend, letter_list, call_with}

-- Numbers of which there are so many, one by one.
pub no_numbers : (ns : List ℕ) → length ns < 1 → ns ≡ []
no_numbers [] h = refl
no_numbers (x ∷ ns) h = absurd (omega arith)

pub one_number : (ns : List ℕ) → 1 ≤ length ns → length ns < 2 → ns ≡ get_or ns 0 0 ∷ []
one_number [] h k = absurd (omega arith)
one_number (x ∷ []) h k = refl
one_number (x ∷ y ∷ ns) h k = absurd (omega arith)

pub two_numbers : (ns : List ℕ) → 2 ≤ length ns → length ns < 3 → ns ≡ get_or ns 0 0 ∷ get_or ns 1 0 ∷ []
two_numbers [] h k = absurd (omega arith)
two_numbers (x ∷ []) h k = absurd (omega arith)
two_numbers (x ∷ y ∷ []) h k = refl
two_numbers (x ∷ y ∷ z ∷ ns) h k = absurd (omega arith)

pub three_numbers : (ns : List ℕ) → 3 ≤ length ns → length ns < 4 → ns ≡ get_or ns 0 0 ∷ get_or ns 1 0 ∷ get_or ns 2 0 ∷ []
three_numbers [] h k = absurd (omega arith)
three_numbers (x ∷ []) h k = absurd (omega arith)
three_numbers (x ∷ y ∷ []) h k = absurd (omega arith)
three_numbers (x ∷ y ∷ z ∷ []) h k = refl
three_numbers (x ∷ y ∷ z ∷ w ∷ ns) h k = absurd (omega arith)

-- No letter has a call with another number of numbers than its own.
pub other_count : (c : ℕ) (ns : List ℕ) → (c ≡ letter_list → length ns ≡ 0 → ⊥) → (c ≡ letter_get → length ns ≡ 1 → ⊥)
    → (c ≡ letter_mend → length ns ≡ 1 → ⊥) → (c ≡ letter_remove → length ns ≡ 2 → ⊥) → (c ≡ letter_format → length ns ≡ 3 → ⊥)
    → (c ≡ letter_put → length ns ≡ 3 → ⊥) → none ≡ call_with c ns
unfolding call_with
other_count c [] l g m r f p = rw (ne_eqb c letter_list (λ e. l e refl))
other_count c (x ∷ []) l g m r f p = rw (ne_eqb c letter_get (λ e. g e refl), ne_eqb c letter_mend (λ e. m e refl))
other_count c (x ∷ y ∷ []) l g m r f p = rw (ne_eqb c letter_remove (λ e. r e refl))
other_count c (x ∷ y ∷ z ∷ []) l g m r f p = rw (ne_eqb c letter_format (λ e. f e refl), ne_eqb c letter_put (λ e. p e refl))
other_count c (x ∷ y ∷ z ∷ w ∷ ns) l g m r f p = refl

-- A letter with a call of three numbers has none with another number of them; and so on.
pub only_three : (c : ℕ) → (c ≡ letter_format) ⊎ (c ≡ letter_put) → (ns : List ℕ) → (length ns ≡ 3 → ⊥) → call_with c ns ≡ none
only_three c which ns n =
    sym (other_count c ns (λ l k. absurd (omega (arith, which, l))) (λ l k. absurd (omega (arith, which, l))) (λ l k. absurd (omega (arith, which, l))) (λ l k. absurd (omega (arith, which, l))) (λ l k. n k) (λ l k. n k))

pub only_two : (c : ℕ) → c ≡ letter_remove → (ns : List ℕ) → (length ns ≡ 2 → ⊥) → call_with c ns ≡ none
only_two c which ns n =
    sym (other_count c ns (λ l k. absurd (omega (arith, which, l))) (λ l k. absurd (omega (arith, which, l))) (λ l k. absurd (omega (arith, which, l))) (λ l k. n k) (λ l k. absurd (omega (arith, which, l))) (λ l k. absurd (omega (arith, which, l))))

pub only_one : (c : ℕ) → (c ≡ letter_get) ⊎ (c ≡ letter_mend) → (ns : List ℕ) → (length ns ≡ 1 → ⊥) → call_with c ns ≡ none
only_one c which ns n =
    sym (other_count c ns (λ l k. absurd (omega (arith, which, l))) (λ l k. n k) (λ l k. n k) (λ l k. absurd (omega (arith, which, l))) (λ l k. absurd (omega (arith, which, l))) (λ l k. absurd (omega (arith, which, l))))

pub only_no_number : (c : ℕ) → c ≡ letter_list → (ns : List ℕ) → (length ns ≡ 0 → ⊥) → call_with c ns ≡ none
only_no_number c which ns n =
    sym (other_count c ns (λ l k. n k) (λ l k. absurd (omega (arith, which, l))) (λ l k. absurd (omega (arith, which, l))) (λ l k. absurd (omega (arith, which, l))) (λ l k. absurd (omega (arith, which, l))) (λ l k. absurd (omega (arith, which, l))))
