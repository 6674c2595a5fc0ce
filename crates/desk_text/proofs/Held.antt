-- The numbers of a line's fields as a value.
use Rattle.std.proofs.Common.{◌≡◌, ℕ, List, [], ◌∷◌, refl}
use Rattle.std.proofs.Math.Option.{Option, none, some}
use Rattle.text.specs.Number.{number}
use Rattle.desk_text.specs.Line.{both, numbers_of, call_with, called_with}

-- No field is left.
pub none_left : (fields : List (List ℕ)) → fields ≡ [] → numbers_of fields ≡ some []
unfolding numbers_of
none_left fields e = rw e refl

-- The first field is a number, or none.
pub number_first : (fields later : List (List ℕ)) (field : List ℕ) (n : ℕ) → fields ≡ field ∷ later → some n ≡ number field
    → numbers_of fields ≡ both (some n) (numbers_of later)
unfolding numbers_of
number_first fields later field n e r = rw (e, ← r) refl

pub no_number_first : (fields later : List (List ℕ)) (field : List ℕ) → fields ≡ field ∷ later → none ≡ number field → numbers_of fields ≡ none
unfolding numbers_of both
no_number_first fields later field e r = rw (e, ← r) refl

pub field_first : (fields later : List (List ℕ)) (field : List ℕ) → fields ≡ field ∷ later
    → numbers_of fields ≡ both (number field) (numbers_of later)
unfolding numbers_of
field_first fields later field e = rw e refl

-- Numbers behind it, or none.
pub in_front : (n : ℕ) (o : Option (List ℕ)) (ns : List ℕ) → o ≡ some ns → both (some n) o ≡ some (n ∷ ns)
unfolding both
in_front n o ns e = rw e refl

pub none_behind_it : (n : ℕ) (o : Option (List ℕ)) → o ≡ none → both (some n) o ≡ none
unfolding both
none_behind_it n o e = rw e refl

-- Where some field is no number, no letter has a call.
pub uncalled : (o : Option (List ℕ)) → o ≡ none → (letter : ℕ) → called_with letter o ≡ none
unfolding called_with
uncalled o e letter = rw e refl

-- No letter has a call with four numbers.
pub four_uncalled : (o later : Option (List ℕ)) (x y z : ℕ) (n : Option ℕ) → o ≡ both (some x) (both (some y) (both (some z) (both n later)))
    → (letter : ℕ) → called_with letter o ≡ none
unfolding called_with call_with both
four_uncalled o later x y z n e letter = rw e (more n later)
  where
    more : (n : Option ℕ) (later : Option (List ℕ)) → called_with letter (both (some x) (both (some y) (both (some z) (both n later)))) ≡ none
    more none later = refl
    more (some n) none = refl
    more (some n) (some ns) = refl

-- The numbers that are held make the call of the fields.
pub called_held : (letter : ℕ) (o : Option (List ℕ)) (ns : List ℕ) → o ≡ some ns → called_with letter o ≡ call_with letter ns
unfolding called_with
called_held letter o ns e = rw e refl
