-- The call of a line's fields, taken one after the other.
use Rattle.std.proofs.Common.{eqb, ◌≡◌, ◌⊎◌, ℕ, ◌^◌, ◌<◌, ◌≤◌, List, [], ◌∷◌, length, get_or, refl, sym, ap, ◌∙◌, arith}
use Rattle.std.proofs.Math.Option.{Option, none, some}
use mathlib.Core.Logic.{inl, inr}
use borrow.Author.Tests.{lt-ltb, le-ltb, ne_eqb}
use Rattle.index_rules.specs.declared.Call.TheVariants.{Format, Put, Remove, Mend}
use Rattle.stores.proofs.Tests.{by_test}
use Rattle.text.specs.Parts.{tab, started_by, parts, fields_of}
use Rattle.text.specs.Number.{number}
use Rattle.desk_text.specs.Line.{letter_format, letter_put, letter_get, letter_remove, letter_mend, letter_list, Spoken, spoken, both, numbers_of, allowed, call_with, called_with, call_of_fields, call_of}
use Rattle.desk_text.specs.Fields.{NumberTaken, CallTaken, if_last}
use Rattle.desk_text.proofs.Held.{number_first, no_number_first}

-- What a rule gives for numbers, where all of them are there.
unfoldable pub after : (List ℕ → Option Spoken) → Option (List ℕ) → Option Spoken
after rule none = none
after rule (some ns) = rule ns

pub called_after : (c : ℕ) (o : Option (List ℕ)) → called_with c o ≡ after (call_with c) o
unfolding called_with after
called_after c none = refl
called_after c (some ns) = refl

-- A rule that gives nothing, whatever the numbers.
pub never : (rule : List ℕ → Option Spoken) (o : Option (List ℕ)) → ((ns : List ℕ) → rule ns ≡ none) → after rule o ≡ none
unfolding after
never rule none h = refl
never rule (some ns) h = h ns

-- The first field has been read.
pub number_taken : (fields later : List (List ℕ)) (field : List ℕ) (r : Option ℕ) → fields ≡ field ∷ later → r ≡ number field
    → NumberTaken fields r later
number_taken fields later field none e r = inr (field, later, e, sym r)
number_taken fields later field (some n) e r = (field, e, sym r)

-- There is no number where the rule asks for one: no field is left, or some field is no number.
pub stopped_without : (rule : List ℕ → Option Spoken) (fields : List (List ℕ)) → (fields ≡ []) ⊎ (numbers_of fields ≡ none) → rule [] ≡ none
    → after rule (numbers_of fields) ≡ none
unfolding after numbers_of
stopped_without rule fields (inl empty) h = rw empty h
stopped_without rule fields (inr no_number) h = rw no_number refl

-- No field is left, or the first is no number: so too.
pub stopped : (rule : List ℕ → Option Spoken) (fields : List (List ℕ)) → NumberTaken fields none [] → rule [] ≡ none
    → after rule (numbers_of fields) ≡ none
stopped rule fields (inl empty) h = stopped_without rule fields (inl empty) h
stopped rule fields (inr refused) h =
    stopped_without rule fields (inr (no_number_first fields refused.1 refused.0 refused.2 (sym refused.3))) h

module _ (rule : List ℕ → Option Spoken) (fields later : List (List ℕ)) where
  -- A number in front of those of later fields: the rule is left for the numbers behind it.
  pub taken_before : (n : ℕ) → numbers_of fields ≡ both (some n) (numbers_of later)
      → after rule (numbers_of fields) ≡ after (λ ns. rule (n ∷ ns)) (numbers_of later)
  unfolding after both
  taken_before n e = rw e (behind (numbers_of later))
    where
      behind : (o : Option (List ℕ)) → after rule (both (some n) o) ≡ after (λ ns. rule (n ∷ ns)) o
      behind none = refl
      behind (some ns) = refl

  -- A number has been taken: so too.
  pub taken : (n : ℕ) → NumberTaken fields (some n) later → after rule (numbers_of fields) ≡ after (λ ns. rule (n ∷ ns)) (numbers_of later)
  taken n t = taken_before n (number_first fields later t.0 n t.1 (sym t.2))

-- The rule asks for no number more.
pub last : (rule : List ℕ → Option Spoken) (fields : List (List ℕ)) (line : Spoken) → rule [] ≡ some line
    → ((n : ℕ) (ns : List ℕ) → rule (n ∷ ns) ≡ none) → after rule (numbers_of fields) ≡ if_last line fields
unfolding after numbers_of both
last rule [] line h k = h
last rule (field ∷ fields) line h k = more (number field) (numbers_of fields)
  where
    more : (n : Option ℕ) (o : Option (List ℕ)) → after rule (both n o) ≡ none
    more none o = refl
    more (some n) none = refl
    more (some n) (some ns) = k n ns

-- The call has been made of the numbers that the rule asks for: it is the line's, if no field is left.
pub made : (letter : ℕ) (fields : List (List ℕ)) (rule : List ℕ → Option Spoken) (later : List (List ℕ)) (line : Option Spoken)
    → called_with letter (numbers_of fields) ≡ after rule (numbers_of later) → line ≡ rule []
    → ((n : ℕ) (ns : List ℕ) → rule (n ∷ ns) ≡ none) → CallTaken letter fields line later
made letter fields rule later none e h k = e ∙ never rule (numbers_of later) nothing
  where
    nothing : (ns : List ℕ) → rule ns ≡ none
    nothing [] = sym h
    nothing (n ∷ ns) = k n ns
made letter fields rule later (some line) e h k = e ∙ last rule later line (sym h) k

-- ---- The letters' rules: no number more, an allowance that is none, and the call

pub list_ends : (n : ℕ) (ns : List ℕ) → call_with letter_list (n ∷ ns) ≡ none
unfolding call_with
list_ends n [] = refl
list_ends n (a ∷ []) = refl
list_ends n (a ∷ b ∷ []) = refl
list_ends n (a ∷ b ∷ d ∷ ns) = refl

pub get_ends : (key n : ℕ) (ns : List ℕ) → call_with letter_get (key ∷ n ∷ ns) ≡ none
unfolding call_with
get_ends key n [] = refl
get_ends key n (a ∷ []) = refl
get_ends key n (a ∷ b ∷ ns) = refl

pub mend_ends : (allowance n : ℕ) (ns : List ℕ) → call_with letter_mend (allowance ∷ n ∷ ns) ≡ none
unfolding call_with
mend_ends allowance n [] = refl
mend_ends allowance n (a ∷ []) = refl
mend_ends allowance n (a ∷ b ∷ ns) = refl

pub mend_large : (n : ℕ) (ns : List ℕ) → 2 ^ 32 ≤ n → call_with letter_mend (n ∷ ns) ≡ none
unfolding call_with allowed
mend_large n [] h = rw (le-ltb n (2 ^ 32) h)
mend_large n (a ∷ ns) h = mend_ends n a ns

pub mend_called : (n : ℕ) → n < 2 ^ 32 → call_with letter_mend (n ∷ []) ≡ some (spoken letter_mend (Mend n))
unfolding call_with allowed
mend_called n h = rw (lt-ltb n (2 ^ 32) h)

pub remove_ends : (key allowance n : ℕ) (ns : List ℕ) → call_with letter_remove (key ∷ allowance ∷ n ∷ ns) ≡ none
unfolding call_with
remove_ends key allowance n [] = refl
remove_ends key allowance n (a ∷ ns) = refl

pub remove_large : (key n : ℕ) (ns : List ℕ) → 2 ^ 32 ≤ n → call_with letter_remove (key ∷ n ∷ ns) ≡ none
unfolding call_with allowed
remove_large key n [] h = rw (le-ltb n (2 ^ 32) h)
remove_large key n (a ∷ ns) h = remove_ends key n a ns

pub remove_called : (key n : ℕ) → n < 2 ^ 32 → call_with letter_remove (key ∷ n ∷ []) ≡ some (spoken letter_remove (Remove key n))
unfolding call_with allowed
remove_called key n h = rw (lt-ltb n (2 ^ 32) h)

pub three_end : (c x y z n : ℕ) (ns : List ℕ) → call_with c (x ∷ y ∷ z ∷ n ∷ ns) ≡ none
unfolding call_with
three_end c x y z n ns = refl

pub format_large : (depth segments n : ℕ) (ns : List ℕ) → 2 ^ 32 ≤ n → call_with letter_format (depth ∷ segments ∷ n ∷ ns) ≡ none
unfolding call_with allowed
format_large depth segments n [] h = rw (le-ltb n (2 ^ 32) h)
format_large depth segments n (a ∷ ns) h = refl

pub format_called : (depth segments n : ℕ) → n < 2 ^ 32
    → call_with letter_format (depth ∷ segments ∷ n ∷ []) ≡ some (spoken letter_format (Format depth segments n))
unfolding call_with allowed
format_called depth segments n h = rw (lt-ltb n (2 ^ 32) h)

pub put_large : (key value n : ℕ) (ns : List ℕ) → 2 ^ 32 ≤ n → call_with letter_put (key ∷ value ∷ n ∷ ns) ≡ none
unfolding call_with allowed
put_large key value n [] h = rw (le-ltb n (2 ^ 32) h)
put_large key value n (a ∷ ns) h = refl

pub put_called : (key value n : ℕ) → n < 2 ^ 32 → call_with letter_put (key ∷ value ∷ n ∷ []) ≡ some (spoken letter_put (Put key value n))
unfolding call_with allowed
put_called key value n h = rw (lt-ltb n (2 ^ 32) h)

pub no_letter : (c : ℕ) → (c ≡ letter_format → ⊥) → (c ≡ letter_put → ⊥) → (c ≡ letter_remove → ⊥) → (c ≡ letter_get → ⊥) → (c ≡ letter_mend → ⊥)
    → (c ≡ letter_list → ⊥) → (ns : List ℕ) → call_with c ns ≡ none
unfolding call_with
no_letter c f p r g m l [] = rw (ne_eqb c letter_list l)
no_letter c f p r g m l (a ∷ []) = rw (ne_eqb c letter_get g, ne_eqb c letter_mend m)
no_letter c f p r g m l (a ∷ b ∷ []) = rw (ne_eqb c letter_remove r)
no_letter c f p r g m l (a ∷ b ∷ d ∷ []) = rw (ne_eqb c letter_format f, ne_eqb c letter_put p)
no_letter c f p r g m l (a ∷ b ∷ d ∷ e ∷ ns) = refl

-- No field is left behind the call's own, or one is.
pub none_behind : (line : Spoken) (later : List (List ℕ)) → later ≡ [] → some line ≡ if_last line later
none_behind line later e = rw e refl

pub some_behind : (line : Spoken) (field : List ℕ) (fields later : List (List ℕ)) → later ≡ field ∷ fields → none ≡ if_last line later
some_behind line field fields later e = rw e refl

-- ---- The first field

pub fields_call : (line : List ℕ) (fields : List (List ℕ)) → fields ≡ parts tab line → call_of_fields fields ≡ call_of line
unfolding call_of fields_of
fields_call line fields e = ap call_of_fields e

pub no_fields : none ≡ call_of_fields []
unfolding call_of_fields
no_fields = refl

pub not_a_letter : (field : List ℕ) (later : List (List ℕ)) → (length field ≡ 1 → ⊥) → none ≡ call_of_fields (field ∷ later)
unfolding call_of_fields
not_a_letter [] later n = refl
not_a_letter (c ∷ []) later n = absurd (n refl)
not_a_letter (c ∷ d ∷ cs) later n = refl

pub letter_first : (field : List ℕ) (later : List (List ℕ)) → 1 ≤ length field → length field < 2
    → called_with (get_or field 0 0) (numbers_of later) ≡ call_of_fields (field ∷ later)
unfolding call_of_fields
letter_first [] later h k = absurd (omega arith)
letter_first (c ∷ []) later h k = refl
letter_first (c ∷ d ∷ cs) later h k = absurd (omega arith)

-- A line with another byte than a tab behind its first one.
pub untabbed : (line : List ℕ) → 1 < length line → (get_or line 1 0 ≡ tab → ⊥) → call_of line ≡ none
unfolding call_of fields_of parts started_by call_of_fields
untabbed [] h n = absurd (omega arith)
untabbed (c ∷ []) h n = absurd (omega arith)
untabbed (c ∷ d ∷ xs) h n =
    rw (ne_eqb d tab n)
    (by_test (eqb c tab)
    (λ t. rw t)
    (λ t. rw t (started_twice c d (parts tab xs))))
  where
    started_twice : (c d : ℕ) (ps : List (List ℕ)) → call_of_fields (started_by c (started_by d ps)) ≡ none
    started_twice c d [] = refl
    started_twice c d (p ∷ ps) = refl
