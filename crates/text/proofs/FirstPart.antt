-- A text in parts: the first one, and those behind it.
use Rattle.std.proofs.Common.{◌≡◌, ℕ, suc, ◌+◌, ◌-◌, ◌<◌, ◌≤◌, List, [], ◌∷◌, cond, eqb, ltb, length, take, drop, refl, sym, ap, arith, length-drop, Some, None}
use borrow.Author.Tests.{ltb-true, ltb-false}
use lib.Seq.{take_all}
use Rattle.std.specs.List.{position_or_len, prefix_len}
use Rattle.stores.proofs.Tests.{by_test}
use Rattle.text.specs.Parts.{started_by, parts}

-- Where the first byte b stands; the text's length where it has none.
abbrev pub first_at : (b : ℕ) → List ℕ → ℕ
first_at b xs = position_or_len (λ x. eqb x b) xs

-- A text without the byte is one part.
pub parts_one : (b : ℕ) (xs : List ℕ) → length xs ≤ first_at b xs → parts b xs ≡ xs ∷ []
unfolding parts started_by
parts_one b [] h = refl
parts_one b (x ∷ xs) h =
    by_test (eqb x b)
    (λ t. let none_before : length (x ∷ xs) ≤ 0 = rw t at h in absurd (omega arith))
    (λ t.
    let behind : suc (length xs) ≤ 1 + first_at b xs = rw t at h in
    rw t (ap (started_by x) (parts_one b xs (omega arith))))

-- Else the first part goes up to the first such byte, and the others come behind it.
pub parts_more : (b : ℕ) (xs : List ℕ) → first_at b xs < length xs
    → parts b xs ≡ take (first_at b xs) xs ∷ parts b (drop (first_at b xs + 1) xs)
unfolding parts started_by
parts_more b [] h = absurd (omega arith)
parts_more b (x ∷ xs) h =
    by_test (eqb x b)
    (λ t. rw t)
    (λ t.
    let behind : 1 + first_at b xs < suc (length xs) = rw t at h in
    let one : 1 + first_at b xs ≡ suc (first_at b xs) = omega arith in
    let two : suc (first_at b xs) + 1 ≡ suc (first_at b xs + 1) = omega arith in
    rw (t, one, two) (ap (started_by x) (parts_more b xs (omega arith))))

-- What the library's search for the byte answers.
abbrev pub Found : (b : ℕ) (xs : List ℕ) → Rattle.std.specs.Prelude.Option ℕ → Type 0
Found b xs r = r ≡ cond (ltb (first_at b xs) (length xs)) (Some (first_at b xs)) None

-- What a search answers that compares where it came to, i, with the length n.
pub found_none : (i n : ℕ) → None ≡ cond (ltb i n) (Some i) None → n ≤ i
found_none i n f =
    by_test (ltb i n)
    (λ t. let clash = rw t at f in absurd (some_none (sym clash)))
    (λ t. ltb-false _ _ t)
  where
    some_none : {m : ℕ} → Some m ≡ None → ⊥
    some_none e = cc

pub found_some : (i n end : ℕ) → Some end ≡ cond (ltb i n) (Some i) None → (end ≡ i) × (i < n)
found_some i n end f =
    by_test (ltb i n)
    (λ t. let same = rw t at f in (some_same same, ltb-true _ _ t))
    (λ t. let clash = rw t at f in absurd (some_none clash))
  where
    some_none : {m : ℕ} → Some m ≡ None → ⊥
    some_none e = cc

    some_same : {m k : ℕ} → Some m ≡ Some k → m ≡ k
    some_same e = cc

pub part_alone : (b : ℕ) (xs : List ℕ) → Found b xs None → parts b xs ≡ xs ∷ []
part_alone b xs f = parts_one b xs (found_none _ _ f)

pub part_first : (b : ℕ) (xs : List ℕ) (end : ℕ) → Found b xs (Some end)
    → parts b xs ≡ take end xs ∷ parts b (take (length xs - (end + 1)) (drop (end + 1) xs))
part_first b xs end f =
    let found = found_some _ _ end f in
    let same : end ≡ first_at b xs = found.0 in
    let within : length (drop (end + 1) xs) ≤ length xs - (end + 1) = simp length-drop (omega arith) in
    rw (take_all (length xs - (end + 1)) (drop (end + 1) xs) within, same) (parts_more b xs found.1)
