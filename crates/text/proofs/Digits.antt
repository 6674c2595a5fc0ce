-- Numbers as text: what is read byte by byte, the digits that are written, and that reader and writer agree.
use Prim.Native.Nat.{ℕ, zero, suc, ◌+◌, ◌-◌, ◌*◌, ◌/◌, ◌%◌, ◌^◌, ◌≤◌, ◌<◌}
use mathlib.Core.Path.{◌≡◌, refl, sym, ap, subst, ◌∙◌}
use mathlib.Core.Bool.{Bool, true, false, ◌&&◌, and-false}
use mathlib.Core.List.{List, [], ◌∷◌, ◌++◌}
use mathlib.Core.Option.{Option, none, some}
use native.Mathlib.Nat.{le_refl, pow-suc, div-lt_iff_lt-mul}
use native.Mathlib.Omega.{arith}
use borrow.Author.Tests.{ltb-true, ltb-false, leb-true, lt-ltb, le-ltb, le-leb, lt-leb}
use lib.Dec.{leb, ltb}
use lib.ListN.{length, length-append}
use Rattle.std.specs.Prelude.{SomeIff, Some, None}
use Rattle.std.specs.Char.{digit_value}
use Rattle.std.specs.Int.{IsInRange}
use Rattle.std.proofs.lemmas.Str.{digit_value_digit}
use Rattle.std.proofs.lemmas.Str.Parse.{digit_from_value}
use Rattle.stores.specs.Lists.{pick}
use Rattle.stores.specs.Options.{option_of}
use Rattle.stores.proofs.Tests.{by_test, by_less, and_left, and_right, and_true}
use Rattle.text.specs.Number.{digit_zero, is_digit, all_digits, value_from, number, with_digit, spelled, decimal, two_digits, four_digits}

-- ---- Reading

-- One byte more, where the bytes before it have spelled a number.
unfoldable pub and_then : Option ℕ → (ℕ → Option ℕ) → Option ℕ
and_then none f = none
and_then (some v) f = f v

-- What the bytes spell behind the number v, one after the other.
unfoldable pub number_from : (v : ℕ) → List ℕ → Option ℕ
number_from v [] = some v
number_from v (c ∷ cs) = and_then (with_digit v c) (λ w. number_from w cs)

pub number_next : (v c : ℕ) (cs : List ℕ) (w : ℕ) → with_digit v c ≡ some w → number_from v (c ∷ cs) ≡ number_from w cs
unfolding number_from and_then
number_next v c cs w e = rw e

pub number_stops : (v c : ℕ) (cs : List ℕ) → with_digit v c ≡ none → number_from v (c ∷ cs) ≡ none
unfolding number_from and_then
number_stops v c cs e = rw e

-- A byte that the library reads as a decimal digit is one, and no other byte is.
digit_read : (c : ℕ) → digit_value c < 10 → (is_digit c ≡ true) × (digit_value c ≡ c - digit_zero)
unfolding is_digit
digit_read c h =
    let range : IsInRange 48 57 c = digit_from_value c h in
    let value : digit_value c + 48 ≡ c = digit_value_digit c range in
    (rw (le-leb 48 c range.0, le-leb c 57 range.1) refl, omega arith)

digit_refused : (c : ℕ) → (digit_value c < 10 → ⊥) → is_digit c ≡ false
unfolding is_digit
digit_refused c h =
    by_test (is_digit c)
    (λ t.
    let low : 48 ≤ c = leb-true 48 c (and_left (leb 48 c) (leb c 57) t) in
    let high : c ≤ 57 = leb-true c 57 (and_right (leb 48 c) (leb c 57) t) in
    let value : digit_value c + 48 ≡ c = digit_value_digit c (low, high) in
    absurd (h (omega arith)))
    (λ t. t)

pub no_digit : (v c d : ℕ) → d ≡ c → (digit_value d < 10 → ⊥) → none ≡ with_digit v c
unfolding with_digit
no_digit v c d e h = rw (digit_refused c (subst (λ (x : ℕ). digit_value x < 10 → ⊥) e h))

-- Where ten times the number is past 2^64, no digit behind it is read.
pub ten_times_past : (v c : ℕ) → (v * 10 < 2 ^ 64 → ⊥) → none ≡ with_digit v c
unfolding with_digit
ten_times_past v c h =
    by_test (is_digit c)
    (λ t. rw (t, le-ltb (10 * v + (c - digit_zero)) (2 ^ 64) (omega arith)))
    (λ t. rw t)

-- The digit's value added to ten times the number, where the sum is below 2^64.
pub digit_added : (v c d e x : ℕ) (r : Rattle.std.specs.Prelude.Option ℕ) → d ≡ c → digit_value d < 10 → e ≡ digit_value d → x ≡ v * 10
    → SomeIff r (x + e < 2 ^ 64) (x + e) → option_of r ≡ with_digit v c
unfolding with_digit
digit_added v c d e x None p q r s t =
    let digit = digit_read c (subst (λ (y : ℕ). digit_value y < 10) p q) in
    let same : digit_value d ≡ digit_value c = ap digit_value p in
    rw (digit.0, le-ltb (10 * v + (c - digit_zero)) (2 ^ 64) (omega (arith, digit.1)))
digit_added v c d e x (Some n) p q r s t =
    let digit = digit_read c (subst (λ (y : ℕ). digit_value y < 10) p q) in
    let same : digit_value d ≡ digit_value c = ap digit_value p in
    let value : n ≡ 10 * v + (c - digit_zero) = omega (arith, digit.1) in
    rw (digit.0, lt-ltb (10 * v + (c - digit_zero)) (2 ^ 64) (omega (arith, digit.1)), value)

-- More digits never spell less: a number past 2^64 stays past it.
pub value_grows : (v : ℕ) (cs : List ℕ) → v ≤ value_from v cs
unfolding value_from
value_grows v [] = le_refl v
value_grows v (c ∷ cs) =
    let later : 10 * v + (c - digit_zero) ≤ value_from (10 * v + (c - digit_zero)) cs = value_grows (10 * v + (c - digit_zero)) cs in
    omega arith

-- Byte by byte the whole field is read.
pub number_from_holds : (v : ℕ) (cs : List ℕ) → v < 2 ^ 64
    → number_from v cs ≡ pick (all_digits cs && ltb (value_from v cs) (2 ^ 64)) (some (value_from v cs)) none
unfolding number_from and_then all_digits value_from with_digit
number_from_holds v [] h = rw (lt-ltb v (2 ^ 64) h)
number_from_holds v (c ∷ cs) h =
    let w : ℕ = 10 * v + (c - digit_zero) in
    by_test (is_digit c)
    (λ d.
    by_test (ltb w (2 ^ 64))
    (λ t. rw (d, t) (number_from_holds w cs (ltb-true w (2 ^ 64) t)))
    (λ t.
    let grown : w ≤ value_from w cs = value_grows w cs in
    let past : 2 ^ 64 ≤ w = ltb-false w (2 ^ 64) t in
    rw (d, t, le-ltb (value_from w cs) (2 ^ 64) (omega arith), and-false (all_digits cs))))
    (λ d. rw d)

pub number_read : (field : List ℕ) → 1 ≤ length field → length field ≤ 20 → number field ≡ number_from 0 field
unfolding number
number_read field h k =
    rw (le-leb 1 (length field) h, le-leb (length field) 20 k)
    (kept (all_digits field) _ _ ∙ sym (number_from_holds 0 field (omega arith)))
  where
    kept : (a b : Bool) (x : Option ℕ) → pick (a && true && true && b) x none ≡ pick (a && b) x none
    kept true b x = refl
    kept false b x = refl

pub number_of_none : (field : List ℕ) → length field < 1 → number field ≡ none
unfolding number
number_of_none field h = rw (lt-leb 1 (length field) h) (refused (all_digits field) _ _ _)
  where
    refused : (a b c : Bool) (x : Option ℕ) → pick (a && false && b && c) x none ≡ none
    refused true b c x = refl
    refused false b c x = refl

pub number_of_many : (field : List ℕ) → 20 < length field → number field ≡ none
unfolding number
number_of_many field h = rw (lt-leb (length field) 20 h) (refused (all_digits field && leb 1 (length field)) _ _)
  where
    refused : (a c : Bool) (x : Option ℕ) → pick (a && false && c) x none ≡ none
    refused true c x = refl
    refused false c x = refl

-- ---- Writing

pub length_spelled : (most n : ℕ) → length (spelled most n) ≤ most
unfolding spelled
length_spelled zero n = le_refl 0
length_spelled (suc most) n =
    by_test (ltb n 10)
    (λ t. rw t (omega arith))
    (λ t.
    let earlier : length (spelled most (n / 10)) ≤ most = length_spelled most (n / 10) in
    rw (t, length-append) (omega arith))

tenth_below : (n most : ℕ) → n < 10 ^ suc most → n / 10 < 10 ^ most
tenth_below n most h = (div-lt_iff_lt-mul {k = 10} {x = n} {y = 10 ^ most} (omega arith)).1 (rw (pow-suc 10 most) at h)

-- One digit more than n needs is not used.
pub spelled_enough : (most n : ℕ) → n < 10 ^ suc most → spelled (suc (suc most)) n ≡ spelled (suc most) n
unfolding spelled
spelled_enough zero n h = rw (lt-ltb n 10 h)
spelled_enough (suc most) n h =
    ap (λ (earlier : List ℕ). pick (ltb n 10) ((digit_zero + n) ∷ []) (earlier ++ ((digit_zero + n % 10) ∷ [])))
    (spelled_enough most (n / 10) (tenth_below n (suc most) h))

spelled_more : (most n : ℕ) → 10 ≤ n → n < 10 ^ suc (suc most)
    → spelled (suc (suc most)) n ≡ spelled (suc (suc most)) (n / 10) ++ ((digit_zero + n % 10) ∷ [])
unfolding spelled
spelled_more most n h k =
    rw (le-ltb n 10 h)
    (ap (λ (earlier : List ℕ). earlier ++ ((digit_zero + n % 10) ∷ [])) (sym (spelled_enough most (n / 10) (tenth_below n (suc most) k))))

pub decimal_digit : (n : ℕ) → n < 10 → decimal n ≡ (digit_zero + n % 10) ∷ []
unfolding decimal spelled
decimal_digit n h =
    let itself : n % 10 ≡ n = omega arith in
    rw (lt-ltb n 10 h, itself)

pub decimal_more : (n : ℕ) → 10 ≤ n → n < 2 ^ 64 → decimal n ≡ decimal (n / 10) ++ ((digit_zero + n % 10) ∷ [])
unfolding decimal
decimal_more n h k = spelled_more 18 n h (omega arith)

pub length_decimal : (n : ℕ) → length (decimal n) ≤ 20
unfolding decimal
length_decimal n = length_spelled 20 n

-- One digit, two, three and four, and four more.
pub decimal_one : (n : ℕ) → n < 10 → decimal n ≡ (digit_zero + n) ∷ []
decimal_one n h =
    let itself : n % 10 ≡ n = omega arith in
    rw (decimal_digit n h, itself) refl

pub decimal_two : (n : ℕ) → 10 ≤ n → n < 100 → decimal n ≡ two_digits n
decimal_two n h k =
    let first : n / 10 % 10 ≡ n / 10 = omega arith in
    decimal_more n h (omega arith) ∙ rw (decimal_digit (n / 10) (omega arith), first) refl

pub decimal_three : (n : ℕ) → 100 ≤ n → n < 1000 → decimal n ≡ (digit_zero + n / 100) ∷ two_digits (n % 100)
decimal_three n h k =
    let first : n / 10 / 10 ≡ n / 100 = omega arith in
    let second : n / 10 % 10 ≡ n % 100 / 10 = omega arith in
    let third : n % 10 ≡ n % 100 % 10 = omega arith in
    decimal_more n (omega arith) (omega arith) ∙ rw (decimal_two (n / 10) (omega arith) (omega arith), first, second, third) refl

pub decimal_four : (n : ℕ) → 1000 ≤ n → n < 10000 → decimal n ≡ four_digits n
decimal_four n h k =
    let first : n / 10 / 100 ≡ n / 100 / 10 = omega arith in
    let second : n / 10 % 100 / 10 ≡ n / 100 % 10 = omega arith in
    let third : n / 10 % 100 % 10 ≡ n % 100 / 10 = omega arith in
    let fourth : n % 10 ≡ n % 100 % 10 = omega arith in
    decimal_more n (omega arith) (omega arith) ∙ rw (decimal_three (n / 10) (omega arith) (omega arith), first, second, third, fourth) refl

pub decimal_four_more : (n : ℕ) → 10000 ≤ n → n < 2 ^ 64 → decimal n ≡ decimal (n / 10000) ++ four_digits (n % 10000)
decimal_four_more n h k =
    let rest : n / 10 / 10 / 10 / 10 ≡ n / 10000 = omega arith in
    let first : n / 10 / 10 / 10 % 10 ≡ n % 10000 / 100 / 10 = omega arith in
    let second : n / 10 / 10 % 10 ≡ n % 10000 / 100 % 10 = omega arith in
    let third : n / 10 % 10 ≡ n % 10000 % 100 / 10 = omega arith in
    let fourth : n % 10 ≡ n % 10000 % 100 % 10 = omega arith in
    decimal_more n (omega arith) k
    ∙ rw (
      decimal_more (n / 10) (omega arith) (omega arith),
      decimal_more (n / 10 / 10) (omega arith) (omega arith),
      decimal_more (n / 10 / 10 / 10) (omega arith) (omega arith),
      rest,
      first,
      second,
      third,
      fourth,
    ) (joined (decimal (n / 10000)) _ _ _ _)
  where
    joined : (xs : List ℕ) (a b c d : ℕ) → (((xs ++ a ∷ []) ++ b ∷ []) ++ c ∷ []) ++ d ∷ [] ≡ xs ++ (a ∷ b ∷ c ∷ d ∷ [])
    joined [] a b c d = refl
    joined (x ∷ xs) a b c d = ap (λ (ys : List ℕ). x ∷ ys) (joined xs a b c d)

-- One digit below 10, and one more than a tenth of the number has from 10 on.
pub length_one_digit : (n : ℕ) → n < 10 → length (decimal n) ≡ 1
length_one_digit n h = rw (decimal_digit n h) refl

pub length_more_digits : (n : ℕ) → 10 ≤ n → n < 2 ^ 64 → length (decimal n) ≡ length (decimal (n / 10)) + 1
length_more_digits n h k = ap length (decimal_more n h k) ∙ length-append (decimal (n / 10)) _

pub length_two_digits : (n : ℕ) → 10 ≤ n → n < 100 → length (decimal n) ≡ 2
length_two_digits n h k =
    length_more_digits n h (omega arith) ∙ ap (λ m. m + 1) (length_one_digit (n / 10) (omega arith))

pub length_three_digits : (n : ℕ) → 100 ≤ n → n < 1000 → length (decimal n) ≡ 3
length_three_digits n h k =
    length_more_digits n (omega arith) (omega arith) ∙ ap (λ m. m + 1) (length_two_digits (n / 10) (omega arith) (omega arith))

pub length_four_digits : (n : ℕ) → 1000 ≤ n → n < 10000 → length (decimal n) ≡ 4
length_four_digits n h k =
    length_more_digits n (omega arith) (omega arith) ∙ ap (λ m. m + 1) (length_three_digits (n / 10) (omega arith) (omega arith))

-- Four digits at a time.
pub length_four_more : (n : ℕ) → 10000 ≤ n → n < 2 ^ 64 → length (decimal n) ≡ 4 + length (decimal (n / 10000))
length_four_more n h k =
    let e₁ = length_more_digits n (omega arith) k in
    let e₂ = length_more_digits (n / 10) (omega arith) (omega arith) in
    let e₃ = length_more_digits (n / 10 / 10) (omega arith) (omega arith) in
    let e₄ = length_more_digits (n / 10 / 10 / 10) (omega arith) (omega arith) in
    let same : n / 10 / 10 / 10 / 10 ≡ n / 10000 = omega arith in
    let rest : length (decimal (n / 10 / 10 / 10 / 10)) ≡ length (decimal (n / 10000)) = ap (λ m. length (decimal m)) same in
    omega arith

pub length_below_100 : (n : ℕ) → n < 100 → length (decimal n) ≤ 2
length_below_100 n h = by_less n 10 (λ t. let e = length_one_digit n t in omega arith) (λ t. let e = length_two_digits n t h in omega arith)

-- ---- Reader and writer agree

digit_is : (n : ℕ) → n < 10 → is_digit (digit_zero + n) ≡ true
unfolding is_digit
digit_is n h = rw (le-leb 48 (48 + n) (omega arith), le-leb (48 + n) 57 (omega arith))

all_digits_append : (xs ys : List ℕ) → all_digits xs ≡ true → all_digits ys ≡ true → all_digits (xs ++ ys) ≡ true
unfolding all_digits
all_digits_append [] ys h k = k
all_digits_append (x ∷ xs) ys h k =
    and_true (and_left (is_digit x) (all_digits xs) h) (all_digits_append xs ys (and_right (is_digit x) (all_digits xs) h) k)

one_digit : (n : ℕ) → n < 10 → all_digits ((digit_zero + n) ∷ []) ≡ true
unfolding all_digits
one_digit n h = and_true (digit_is n h) refl

pub spelled_digits : (most n : ℕ) → all_digits (spelled most n) ≡ true
unfolding spelled all_digits
spelled_digits zero n = refl
spelled_digits (suc most) n =
    by_test (ltb n 10)
    (λ t. rw t (one_digit n (ltb-true n 10 t)))
    (λ t. rw t (all_digits_append (spelled most (n / 10)) _ (spelled_digits most (n / 10)) (one_digit (n % 10) (omega arith))))

value_append : (v : ℕ) (xs ys : List ℕ) → value_from v (xs ++ ys) ≡ value_from (value_from v xs) ys
unfolding value_from
value_append v [] ys = refl
value_append v (x ∷ xs) ys = value_append (10 * v + (x - digit_zero)) xs ys

value_one : (v d : ℕ) → value_from v ((digit_zero + d) ∷ []) ≡ 10 * v + d
unfolding value_from
value_one v d = omega arith

-- The digits of n spell n.
pub spelled_value : (most n : ℕ) → n < 10 ^ suc most → value_from 0 (spelled (suc most) n) ≡ n
unfolding spelled
spelled_value zero n h = rw (lt-ltb n 10 h) (value_one 0 n ∙ omega arith)
spelled_value (suc most) n h =
    by_test (ltb n 10)
    (λ t. rw t (value_one 0 n ∙ omega arith))
    (λ t.
    rw t
    (value_append 0 (spelled (suc most) (n / 10)) _
    ∙ ap (λ (v : ℕ). value_from v ((digit_zero + n % 10) ∷ [])) (spelled_value most (n / 10) (tenth_below n (suc most) h))
    ∙ value_one (n / 10) (n % 10)
    ∙ omega arith))

spelled_some : (most n : ℕ) → 1 ≤ length (spelled (suc most) n)
unfolding spelled
spelled_some most n = by_test (ltb n 10) (λ t. rw t (le_refl 1)) (λ t. rw (t, length-append) (omega arith))

-- A number written in decimal digits is read again.
pub number_decimal : (n : ℕ) → n < 2 ^ 64 → number (decimal n) ≡ some n
unfolding number decimal
number_decimal n h =
    rw (
      spelled_digits 20 n,
      le-leb 1 (length (spelled 20 n)) (spelled_some 19 n),
      le-leb (length (spelled 20 n)) 20 (length_spelled 20 n),
      spelled_value 19 n (omega arith),
      lt-ltb n (2 ^ 64) h,
    )
