-- Document 01, 'The desk program': a number is 1 to 20 decimal digits, below 2^64; leading zeros are allowed.
use Rattle.std.specs.Prelude.{ℕ, zero, suc, ◌+◌, ◌-◌, ◌*◌, ◌/◌, ◌%◌, ◌^◌, Bool, true, ◌&&◌, List, [], ◌∷◌, ◌++◌, leb, ltb, length}
use Rattle.std.proofs.Math.Option.{Option, none, some}
use Rattle.stores.specs.Lists.{pick}

-- The byte of the digit 0; the digits follow one another.
abbrev pub digit_zero : ℕ
digit_zero = 48

-- A byte is a digit.
unfoldable pub is_digit : ℕ → Bool
is_digit c = leb digit_zero c && leb c 57

-- Every byte is a digit.
unfoldable pub all_digits : List ℕ → Bool
all_digits [] = true
all_digits (c ∷ cs) = is_digit c && all_digits cs

-- The number that digits spell behind the number v.
unfoldable pub value_from : (v : ℕ) → List ℕ → ℕ
value_from v [] = v
value_from v (c ∷ cs) = value_from (10 * v + (c - digit_zero)) cs

-- What a field spells as a number, if it does.
unfoldable pub number : List ℕ → Option ℕ
number field =
    pick (all_digits field && leb 1 (length field) && leb (length field) 20 && ltb (value_from 0 field) (2 ^ 64))
    (some (value_from 0 field))
    none

-- The number that v and one more byte spell, where the byte is a digit and the number is below 2^64.
unfoldable pub with_digit : (v c : ℕ) → Option ℕ
with_digit v c = pick (is_digit c && ltb (10 * v + (c - digit_zero)) (2 ^ 64)) (some (10 * v + (c - digit_zero))) none

-- The last `most` digits of n, or fewer where n has fewer.
unfoldable pub spelled : (most : ℕ) → ℕ → List ℕ
spelled zero n = []
spelled (suc most) n =
    let earlier : List ℕ = spelled most (n / 10) in
    pick (ltb n 10) ((digit_zero + n) ∷ []) (earlier ++ ((digit_zero + n % 10) ∷ []))

-- A number below 2^64 in decimal digits, without leading zeros.
unfoldable pub decimal : ℕ → List ℕ
decimal n = spelled 20 n

-- A number below 100 in two digits.
abbrev pub two_digits : ℕ → List ℕ
two_digits n = (digit_zero + n / 10) ∷ (digit_zero + n % 10) ∷ []

-- A number below 10,000 in four digits.
abbrev pub four_digits : ℕ → List ℕ
four_digits n = two_digits (n / 100) ++ two_digits (n % 100)
