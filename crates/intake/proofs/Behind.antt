-- Two reads, one behind the other.
use Rattle.std.specs.Prelude.{◌≡◌, ℕ, ◌+◌, ◌≤◌, List, ◌++◌, Option, None, Some, length, take}
use Rattle.std.proofs.Common.{sym, ap, ◌∙◌, append_assoc, length-take-le}
use Rattle.std.proofs.Math.Seq.{take-append-add}
use Rattle.std.proofs.lemmas.List.{take-append-le}
use Rattle.std.specs.Io.KnownBytes.{Consumes}

-- What the first gave, and then what the second gave, is what both consumed.
pub Consumes-trans : (a b c : Option (List ℕ)) (bs cs : List ℕ) → Consumes a b bs → Consumes b c cs → Consumes a c (bs ++ cs)
Consumes-trans None b c bs cs p q = tt
Consumes-trans (Some x) None c bs cs p q = absurd p
Consumes-trans (Some x) (Some y) None bs cs p q = absurd q
Consumes-trans (Some x) (Some y) (Some z) bs cs p q = p ∙ ap (λ l. bs ++ l) q ∙ sym (append_assoc bs cs z)

-- The first f bytes of xs, and behind them ys: their first f + n bytes.
pub take-behind : (f n : ℕ) (xs ys rest : List ℕ) → f ≤ length xs → n ≤ length ys → take (f + n) (take f xs ++ (ys ++ rest)) ≡ take f xs ++ take n ys
take-behind f n xs ys rest within fits =
    ap (λ k. take (k + n) (take f xs ++ (ys ++ rest))) (sym (length-take-le f xs within))
    ∙ take-append-add (take f xs) (ys ++ rest) n
    ∙ ap (λ l. take f xs ++ l) (take-append-le n ys rest fits)
