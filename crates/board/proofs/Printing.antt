-- A print, case by case: from what the two passes have counted and written, and as document 02 says it.
use Prim.Native.Nat.{ℕ, ◌≤◌, ◌<◌}
use mathlib.Core.Path.{◌≡◌, refl, ap, ◌∙◌}
use mathlib.Core.Bool.{true, false}
use mathlib.Core.List.{List, [], ◌∷◌}
use mathlib.Core.Option.{none, some}
use native.Mathlib.Omega.{arith}
use borrow.Author.Tests.{le-leb, lt-leb}
use lib.ListN.{length}
use Rattle.stores.specs.Written.{Written}
use Rattle.stores.proofs.Written.{written_at_front}
use Rattle.replies.specs.declared.Answer.{Answer}
use Rattle.replies.specs.declared.Refusal.{Refusal}
use Rattle.replies.specs.declared.Refusal.TheVariants.{ShortList, BadYear}
use Rattle.std.specs.Prelude.{Ok, Err}
use Rattle.replies.specs.declared.Reply.TheVariants.{Value}
use Rattle.replies.specs.Replies.{Said, done, refused, refuse, said_by, unless}
use Rattle.replies.specs.Writing.{Writing, nothing, behind_tests}
use Rattle.replies.specs.Answered.{Wrote}
use Rattle.board.specs.Jobs.{valid_year, year_tests}
use Rattle.board.specs.Print.{Lookup, year_lookups, lines_in, refused_in, fitted, behind_lookups, print_of, print_over, all_numbers, print_year}
use Rattle.board.specs.Passes.{bytes_of, CountedBy}

-- ---- The definition, case by case

module _ (a : List ℕ) (year room : ℕ) where
  -- The lookups of the year.
  abbrev looked : List Lookup
  looked = year_lookups a year all_numbers

  pub print_bad_year : valid_year year ≡ false → print_year a year room ≡ nothing (refuse BadYear)
  unfolding print_year print_over behind_tests year_tests unless
  print_bad_year y = rw y refl

  print_looks : valid_year year ≡ true → print_year a year room ≡ print_of room looked
  unfolding print_year print_over behind_tests year_tests unless
  print_looks y = rw y refl

  pub print_refused : (n : ℕ) → valid_year year ≡ true → refused_in looked ≡ some n → print_year a year room ≡ nothing (refused n)
  unfolding print_of behind_lookups
  print_refused n y e = print_looks y ∙ rw e refl

  pub print_short : valid_year year ≡ true → refused_in looked ≡ none → room < bytes_of looked → print_year a year room ≡ nothing (refuse ShortList)
  unfolding print_of behind_lookups fitted
  print_short y e h = print_looks y ∙ rw (e, lt-leb (bytes_of looked) room h) refl

  pub print_fits : valid_year year ≡ true → refused_in looked ≡ none → bytes_of looked ≤ room
      → print_year a year room ≡ record { reply = done (bytes_of looked ∷ []); words = lines_in looked }
  unfolding print_of behind_lookups fitted
  print_fits y e h = print_looks y ∙ rw (e, le-leb (bytes_of looked) room h) refl

-- ---- From what the code has answered

-- A print that writes nothing leaves the buffer as it was.
printed_nothing : (w : Writing) (said : Said) (answer : Answer) (before : List ℕ) → w ≡ nothing said
    → said_by answer.reply ≡ said → answer.stores ≡ 0 → Wrote w answer before before
printed_nothing w said answer before e r s = rw e (record { reply = r; stores = s; left = refl })

module _ (a : List ℕ) (year : ℕ) (before : List ℕ) (answer : Answer) where
  pub printed_bad_year : valid_year year ≡ false → (answer.reply ≡ Err BadYear) × (answer.stores ≡ 0)
      → Wrote (print_year a year (length before)) answer before before
  printed_bad_year y w =
      printed_nothing _ _ answer before (print_bad_year a year (length before) y) (ap said_by w.0) w.1

  pub printed_refused : (r : Refusal) → valid_year year ≡ true → CountedBy (Err r) (year_lookups a year all_numbers)
      → (answer.reply ≡ Err r) × (answer.stores ≡ 0) → Wrote (print_year a year (length before)) answer before before
  printed_refused r y k w =
      printed_nothing _ _ answer before (print_refused a year (length before) _ y k) (ap said_by w.0) w.1

  pub printed_short : (n : ℕ) → valid_year year ≡ true → CountedBy (Ok n) (year_lookups a year all_numbers) → length before < n
      → (answer.reply ≡ Err ShortList) × (answer.stores ≡ 0) → Wrote (print_year a year (length before)) answer before before
  printed_short n y k h w =
      printed_nothing _ _ answer before (print_short a year (length before) y k.0 (rw k.1 at h)) (ap said_by w.0) w.1

  pub printed_done : (n m : ℕ) (after : List ℕ) → valid_year year ≡ true → CountedBy (Ok n) (year_lookups a year all_numbers) → n ≤ length before
      → Written (lines_in (year_lookups a year all_numbers)) 0 before m after
      → (answer.reply ≡ Ok (Value m)) × (answer.stores ≡ 0) → Wrote (print_year a year (length before)) answer before after
  printed_done n m after y k h w v =
      let bytes : m ≡ bytes_of (year_lookups a year all_numbers) = omega (arith, w.behind) in
      rw (print_fits a year (length before) y k.0 (rw k.1 at h))
      (record {
        reply = ap said_by v.0 ∙ ap (λ (x : ℕ). done (x ∷ [])) bytes;
        stores = v.1;
        left = written_at_front (lines_in (year_lookups a year all_numbers)) before m after w;
      })
