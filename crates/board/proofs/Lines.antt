-- The line of a job: the months' names, and how long it is.
use Prim.Native.Nat.{ℕ, ◌+◌, ◌-◌, ◌≤◌}
use mathlib.Core.Path.{◌≡◌, refl}
use mathlib.Core.Bool.{true}
use mathlib.Core.List.{List, [], ◌∷◌, ◌++◌}
use native.Mathlib.Omega.{arith}
use borrow.Author.Tests.{eqb-true}
use lib.Dec.{eqb}
use lib.ListN.{length, get_or, length-append}
use Rattle.stores.specs.Lists.{all_below}
use Rattle.stores.proofs.Lists.{all_at}
use Rattle.text.specs.declared.output.Output.{Output}
use Rattle.text.specs.Output.{HasRoom, Appended}
use Rattle.text.proofs.Appended.{fits_first, room_behind, appended_append}
use Rattle.text.specs.Parts.{tab, line_feed}
use Rattle.text.specs.Number.{decimal}
use Rattle.board.specs.Print.{month_names, month_name, job, line_of, job_line}

-- ---- Names

names_three : all_below (λ m. eqb (length (get_or month_names m [])) 3) 12 ≡ true
unfolding all_below
names_three = refl

-- Every name has three bytes.
pub length_name : (month : ℕ) → 1 ≤ month → month ≤ 12 → length (month_name month) ≡ 3
unfolding month_name
length_name month l h = eqb-true _ _ (all_at (λ m. eqb (length (get_or month_names m [])) 3) 12 names_three (month - 1) (omega arith))

-- ---- Lines

pub length_line_of : (name : List ℕ) (number pages : ℕ)
    → length (line_of name number pages) ≡ length name + length (tab ∷ decimal number) + length (tab ∷ decimal pages) + 1
unfolding line_of
length_line_of name number pages =
    let numbered : List ℕ = name ++ (tab ∷ decimal number) in
    let paged : List ℕ = numbered ++ (tab ∷ decimal pages) in
    let e₁ : length numbered ≡ length name + length (tab ∷ decimal number) = length-append name (tab ∷ decimal number) in
    let e₂ : length paged ≡ length numbered + length (tab ∷ decimal pages) = length-append numbered (tab ∷ decimal pages) in
    let e₃ : length (paged ++ line_feed ∷ []) ≡ length paged + 1 = length-append paged (line_feed ∷ []) in
    omega arith

pub length_line : (month number pages : ℕ) → 1 ≤ month → month ≤ 12
    → length (job_line (job month number pages)) ≡ 6 + length (decimal number) + length (decimal pages)
unfolding job_line
length_line month number pages l h =
    let e = length_line_of (month_name month) number pages in
    let n = length_name month l h in
    omega arith

-- ---- What is written, part by part

module _ (month number pages : ℕ) (o : Output) (whole : HasRoom (job_line (job month number pages)) o) where
  with_pages : HasRoom (month_name month ++ (tab ∷ decimal number) ++ (tab ∷ decimal pages)) o
  unfolding job_line line_of
  with_pages = fits_first (month_name month ++ (tab ∷ decimal number) ++ (tab ∷ decimal pages)) (line_feed ∷ []) o whole

  with_number : HasRoom (month_name month ++ (tab ∷ decimal number)) o
  with_number = fits_first (month_name month ++ (tab ∷ decimal number)) (tab ∷ decimal pages) o with_pages

  pub room_name : HasRoom (month_name month) o
  room_name = fits_first (month_name month) (tab ∷ decimal number) o with_number

  module _ (o₁ : Output) (named : Appended (month_name month) o o₁) where
    pub room_number : HasRoom (tab ∷ decimal number) o₁
    room_number = room_behind (month_name month) (tab ∷ decimal number) o o₁ with_number named

    module _ (o₂ : Output) (numbered : Appended (tab ∷ decimal number) o₁ o₂) where
      two : Appended (month_name month ++ (tab ∷ decimal number)) o o₂
      two = appended_append (month_name month) (tab ∷ decimal number) o o₁ with_number named o₂ numbered

      pub room_pages : HasRoom (tab ∷ decimal pages) o₂
      room_pages = room_behind (month_name month ++ (tab ∷ decimal number)) (tab ∷ decimal pages) o o₂ with_pages two

      module _ (o₃ : Output) (paged : Appended (tab ∷ decimal pages) o₂ o₃) where
        three : Appended (month_name month ++ (tab ∷ decimal number) ++ (tab ∷ decimal pages)) o o₃
        three = appended_append (month_name month ++ (tab ∷ decimal number)) (tab ∷ decimal pages) o o₂ with_pages two o₃ paged

        pub room_end : HasRoom (line_feed ∷ []) o₃
        unfolding job_line line_of
        room_end = room_behind (month_name month ++ (tab ∷ decimal number) ++ (tab ∷ decimal pages)) (line_feed ∷ []) o o₃ whole three

        pub line_written : (o₄ : Output) → Appended (line_feed ∷ []) o₃ o₄ → Appended (job_line (job month number pages)) o o₄
        unfolding job_line line_of
        line_written o₄ last =
            appended_append (month_name month ++ (tab ∷ decimal number) ++ (tab ∷ decimal pages)) (line_feed ∷ []) o o₃ whole three o₄ last
