-- What a done print has written reads back to exactly the year's jobs.
use Prim.Native.Nat.{ℕ, suc, ◌-◌, ◌^◌, ◌≤◌, ◌<◌}
use mathlib.Core.Path.{◌≡◌, refl, sym, ap, ◌∙◌}
use mathlib.Core.Bool.{Bool, true, false, ◌&&◌}
use mathlib.Core.List.{List, [], ◌∷◌, ◌++◌, append_assoc, Memᴰ}
use mathlib.Core.Option.{Option, none, some}
use native.Mathlib.Omega.{arith}
use borrow.Author.Tests.{eqb-true}
use lib.Dec.{eqb}
use lib.ListN.{length, take, get_or, length-append}
use Rattle.stores.specs.Lists.{all_below, numbers_same}
use Rattle.stores.specs.Written.{at_front}
use Rattle.stores.proofs.Lists.{all_at}
use Rattle.stores.proofs.Written.{at_front_words}
use Rattle.stores.proofs.Tests.{and_left, and_right}
use Rattle.index_laws.proofs.Lookups.{found_below}
use Rattle.text.specs.Parts.{tab, line_feed, fields_of}
use Rattle.text.specs.Number.{decimal}
use Rattle.text.proofs.Digits.{number_decimal}
use Rattle.text.proofs.Lines.{lines_none}
use Rattle.text.proofs.Joined.{without, without_append, decimal_without, parts_alone, parts_joined, lines_joined}
use Rattle.board.specs.Jobs.{valid_month, job_key}
use Rattle.board.specs.Print.{month_names, month_name, Job, line_of, job_line, text_of}
use Rattle.board.specs.ReadBack.{month_from, month_named, job_of, job_of_fields, in_front, jobs_of_lines, jobs_read}
use Rattle.board.specs.Claims.{ReadsBack}
use Rattle.board.proofs.Jobs.{month_bounds, number_bound}
use Rattle.board.proofs.Lines.{length_name}
use Rattle.board.proofs.Cases.{PrintDone, print_done}

-- ---- Names

-- The number is there, and is n.
unfoldable is : Option ℕ → (n : ℕ) → Bool
is none n = false
is (some m) n = eqb m n

is_some : (o : Option ℕ) (n : ℕ) → is o n ≡ true → o ≡ some n
unfolding is
is_some none n e = absurd (false_true e)
  where
    false_true : false ≡ true → ⊥
    false_true p = let z : ◌≡◌ {A = ℕ} 0 1 = cc in omega arith
is_some (some m) n e = ap some (eqb-true m n e)

-- Each of the twelve names its month, and has no tab and no line feed.
abbrev name_reads : ℕ → Bool
name_reads m =
    is (month_named (get_or month_names m [])) (suc m) && (without tab (get_or month_names m []) && without line_feed (get_or month_names m []))

names_read : all_below name_reads 12 ≡ true
unfolding all_below is month_named month_from numbers_same without
names_read = refl

module _ (month : ℕ) (valid : valid_month month ≡ true) where
  name_reads_holds : name_reads (month - 1) ≡ true
  name_reads_holds =
      let b = month_bounds month valid in
      let l₁ : 1 ≤ month = b.0 in
      let l₂ : month ≤ 12 = b.1 in
      all_at name_reads 12 names_read (month - 1) (omega arith)

  pub month_named_holds : month_named (month_name month) ≡ some month
  unfolding month_name
  month_named_holds =
      let b = month_bounds month valid in
      let l₁ : 1 ≤ month = b.0 in
      let e : suc (month - 1) ≡ month = omega arith in
      is_some _ _ (and_left _ _ name_reads_holds) ∙ ap some e

  name_parted : without tab (month_name month) && without line_feed (month_name month) ≡ true
  unfolding month_name
  name_parted = and_right (is (month_named (month_name month)) (suc (month - 1))) _ name_reads_holds

  name_no_tab : without tab (month_name month) ≡ true
  name_no_tab = and_left (without tab (month_name month)) (without line_feed (month_name month)) name_parted

  name_no_line_feed : without line_feed (month_name month) ≡ true
  name_no_line_feed = and_right (without tab (month_name month)) (without line_feed (month_name month)) name_parted

-- ---- A line

-- A job that can be written so that it reads back.
pub record Writable (j : Job) : Type 0 where
  pub month : valid_month j.month ≡ true
  pub number : j.number < 2 ^ 64
  pub pages : j.pages < 2 ^ 64

module _ (j : Job) (w : Writable j) where
  abbrev name : List ℕ
  name = month_name j.month

  -- The line without its line feed.
  abbrev line : List ℕ
  line = name ++ (tab ∷ decimal j.number) ++ (tab ∷ decimal j.pages)

  line_some : 0 < length line
  line_some =
      let b = month_bounds j.month w.month in
      let n : length name ≡ 3 = length_name j.month b.0 b.1 in
      let e₁ = length-append name (tab ∷ decimal j.number) in
      let e₂ = length-append (name ++ (tab ∷ decimal j.number)) (tab ∷ decimal j.pages) in
      omega arith

  field_no_line_feed : (n : ℕ) → without line_feed (tab ∷ decimal n) ≡ true
  unfolding without
  field_no_line_feed n = decimal_without line_feed n (omega arith)

  line_no_line_feed : without line_feed line ≡ true
  line_no_line_feed =
      without_append line_feed (name ++ (tab ∷ decimal j.number)) (tab ∷ decimal j.pages)
      (without_append line_feed name (tab ∷ decimal j.number) (name_no_line_feed j.month w.month) (field_no_line_feed j.number))
      (field_no_line_feed j.pages)

  line_fields : fields_of line ≡ name ∷ decimal j.number ∷ decimal j.pages ∷ []
  unfolding fields_of
  line_fields =
      rw (append_assoc name (tab ∷ decimal j.number) (tab ∷ decimal j.pages))
      (parts_joined tab name (decimal j.number ++ (tab ∷ decimal j.pages)) (name_no_tab j.month w.month)
      ∙ rw (
        parts_joined tab (decimal j.number) (decimal j.pages) (decimal_without tab j.number (omega arith)),
        parts_alone tab (decimal j.pages) (decimal_without tab j.pages (omega arith)),
      ) refl)

  pub line_read : job_of_fields (fields_of line) ≡ some j
  unfolding job_of_fields job_of
  line_read =
      rw (
        line_fields,
        month_named_holds j.month w.month,
        number_decimal j.number w.number,
        number_decimal j.pages w.pages,
      ) refl

  pub line_in_front : (rest : List ℕ) → jobs_read (job_line j ++ rest) ≡ in_front (some j) (jobs_read rest)
  unfolding jobs_read job_line line_of jobs_of_lines
  line_in_front rest =
      rw (append_assoc line (line_feed ∷ []) rest, lines_joined line rest line_some line_no_line_feed, line_read) refl

-- ---- All lines

pub text_read : (js : List Job) → ((j : Job) → Memᴰ j js → Writable j) → jobs_read (text_of js) ≡ some js
unfolding text_of in_front jobs_read jobs_of_lines
text_read [] w = ap jobs_of_lines lines_none
text_read (j ∷ js) w =
    line_in_front j (w j (Memᴰ.head refl)) (text_of js) ∙ rw (text_read js (λ k m. w k (Memᴰ.tail m))) refl

-- ---- THE THEOREM

pub reads_back : ReadsBack
reads_back a words year bytes answer before after p says =
    let d : PrintDone a year (length before) bytes = print_done a year (length before) bytes (sym p.reply ∙ says) in
    let written : after ≡ at_front (text_of d.jobs) before = p.left ∙ rw d.lines refl in
    let front : take bytes after ≡ text_of d.jobs =
    ap (λ (n : ℕ). take n after) d.bytes ∙ rw written (at_front_words (text_of d.jobs) before) in
    let small : (j : Job) → Memᴰ j d.jobs → Writable j =
    λ j m.
    let n : j.number ≤ 4095 = number_bound j.number (d.exact.numbers j m) in
    record {
      month = d.exact.months j m;
      number = omega arith;
      pages = found_below a (job_key year j.month j.number) (2 ^ 64) words j.pages (d.exact.found j m);
    } in
    (d.jobs, rw front (text_read d.jobs small), d.exact)
