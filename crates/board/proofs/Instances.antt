-- The statements of `specs/Claims` at small cases: each is taken as a hypothesis, and antt computes what it asks for. This file imports no proof of
-- a statement: one that holds of nothing, or says nothing, is refused here. Samples that `JobsOfYear` must rule out stand beside them.
use Prim.Native.Nat.{ℕ, zero, suc, ◌+◌, ◌*◌, ◌<◌}
use mathlib.Core.Path.{◌≡◌, refl, sym, ◌∙◌}
use mathlib.Core.Bool.{Bool, true, false, false≢true}
use mathlib.Core.List.Memᴰ
use mathlib.Core.List.{List, [], ◌∷◌}
use mathlib.Core.Option.{none, some, some-injective}
use native.Mathlib.Omega.{arith}
use borrow.Author.Tests.{ne_eqb}
use lib.Dec.{eqb, lit<}
use lib.ListN.{length, take, set, replicate}
use Rattle.stores.specs.Lists.{first_in, numbers_same}
use Rattle.stores.specs.Store.{word, store, apply}
use Rattle.stores.proofs.Stores.{word_set_other}
use Rattle.stores.proofs.Lists.{first_next}
use Rattle.std.specs.Prelude.{Ok}
use Rattle.replies.specs.declared.Reply.TheVariants.{Value}
use Rattle.replies.specs.Replies.{done, absent, refused, unless, replied}
use Rattle.replies.specs.Writing.{Writing, nothing}
use Rattle.replies.specs.Answered.{Wrote}
use Rattle.index_rules.specs.Layout.{depth, segments, valid_header, key_at}
use Rattle.index_rules.specs.Keys.{window}
use Rattle.index_rules.specs.Scan.{in_range}
use Rattle.index_rules.specs.Slots.{hit}
use Rattle.index_rules.specs.Get.{key_entry, key_segment, key_tests, entry_tests, get_tests, value_at_hit, get}
use Rattle.index_rules.proofs.Table.{computed}
use Rattle.text.specs.Parts.{started_by, parts, nonempty, lines_of, fields_of}
use Rattle.text.specs.Number.{is_digit, all_digits, value_from, number}
use Rattle.board.specs.Jobs.{valid_year, valid_month, valid_number, job_key}
use Rattle.board.specs.Print.{Job, job, text_of, print_year}
use Rattle.board.specs.ReadBack.{month_from, month_named, job_of, job_of_fields, in_front, jobs_of_lines, jobs_read}
use Rattle.board.specs.Claims.{JobsOfYear, Refuses, PrintSays, bad_year, passed_on, too_long, printed, PrintCases, AnyRefusal, Words, ReadsBack}

-- ---- The jobs of a year

-- One job: December's number 4095 of 2026, with the most pages. Its key is 132,829,183, its bucket 12.
abbrev one_job : List ℕ
one_job = apply (store 0 0x5041474600010200 ∷ store 104 132829183 ∷ store 105 18446744073709551615 ∷ []) (replicate 136 0)

abbrev most : ℕ
most = 18446744073709551615

pub found_there : get one_job (job_key 2026 12 4095) ≡ done (most ∷ [])
unfolding computed job_key
found_there = refl

-- Not the jobs of 2026: none, the job with other pages, one that no lookup finds, the job twice, and jobs of a month 0 and of a number 4096.
pub job_left_out : JobsOfYear one_job 2026 [] → ⊥
unfolding valid_month valid_number
job_left_out y = Memᴰ.not-nil (y.complete 12 4095 most refl refl found_there)

pub other_pages : JobsOfYear one_job 2026 (job 12 4095 1 ∷ []) → ⊥
other_pages y =
    let e : ◌≡◌ {A = ℕ} most 1 = cc (found_there, y.found (job 12 4095 1) (Memᴰ.head refl)) in
    omega arith

pub none_such : JobsOfYear one_job 2026 (job 12 4094 1 ∷ []) → ⊥
unfolding computed job_key
none_such y = let e : ◌≡◌ {A = ℕ} 0 1 = cc (y.found (job 12 4094 1) (Memᴰ.head refl)) in omega arith

pub job_twice : JobsOfYear one_job 2026 (job 12 4095 most ∷ job 12 4095 most ∷ []) → ⊥
job_twice y = omega (arith, y.rising.0 (job 12 4095 most) (Memᴰ.head refl))

pub month_0 : JobsOfYear one_job 2026 (job 0 4095 most ∷ []) → ⊥
unfolding valid_month
month_0 y = false≢true (y.months (job 0 4095 most) (Memᴰ.head refl))

pub number_4096 : JobsOfYear one_job 2026 (job 12 4096 most ∷ []) → ⊥
unfolding valid_number
number_4096 y = false≢true (y.numbers (job 12 4096 most) (Memᴰ.head refl))

-- ---- A year without a job, printed and read back

-- An index of D = 2, S = 1 with no record: all its words but the first are 0.
abbrev no_job : List ℕ
no_job = set (replicate 136 0) 0 0x5041474600010200

zeros : (n i : ℕ) → word (replicate n 0) i ≡ 0
zeros zero i = refl
zeros (suc n) zero = refl
zeros (suc n) (suc i) = zeros n i

empty_slot : (j : ℕ) → key_at no_job 8 j ≡ 0
empty_slot j = word_set_other (replicate 136 0) 0 (8 + 2 * j) 0x5041474600010200 (λ e. omega (arith, e)) ∙ zeros 136 (8 + 2 * j)

none_in : (test : ℕ → Bool) → ((x : ℕ) → test x ≡ false) → (xs : List ℕ) → first_in test xs ≡ none
unfolding first_in
none_in test fails [] = refl
none_in test fails (x ∷ xs) = first_next test x xs (fails x) ∙ none_in test fails xs

header_valid : valid_header no_job ≡ true
unfolding computed
header_valid = refl

entry_in_range : (key : ℕ) → in_range (depth no_job) (segments no_job) (key_entry no_job key) ≡ true
unfolding computed
entry_in_range key = refl

first_segment : (key : ℕ) → key_segment no_job key ≡ 8
unfolding computed
first_segment key = refl

no_hit : (key : ℕ) → 0 < key → hit no_job 8 key ≡ none
unfolding hit
no_hit key some_key =
    none_in (λ j. eqb (key_at no_job 8 j) key) (λ j. ne_eqb (key_at no_job 8 j) key (λ e. omega (arith, empty_slot j, e))) (window key)

no_page : (key : ℕ) → 0 < key → get no_job key ≡ absent
unfolding get get_tests key_tests entry_tests replied unless value_at_hit
no_page key some_key =
    rw (header_valid, ne_eqb key 0 (λ e. omega (arith, e)), entry_in_range key, first_segment key, no_hit key some_key) refl

no_job_holds : (month number : ℕ) → get no_job (job_key 2026 month number) ≡ absent
unfolding job_key
no_job_holds month number = no_page (2026 * 65536 + month * 4096 + number) (omega arith)

no_jobs : (jobs : List Job) → JobsOfYear no_job 2026 jobs → jobs ≡ []
no_jobs [] y = refl
no_jobs (j ∷ js) y =
    let e : ◌≡◌ {A = ℕ} 0 1 = cc (no_job_holds j.month j.number, y.found j (Memᴰ.head refl)) in
    absurd (omega arith)

year_valid : valid_year 2026 ≡ true
unfolding valid_year
year_valid = refl

no_text : text_of [] ≡ []
unfolding text_of
no_text = refl

-- A print with no line.
abbrev no_line : Writing
no_line = record { reply = done (0 ∷ []); words = [] }

pub nothing_printed : PrintCases → (room : ℕ) → print_year no_job 2026 room ≡ no_line
nothing_printed cases room = go (cases no_job 2026 room)
  where
    go : PrintSays no_job 2026 room (print_year no_job 2026 room) → print_year no_job 2026 room ≡ no_line
    go (bad_year y e) = absurd (false≢true (sym y ∙ year_valid))
    go (passed_on n y r o e) = let z : ◌≡◌ {A = ℕ} 0 1 = cc (no_job_holds r.month r.number, r.says) in absurd (omega arith)
    go (too_long jobs y no-refusal of-year long e) = absurd (omega (arith, rw (no_jobs jobs of-year, no_text) at long))
    go (printed jobs y no-refusal of-year fits e) = rw (no_jobs jobs of-year, no_text) at e

words_fit : Words no_job
words_fit zero = lit< tt
words_fit (suc i) = rw (word_set_other (replicate 136 0) 0 (suc i) 0x5041474600010200 (λ e. omega (arith, e)) ∙ zeros 136 (suc i)) (lit< tt)

-- A text reads back to at most one list of jobs.
read_once : {js ks : List Job} (text : List ℕ) → jobs_read text ≡ some js → jobs_read text ≡ some ks → js ≡ ks
read_once {js} {ks} text e f = some-injective js ks (sym e ∙ f)

nothing_read : jobs_read [] ≡ some []
unfolding jobs_read jobs_of_lines lines_of parts nonempty
nothing_read = refl

pub no_job_read_back : PrintCases → ReadsBack → JobsOfYear no_job 2026 []
no_job_read_back cases back =
    let r =
    back no_job words_fit 2026 0 (record { reply = Ok (Value 0); stores = 0 }) (5 ∷ []) (5 ∷ [])
    (rw (nothing_printed cases 1) (record { reply = refl; stores = refl; left = refl }))
    refl in
    rw (read_once [] r.1 nothing_read) at r.2

-- A done print of a year that has left a line and a byte behind it: the line's job is the year's only one.
abbrev october_line : List ℕ
october_line = 79 ∷ 99 ∷ 116 ∷ 9 ∷ 57 ∷ 9 ∷ 50 ∷ 48 ∷ 10 ∷ 5 ∷ []

october_read : jobs_read (take 9 october_line) ≡ some (job 10 9 20 ∷ [])
unfolding jobs_read jobs_of_lines lines_of parts nonempty started_by fields_of job_of_fields job_of month_named month_from number is_digit all_digits value_from in_front numbers_same
october_read = refl

pub october_read_back : ReadsBack → (a : List ℕ) → Words a → (year : ℕ) (before : List ℕ)
    → Wrote (print_year a year (length before)) (record { reply = Ok (Value 9); stores = 0 }) before october_line
    → JobsOfYear a year (job 10 9 20 ∷ [])
october_read_back back a words year before wrote =
    let r = back a words year 9 (record { reply = Ok (Value 9); stores = 0 }) before october_line wrote refl in
    rw (read_once (take 9 october_line) r.1 october_read) at r.2

-- ---- A refused lookup

-- No words: the lookup of every job is refused with 1.
refused_there : Refuses [] 2026 1
unfolding computed valid_month valid_number job_key
refused_there = record { month = 3; number = 7; month_valid = refl; number_valid = refl; says = refl }

pub refusal_passed_on : AnyRefusal → (room : ℕ) → print_year [] 2026 room ≡ nothing (refused 1)
refusal_passed_on any room = any [] 2026 room 1 year_valid refused_there
