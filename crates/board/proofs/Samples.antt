-- The board on small stores: calls on single jobs, prints and what reads back. antt computes each row from the definitions. A print
-- looks up the numbers 0, 9, 10 and 4095 of each month, and where a row says so others.
use Prim.Native.Nat.{ℕ, suc, ◌+◌}
use mathlib.Core.Path.{◌≡◌, refl, ap, ap₂}
use mathlib.Core.Bool.{Bool, true, false, false≢true, ◌&&◌}
use mathlib.Core.List.{List, [], ◌∷◌, ◌++◌}
use mathlib.Core.Option.{Option, none, some}
use borrow.Author.Tests.{eqb-true}
use lib.Dec.{eqb}
use lib.ListN.{replicate}
use Rattle.stores.specs.Lists.{each, numbers_same}
use Rattle.stores.specs.Store.{Store, store, apply}
use Rattle.stores.proofs.Tests.{and_left, and_right}
use Rattle.stores.specs.Plan.{Outcome}
use Rattle.replies.specs.Replies.{Said, done, absent, refused, said_same}
use Rattle.replies.specs.Writing.{Writing, behind_tests}
use Rattle.index_rules.specs.declared.Call.TheVariants.{Format}
use Rattle.index_rules.specs.Step.{outcome_of}
use Rattle.index_rules.proofs.Table.{computed, words_seen}
use Rattle.text.specs.Parts.{started_by, parts, nonempty, lines_of, fields_of}
use Rattle.text.specs.Number.{is_digit, all_digits, value_from, number, spelled, decimal}
use Rattle.board.specs.Jobs.{valid_year, valid_month, valid_number, job_key, year_tests, job_tests, behind, on_job, set_job, read_job, remove_job}
use Rattle.board.specs.Print.{month_name, Job, job, line_of, job_line, text_of, month_lookups, year_lookups, job_found, jobs_in, first_refusal, refused_in, fitted, behind_lookups, print_of, print_over}
use Rattle.board.specs.ReadBack.{month_from, month_named, job_of, job_of_fields, in_front, jobs_of_lines, jobs_read}

-- ---- Rows

-- A call on one job.
pub data JobCall : Type 0 where
  sets : (year month number pages allowance : ℕ) → JobCall
  reads : (year month number : ℕ) → JobCall
  removes : (year month number allowance : ℕ) → JobCall

-- A call, what it is to say, and the stores it is to make.
pub record Made : Type 0 where
  pub call : JobCall
  pub said : Said
  pub stores : ℕ

-- A print of a year of which these numbers are looked up, into a buffer of `room` bytes; what it is to say, and its lines.
pub record Wanted : Type 0 where
  pub numbers : List ℕ
  pub year : ℕ
  pub room : ℕ
  pub said : Said
  pub lines : List ℕ

pub data Row : Type 0 where
  -- the calls are made on the array, one after the other; afterwards these words stand there
  calls : (array : List ℕ) → List Made → (words : List Store) → Row
  -- the prints are made of the array
  prints : (array : List ℕ) → List Wanted → Row
  -- the text reads back to these jobs, or to none
  backs : (text : List ℕ) → Option (List Job) → Row

-- ---- The test

outcome : List ℕ → JobCall → Outcome Said
outcome a (sets year month number pages allowance) = set_job a year month number pages allowance
outcome a (reads year month number) = read_job a year month number
outcome a (removes year month number allowance) = remove_job a year month number allowance

-- The array that calls leave.
left : List ℕ → List JobCall → List ℕ
left a [] = a
left a (c ∷ cs) = left (outcome a c).after cs

said_so_holds : Outcome Said → Made → Bool
said_so_holds o m = said_same o.reply m.said && eqb o.made m.stores

calls_pass : List ℕ → List Made → List Store → Bool
calls_pass a [] words = words_seen a words
calls_pass a (m ∷ ms) words = said_so_holds (outcome a m.call) m && calls_pass (outcome a m.call).after ms words

print_same : Writing → Wanted → Bool
print_same p w = said_same p.reply w.said && numbers_same p.words w.lines

prints_pass : List ℕ → List Wanted → Bool
prints_pass a [] = true
prints_pass a (w ∷ ws) = print_same (print_over w.numbers a w.year w.room) w && prints_pass a ws

jobs_same : List Job → List Job → Bool
jobs_same [] [] = true
jobs_same [] (k ∷ ks) = false
jobs_same (j ∷ js) [] = false
jobs_same (j ∷ js) (k ∷ ks) =
    (eqb j.month k.month && (eqb j.number k.number && eqb j.pages k.pages)) && jobs_same js ks

read_same : Option (List Job) → Option (List Job) → Bool
read_same none none = true
read_same none (some ks) = false
read_same (some js) none = false
read_same (some js) (some ks) = jobs_same js ks

-- Jobs that the tests find to be the same are.
same_jobs : (js ks : List Job) → jobs_same js ks ≡ true → js ≡ ks
unfolding jobs_same
same_jobs [] [] e = refl
same_jobs [] (k ∷ ks) e = absurd (false≢true e)
same_jobs (j ∷ js) [] e = absurd (false≢true e)
same_jobs (j ∷ js) (k ∷ ks) e =
    let m : Bool = eqb j.month k.month in
    let n : Bool = eqb j.number k.number in
    let p : Bool = eqb j.pages k.pages in
    let all = and_left (m && (n && p)) (jobs_same js ks) e in
    let rest = and_right m (n && p) all in
    let same : j ≡ k = λ i. record {
      month = eqb-true j.month k.month (and_left m (n && p) all) i;
      number = eqb-true j.number k.number (and_left n p rest) i;
      pages = eqb-true j.pages k.pages (and_right n p rest) i;
    } in
    ap₂ (λ (h : Job) (hs : List Job). h ∷ hs) same (same_jobs js ks (and_right (m && (n && p)) (jobs_same js ks) e))

same_read : (x y : Option (List Job)) → read_same x y ≡ true → x ≡ y
unfolding read_same
same_read none none e = refl
same_read none (some ks) e = absurd (false≢true e)
same_read (some js) none e = absurd (false≢true e)
same_read (some js) (some ks) e = ap some (same_jobs js ks e)

passes : Row → Bool
passes (calls a made words) = calls_pass a made words
passes (prints a wanted) = prints_pass a wanted
passes (backs text jobs) = read_same (jobs_read text) jobs

-- Every row passes.
unfoldable pub all_pass : List Row → Bool
unfolding computed numbers_same said_same outcome left words_seen said_so_holds calls_pass print_same prints_pass jobs_same read_same passes
all_pass [] = true
all_pass (r ∷ rs) = passes r && all_pass rs

-- ---- The stores

-- `lent` words, all 0, with an index of D and S.
formatted : (lent D S : ℕ) → List ℕ
formatted lent D S = (outcome_of (replicate lent 0) (Format D S 100)).after

-- Two months of 2026 and a job of 2027, set in no order.
jobs_set : List JobCall
jobs_set =
    sets 2026 12 4095 18446744073709551615 100
    ∷ sets 2026 1 10 12 100
    ∷ sets 2026 1 0 0 100
    ∷ sets 2027 1 9 5 100
    ∷ sets 2026 1 4095 7 100
    ∷ sets 2026 12 0 65536 100
    ∷ sets 2026 1 9 18446744073709551615 100
    ∷ []

small : List ℕ
small = left (formatted 520 2 4) jobs_set

-- The same with D = 4, S = 8, its directory at depth 4 and every entry the same; and entry i in it made to name segment s.
deep : (i s : ℕ) → List ℕ
deep i s =
    apply
    (store 0 0x5041474600080404 ∷ each (λ e. store (16 + e) 0 ∷ []) 16 ++ (store (16 + i) s ∷ []))
    (left (formatted 1056 4 8) jobs_set)

-- ---- The table

four : List ℕ
four = 0 ∷ 9 ∷ 10 ∷ 4095 ∷ []

-- The year 2026: Jan 0, 9, 10 and 4095, Dec 0 and 4095.
year2026 : List ℕ
year2026 =
    74 ∷ 97 ∷ 110 ∷ 9 ∷ 48 ∷ 9 ∷ 48 ∷ 10
    ∷ 74 ∷ 97 ∷ 110 ∷ 9 ∷ 57 ∷ 9 ∷ 49 ∷ 56 ∷ 52 ∷ 52 ∷ 54 ∷ 55 ∷ 52 ∷ 52 ∷ 48 ∷ 55 ∷ 51 ∷ 55 ∷ 48 ∷ 57 ∷ 53 ∷ 53 ∷ 49 ∷ 54 ∷ 49 ∷ 53 ∷ 10
    ∷ 74 ∷ 97 ∷ 110 ∷ 9 ∷ 49 ∷ 48 ∷ 9 ∷ 49 ∷ 50 ∷ 10
    ∷ 74 ∷ 97 ∷ 110 ∷ 9 ∷ 52 ∷ 48 ∷ 57 ∷ 53 ∷ 9 ∷ 55 ∷ 10
    ∷ 68 ∷ 101 ∷ 99 ∷ 9 ∷ 48 ∷ 9 ∷ 54 ∷ 53 ∷ 53 ∷ 51 ∷ 54 ∷ 10
    ∷ 68 ∷ 101 ∷ 99 ∷ 9 ∷ 52 ∷ 48 ∷ 57 ∷ 53 ∷ 9 ∷ 49 ∷ 56 ∷ 52 ∷ 52 ∷ 54 ∷ 55 ∷ 52 ∷ 52 ∷ 48 ∷ 55 ∷ 51 ∷ 55 ∷ 48 ∷ 57 ∷ 53 ∷ 53 ∷ 49 ∷ 54 ∷ 49 ∷ 53 ∷ 10
    ∷ []

wanted : (year room : ℕ) (said : Said) (lines : List ℕ) → Wanted
wanted year room said lines = record { numbers = four; year = year; room = room; said = said; lines = lines }

refusing : (numbers : List ℕ) (year room n : ℕ) → Wanted
refusing numbers year room n = record { numbers = numbers; year = year; room = room; said = refused n; lines = [] }

made : JobCall → Said → ℕ → Made
made call said stores = record { call = call; said = said; stores = stores }

pub samples : List Row
samples =
    -- the last job there can be, and the first: the key's word and the value's; cut calls, as the index's are
    calls (formatted 520 2 4)
    (made (sets 9999 12 4095 3 100) (done []) 2
    ∷ made (reads 9999 12 4095) (done (3 ∷ [])) 0
    ∷ made (sets 1 1 0 4 0) (refused 7) 0
    ∷ made (sets 1 1 0 4 1) (refused 7) 1
    ∷ made (reads 1 1 0) absent 0
    ∷ made (sets 1 1 0 4 2) (done []) 2
    ∷ made (reads 1 1 0) (done (4 ∷ [])) 0
    ∷ made (sets 1 1 0 9 1) (done []) 1
    ∷ made (removes 1 1 0 0) (refused 7) 0
    ∷ made (removes 1 1 0 1) (done []) 1
    ∷ made (removes 1 1 0 0) absent 0
    -- 11, 12 and 13, each ahead of those after it
    ∷ made (reads 0 0 4096) (refused 11) 0
    ∷ made (sets 10000 13 4096 1 9) (refused 11) 0
    ∷ made (removes 1 0 4096 9) (refused 12) 0
    ∷ made (reads 1 13 4096) (refused 12) 0
    ∷ made (sets 9999 12 4096 1 9) (refused 13) 0
    ∷ [])
    (store 104 655347711 ∷ store 105 3 ∷ store 40 0 ∷ store 41 9 ∷ [])
    -- and ahead of all refusals of the index; behind them 1, as the index says
    ∷ calls []
    (made (reads 0 1 1) (refused 11) 0
    ∷ made (sets 1 0 1 1 9) (refused 12) 0
    ∷ made (removes 1 1 4096 9) (refused 13) 0
    ∷ made (removes 1 1 4095 9) (refused 1) 0
    ∷ [])
    []
    -- where jobs stand: key, then value
    ∷ calls small [] (store 40 132780032 ∷ store 8 132825088 ∷ store 9 65536 ∷ store 112 132845577 ∷ store 114 132780041 ∷ store 72 132784127 ∷ [])
    -- months and numbers rise; a buffer exactly long enough, one byte short, and none
    ∷ prints small
    (wanted 2026 98 (done (98 ∷ [])) year2026
    ∷ wanted 2026 1000 (done (98 ∷ [])) year2026
    ∷ wanted 2026 97 (refused 10) []
    ∷ wanted 2026 0 (refused 10) []
    -- another year, and an empty one, for which no buffer is needed
    ∷ wanted 2027 8 (done (8 ∷ [])) (74 ∷ 97 ∷ 110 ∷ 9 ∷ 57 ∷ 9 ∷ 53 ∷ 10 ∷ [])
    ∷ wanted 2025 0 (done (0 ∷ [])) []
    ∷ refusing four 0 1000 11
    ∷ refusing four 10000 0 11
    ∷ [])
    -- entry 3, to which numbers such as 64 lead and none of the four, names no segment: the year prints, and with 64 it does not
    ∷ prints (deep 3 99)
    (wanted 2026 98 (done (98 ∷ [])) year2026
    ∷ refusing (64 ∷ []) 2026 1000 3
    ∷ [])
    -- entry 14, to which Jan 4095 leads: 3, also where the lines would not fit
    ∷ prints (deep 14 8)
    (refusing four 2026 1000 3
    ∷ refusing four 2026 0 3
    ∷ refusing four 0 0 11
    ∷ record { numbers = 0 ∷ 9 ∷ 10 ∷ []; year = 2027; room = 8; said = done (8 ∷ []); lines = 74 ∷ 97 ∷ 110 ∷ 9 ∷ 57 ∷ 9 ∷ 53 ∷ 10 ∷ [] }
    ∷ [])
    -- no store: 1, behind 11 and ahead of 10
    ∷ prints [] (refusing four 2026 1000 1 ∷ refusing four 2026 0 1 ∷ refusing four 0 1000 11 ∷ [])
    -- what was printed reads back
    ∷ backs year2026
    (some
    (job 1 0 0 ∷ job 1 9 18446744073709551615 ∷ job 1 10 12 ∷ job 1 4095 7 ∷ job 12 0 65536 ∷ job 12 4095 18446744073709551615 ∷ []))
    ∷ backs [] (some [])
    -- a name that is none, a field too few, a field that is no number
    ∷ backs (74 ∷ 97 ∷ 120 ∷ 9 ∷ 57 ∷ 9 ∷ 53 ∷ 10 ∷ []) none
    ∷ backs (74 ∷ 97 ∷ 110 ∷ 9 ∷ 57 ∷ 10 ∷ []) none
    ∷ backs (74 ∷ 97 ∷ 110 ∷ 9 ∷ 57 ∷ 9 ∷ 120 ∷ 10 ∷ []) none
    ∷ []

pub samples_pass : all_pass samples ≡ true
unfolding all_pass samples formatted jobs_set small deep four year2026 wanted refusing made started_by parts nonempty lines_of fields_of is_digit all_digits value_from number spelled decimal valid_year valid_month valid_number job_key year_tests job_tests behind on_job month_name line_of job_line text_of month_lookups year_lookups job_found jobs_in first_refusal refused_in fitted behind_lookups behind_tests print_of print_over month_from month_named job_of job_of_fields in_front jobs_of_lines jobs_read
samples_pass = refl

-- Jan to Dec, by the bytes of their letters.
pub names : ◌≡◌ {A = List (List ℕ)} (each (λ m. month_name (suc m) ∷ []) 12)
    ((74 ∷ 97 ∷ 110 ∷ []) ∷ (70 ∷ 101 ∷ 98 ∷ []) ∷ (77 ∷ 97 ∷ 114 ∷ []) ∷ (65 ∷ 112 ∷ 114 ∷ [])
    ∷ (77 ∷ 97 ∷ 121 ∷ []) ∷ (74 ∷ 117 ∷ 110 ∷ []) ∷ (74 ∷ 117 ∷ 108 ∷ []) ∷ (65 ∷ 117 ∷ 103 ∷ [])
    ∷ (83 ∷ 101 ∷ 112 ∷ []) ∷ (79 ∷ 99 ∷ 116 ∷ []) ∷ (78 ∷ 111 ∷ 118 ∷ []) ∷ (68 ∷ 101 ∷ 99 ∷ []) ∷ [])
unfolding each month_name
names = refl
