-- Document 02, wish 2: the lines of a printed year.
use Rattle.std.specs.Prelude.{ℕ, suc, ◌-◌, List, [], ◌∷◌, ◌++◌, leb, length, get_or}
use Rattle.std.proofs.Math.Option.{Option, none, some}
use Rattle.stores.specs.Lists.{pick, each}
use Rattle.replies.specs.declared.Refusal.TheVariants.{ShortList}
use Rattle.replies.specs.Replies.{Said, done, listed, absent, refused, refuse}
use Rattle.replies.specs.Writing.{Writing, nothing, behind_tests}
use Rattle.index_rules.specs.Get.{get}
use Rattle.text.specs.Parts.{tab, line_feed}
use Rattle.text.specs.Number.{decimal}
use Rattle.board.specs.Jobs.{job_key, year_tests}

-- ---- A line

-- The twelve names, Jan to Dec.
abbrev pub month_names : List (List ℕ)
month_names =
    (74 ∷ 97 ∷ 110 ∷ []) ∷ (70 ∷ 101 ∷ 98 ∷ []) ∷ (77 ∷ 97 ∷ 114 ∷ []) ∷ (65 ∷ 112 ∷ 114 ∷ [])
    ∷ (77 ∷ 97 ∷ 121 ∷ []) ∷ (74 ∷ 117 ∷ 110 ∷ []) ∷ (74 ∷ 117 ∷ 108 ∷ []) ∷ (65 ∷ 117 ∷ 103 ∷ [])
    ∷ (83 ∷ 101 ∷ 112 ∷ []) ∷ (79 ∷ 99 ∷ 116 ∷ []) ∷ (78 ∷ 111 ∷ 118 ∷ []) ∷ (68 ∷ 101 ∷ 99 ∷ []) ∷ []

-- The name of a month, 1 to 12.
unfoldable pub month_name : (month : ℕ) → List ℕ
month_name month = get_or month_names (month - 1) []

-- A job of a year: its month, its number and the pages scanned.
pub record Job : Type 0 where
  pub month : ℕ
  pub number : ℕ
  pub pages : ℕ

-- The job with these.
abbrev pub job : (month number pages : ℕ) → Job
job month number pages = record { month = month; number = number; pages = pages }

-- A line: the month's name, a tab, the job number, a tab, the pages, a line feed.
unfoldable pub line_of : (name : List ℕ) → (number pages : ℕ) → List ℕ
line_of name number pages = name ++ (tab ∷ decimal number) ++ (tab ∷ decimal pages) ++ line_feed ∷ []

-- The line of a job.
unfoldable pub job_line : Job → List ℕ
job_line j = line_of (month_name j.month) j.number j.pages

-- The lines of jobs, one behind the other.
unfoldable pub text_of : List Job → List ℕ
text_of [] = []
text_of (j ∷ js) = job_line j ++ text_of js

-- ---- The lookups of a year

-- A job of the year, and what its lookup says.
pub record Lookup : Type 0 where
  pub month : ℕ
  pub number : ℕ
  pub said : Said

-- The lookup of a job in the array a.
abbrev pub lookup : List ℕ → (year month number : ℕ) → Lookup
lookup a year month number = record { month = month; number = number; said = get a (job_key year month number) }

-- The lookups of a month's jobs with these numbers, in their order.
unfoldable pub month_lookups : List ℕ → (year : ℕ) → (numbers : List ℕ) → (month : ℕ) → List Lookup
month_lookups a year [] month = []
month_lookups a year (n ∷ ns) month = lookup a year month n ∷ month_lookups a year ns month

-- The lookups of all months of a year, rising.
unfoldable pub year_lookups : List ℕ → (year : ℕ) → (numbers : List ℕ) → List Lookup
year_lookups a year numbers = each (λ m. month_lookups a year numbers (suc m)) 12

-- The job that a lookup finds, if it finds one.
unfoldable pub job_found : (month number : ℕ) → Said → List Job
job_found month number (done []) = []
job_found month number (done (pages ∷ values)) = job month number pages ∷ []
job_found month number (listed n f) = []
job_found month number absent = []
job_found month number (refused n) = []

-- The jobs that lookups find, in the order of the lookups.
unfoldable pub jobs_in : List Lookup → List Job
jobs_in [] = []
jobs_in (l ∷ ls) = job_found l.month l.number l.said ++ jobs_in ls

-- The lines of the jobs that lookups find.
abbrev pub lines_in : List Lookup → List ℕ
lines_in ls = text_of (jobs_in ls)

-- The number of the first lookup's refusal, or of the later ones' where that is none.
unfoldable pub first_refusal : Said → Option ℕ → Option ℕ
first_refusal (done values) later = later
first_refusal (listed n f) later = later
first_refusal absent later = later
first_refusal (refused n) later = some n

-- The number with which a lookup is refused, if one is. That every refused one has this number is `any_refusal` (proofs/Cases).
unfoldable pub refused_in : List Lookup → Option ℕ
refused_in [] = none
refused_in (l ∷ ls) = first_refusal l.said (refused_in ls)

-- ---- The call

-- The lines with their number of bytes, where they fit a buffer of `room` bytes; else 10.
unfoldable pub fitted : (room : ℕ) → (lines : List ℕ) → Writing
fitted room lines =
    pick (leb (length lines) room) (record { reply = done (length lines ∷ []); words = lines }) (nothing (refuse ShortList))

-- A print behind the lookups: the refusal with this number goes before it.
unfoldable pub behind_lookups : Option ℕ → Writing → Writing
behind_lookups none w = w
behind_lookups (some n) w = nothing (refused n)

-- The print of the lookups' jobs.
unfoldable pub print_of : (room : ℕ) → List Lookup → Writing
print_of room ls = behind_lookups (refused_in ls) (fitted room (lines_in ls))

-- The print of a year, of whose months these numbers are looked up: 11, the refusal of a lookup, 10.
unfoldable pub print_over : (numbers : List ℕ) → List ℕ → (year room : ℕ) → Writing
print_over numbers a year room = behind_tests (year_tests year none) (print_of room (year_lookups a year numbers))

-- The numbers of a month's jobs, 0 to 4095, rising.
unfoldable pub all_numbers : List ℕ
all_numbers = each (λ n. n ∷ []) 4096

-- The print of a year into a buffer of `room` bytes: what it says, and the lines that it writes.
unfoldable pub print_year : List ℕ → (year room : ℕ) → Writing
print_year a year room = print_over all_numbers a year room
