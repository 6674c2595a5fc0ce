-- Lists of lookups put together: their jobs, the bytes of their lines, and the first refusal among them.
use Prim.Native.Nat.{ℕ, zero, suc, ◌+◌, ◌*◌, ◌/◌, ◌%◌, ◌≤◌, ◌<◌}
use mathlib.Core.Path.{◌≡◌, refl, sym, ap, ◌∙◌}
use mathlib.Core.List.{List, [], ◌∷◌, ◌++◌, append_assoc, append-nil}
use mathlib.Core.Option.{Option, none, some}
use mathlib.Core.Logic.{⊎_elim}
use native.Mathlib.Nat.{add-zero, add-suc, le_refl, le_step, mul-suc, eq-or-lt_of_le, le_of_suc-le-suc}
use native.Mathlib.Omega.{arith}
use lib.ListN.{length, length-append}
use Rattle.stores.specs.Lists.{each}
use Rattle.stores.proofs.Lists.{each_zero, each_suc, some_none}
use Rattle.stores.specs.Written.{Written}
use Rattle.text.specs.declared.output.Output.{Output}
use Rattle.text.specs.Output.{HasRoom, Appended}
use Rattle.text.proofs.Appended.{appended_none, appended_append, room_behind}
use Rattle.std.specs.Prelude.{Ok, Err}
use Rattle.replies.specs.declared.Refusal.{Refusal}
use Rattle.replies.specs.Replies.{Said, done, listed, absent, refused, number_of}
use Rattle.board.specs.Print.{Job, job_line, text_of, Lookup, lookup, month_lookups, year_lookups, job_found, jobs_in, lines_in, first_refusal, refused_in, all_numbers}
use Rattle.board.specs.Passes.{bytes_of, CountedBy}

-- ---- One list behind another

pub jobs_append : (xs ys : List Lookup) → jobs_in (xs ++ ys) ≡ jobs_in xs ++ jobs_in ys
unfolding jobs_in
jobs_append [] ys = refl
jobs_append (l ∷ ls) ys =
    rw (jobs_append ls ys) (sym (append_assoc (job_found l.month l.number l.said) (jobs_in ls) (jobs_in ys)))

text_append : (xs ys : List Job) → text_of (xs ++ ys) ≡ text_of xs ++ text_of ys
unfolding text_of
text_append [] ys = refl
text_append (j ∷ js) ys = rw (text_append js ys) (sym (append_assoc (job_line j) (text_of js) (text_of ys)))

pub lines_append : (xs ys : List Lookup) → lines_in (xs ++ ys) ≡ lines_in xs ++ lines_in ys
lines_append xs ys = ap text_of (jobs_append xs ys) ∙ text_append (jobs_in xs) (jobs_in ys)

pub bytes_append : (xs ys : List Lookup) → bytes_of (xs ++ ys) ≡ bytes_of xs + bytes_of ys
bytes_append xs ys = ap length (lines_append xs ys) ∙ length-append (lines_in xs) (lines_in ys)

-- Where the first list has no refused lookup, the second decides; else the first.
first_behind : (s : Said) (later whole rest : Option ℕ) → (later ≡ none → whole ≡ rest)
    → first_refusal s later ≡ none → first_refusal s whole ≡ rest
unfolding first_refusal
first_behind (done vs) later whole rest h e = h e
first_behind (listed n f) later whole rest h e = h e
first_behind absent later whole rest h e = h e
first_behind (refused n) later whole rest h e = absurd (some_none n e)

pub refused_behind : (xs ys : List Lookup) → refused_in xs ≡ none → refused_in (xs ++ ys) ≡ refused_in ys
unfolding refused_in
refused_behind [] ys e = refl
refused_behind (l ∷ ls) ys e = first_behind l.said (refused_in ls) _ _ (refused_behind ls ys) e

first_front : (s : Said) (later whole : Option ℕ) (n : ℕ) → (later ≡ some n → whole ≡ some n)
    → first_refusal s later ≡ some n → first_refusal s whole ≡ some n
unfolding first_refusal
first_front (done vs) later whole n h e = h e
first_front (listed k f) later whole n h e = h e
first_front absent later whole n h e = h e
first_front (refused m) later whole n h e = e

pub refused_front : (xs ys : List Lookup) (n : ℕ) → refused_in xs ≡ some n → refused_in (xs ++ ys) ≡ some n
unfolding refused_in
refused_front [] ys n e = absurd (some_none n (sym e))
refused_front (l ∷ ls) ys n e = first_front l.said (refused_in ls) _ n (refused_front ls ys n) e

-- ---- The turns of a loop

module _ (f : ℕ → List Lookup) where
  pub lines_turn : (n : ℕ) → lines_in (each f (suc n)) ≡ lines_in (each f n) ++ lines_in (f n)
  lines_turn n = ap lines_in (each_suc f n) ∙ lines_append (each f n) (f n)

  pub bytes_turn : (n : ℕ) → bytes_of (each f (suc n)) ≡ bytes_of (each f n) + bytes_of (f n)
  bytes_turn n = ap bytes_of (each_suc f n) ∙ bytes_append (each f n) (f n)

  -- What a loop has counted before its first turn, after one more, and where it stops at a refused lookup.
  pub counted_start : CountedBy (Ok 0) (each f 0)
  unfolding refused_in jobs_in text_of
  counted_start = rw (each_zero f) (refl, refl)

  pub counted_turn : (n m k : ℕ) → CountedBy (Ok m) (each f n) → CountedBy (Ok k) (f n) → CountedBy (Ok (m + k)) (each f (suc n))
  counted_turn n m k before more = (
    ap refused_in (each_suc f n) ∙ refused_behind (each f n) (f n) before.0 ∙ more.0,
    rw (before.1, more.1) (sym (bytes_turn n)),
  )

  refused_turn : (n m : ℕ) → refused_in (each f n) ≡ some m → refused_in (each f (suc n)) ≡ some m
  refused_turn n m e = ap refused_in (each_suc f n) ∙ refused_front (each f n) (f n) m e

  refused_later : (m n last : ℕ) → n ≤ last → refused_in (each f n) ≡ some m → refused_in (each f last) ≡ some m
  refused_later m n zero h e = let z : n ≡ 0 = omega arith in rw z at e
  refused_later m n (suc last) h e =
      ⊎_elim
      (λ (q : n ≡ suc last). rw q at e)
      (λ (k : n < suc last). refused_turn last m (refused_later m n last (le_of_suc-le-suc k) e))
      (eq-or-lt_of_le h)

  pub counted_stops : (n m : ℕ) (r : Refusal) (last : ℕ) → n < last → CountedBy (Ok m) (each f n) → CountedBy (Err r) (f n)
      → CountedBy (Err r) (each f last)
  counted_stops n m r last h before stop =
      refused_later (number_of r) (suc n) last h
      (ap refused_in (each_suc f n) ∙ refused_behind (each f n) (f n) before.0 ∙ stop)

  -- The bytes before a turn and those of the turn are no more than all.
  bytes_later : (n last : ℕ) → n ≤ last → bytes_of (each f n) ≤ bytes_of (each f last)
  bytes_later n zero h = let z : n ≡ 0 = omega arith in rw z (le_refl _)
  bytes_later n (suc last) h =
      ⊎_elim
      (λ (q : n ≡ suc last). rw q (le_refl _))
      (λ (k : n < suc last).
      let e = bytes_turn last in
      let l = bytes_later n last (le_of_suc-le-suc k) in
      omega arith)
      (eq-or-lt_of_le h)

  pub bytes_within : (n last : ℕ) → n < last → bytes_of (each f n) + bytes_of (f n) ≤ bytes_of (each f last)
  bytes_within n last h =
      let e = bytes_turn n in
      let l = bytes_later (suc n) last h in
      omega arith

  -- Where a turn has at most m bytes, n turns have at most m × n.
  pub bytes_each : (m n : ℕ) → ((i : ℕ) → i < n → bytes_of (f i) ≤ m) → bytes_of (each f n) ≤ m * n
  unfolding jobs_in text_of
  bytes_each m zero h = rw (each_zero f) (omega arith)
  bytes_each m (suc n) h =
      let e = bytes_turn n in
      let k = bytes_each m n (λ i l. h i (le_step l)) in
      let last : bytes_of (f n) ≤ m = h n (le_refl (suc n)) in
      let more : m * suc n ≡ m * n + m = mul-suc m n in
      omega arith

  -- What a loop has written before its first turn, and after one more; and that its next turn's lines fit where all do.
  pub written_start : (o : Output) → Appended (lines_in (each f 0)) o o
  unfolding jobs_in text_of
  written_start o = rw (each_zero f) (appended_none o)

  module _ (n last : ℕ) (o o₁ : Output) (early : n < last) (fits : HasRoom (lines_in (each f last)) o) (w : Appended (lines_in (each f n)) o o₁) where
    both_fit : HasRoom (lines_in (each f n) ++ lines_in (f n)) o
    both_fit =
        let b = bytes_within n last early in
        let e = length-append (lines_in (each f n)) (lines_in (f n)) in
        omega arith

    pub turn_fits : HasRoom (lines_in (f n)) o₁
    turn_fits = room_behind (lines_in (each f n)) (lines_in (f n)) o o₁ both_fit w

    pub written_turn : (o₂ : Output) → Appended (lines_in (f n)) o₁ o₂ → Appended (lines_in (each f (suc n))) o o₂
    written_turn o₂ v = rw (lines_turn n) (appended_append (lines_in (each f n)) (lines_in (f n)) o o₁ both_fit w o₂ v)

-- The buffer of an output, as it is left.
pub written_to : (ls : List Lookup) (before : List ℕ) (o : Output) (after : List ℕ) → Written (lines_in ls) 0 before o.written o.bytes.now
    → after ≡ o.bytes.now → Written (lines_in ls) 0 before o.written after
written_to ls before o after w e = rw e w

-- ---- A month, and a year

month_append : (a : List ℕ) (year month : ℕ) (xs ys : List ℕ)
    → month_lookups a year (xs ++ ys) month ≡ month_lookups a year xs month ++ month_lookups a year ys month
unfolding month_lookups
month_append a year month [] ys = refl
month_append a year month (n ∷ ns) ys = ap (λ (ls : List Lookup). lookup a year month n ∷ ls) (month_append a year month ns ys)

month_numbers : (a : List ℕ) (year month k : ℕ)
    → month_lookups a year (each (λ n. n ∷ []) k) month ≡ each (λ n. lookup a year month n ∷ []) k
unfolding each month_lookups
month_numbers a year month zero = refl
month_numbers a year month (suc k) =
    month_append a year month (each (λ n. n ∷ []) k) (k ∷ []) ∙ ap (λ (ls : List Lookup). ls ++ lookup a year month k ∷ []) (month_numbers a year month k)

-- The lookup of one job as a turn of a month's loop.
abbrev pub job_turn : List ℕ → (year month : ℕ) → ℕ → List Lookup
job_turn a year month n = lookup a year month n ∷ []

-- The lookups of a month as a turn of the year's loop, which counts months from 0.
abbrev pub month_turn : List ℕ → (year : ℕ) → ℕ → List Lookup
month_turn a year m = month_lookups a year all_numbers (suc m)

pub month_each : (a : List ℕ) (year month : ℕ) → month_lookups a year all_numbers month ≡ each (job_turn a year month) 4096
unfolding all_numbers
month_each a year month = month_numbers a year month 4096

pub year_each : (a : List ℕ) (year : ℕ) → year_lookups a year all_numbers ≡ each (month_turn a year) 12
unfolding year_lookups
year_each a year = refl

-- The lookup of the job at a place of its year, as a turn of the loop over all of them.
abbrev pub place_turn : List ℕ → (year : ℕ) → ℕ → List Lookup
place_turn a year place = job_turn a year (place / 4096 + 1) (place % 4096)

-- The turns from n on may be those of another loop.
each_add : (f g : ℕ → List Lookup) (n k : ℕ) → ((i : ℕ) → i < k → f (n + i) ≡ g i) → each f (n + k) ≡ each f n ++ each g k
unfolding each
each_add f g n zero h = rw (add-zero n, append-nil (each f n))
each_add f g n (suc k) h =
    let earlier = each_add f g n k (λ i l. h i (le_step l)) in
    rw (add-suc n k, each_suc f (n + k), earlier, h k (le_refl (suc k)), append_assoc (each f n) (each g k) (g k))

-- A year's places, month by month.
place_in_month : (a : List ℕ) (year m n : ℕ) → n < 4096 → place_turn a year (m * 4096 + n) ≡ job_turn a year (suc m) n
place_in_month a year m n h =
    let month : (m * 4096 + n) / 4096 + 1 ≡ suc m = omega arith in
    let number : (m * 4096 + n) % 4096 ≡ n = omega arith in
    rw (month, number)

month_places : (a : List ℕ) (year m : ℕ) → each (month_turn a year) m ≡ each (place_turn a year) (m * 4096)
unfolding each
month_places a year zero = refl
month_places a year (suc m) =
    let places : suc m * 4096 ≡ m * 4096 + 4096 = omega arith in
    rw (places, each_add (place_turn a year) (job_turn a year (suc m)) (m * 4096) 4096 (λ n h. place_in_month a year m n h), ← (month_each a year (suc m)), ← (month_places a year m))

pub year_places : (a : List ℕ) (year : ℕ) → year_lookups a year all_numbers ≡ each (place_turn a year) 49152
year_places a year = year_each a year ∙ month_places a year 12
