-- The jobs that the lookups of a year find: exactly those of the year, each once, months and numbers rising.
use Prim.Native.Nat.{ℕ, zero, suc, ◌+◌, ◌-◌, ◌*◌, ◌≤◌, ◌<◌}
use mathlib.Core.Path.{◌≡◌, refl, sym, ap, ◌∙◌}
use mathlib.Core.List.Memᴰ
use mathlib.Core.List.{List, [], ◌∷◌, ◌++◌, append-nil, Memᴰ}
use mathlib.Core.Logic.{⊎_elim}
use native.Mathlib.Nat.{le_refl, le_step}
use native.Mathlib.Omega.{arith}
use Rattle.stores.specs.Lists.{each}
use Rattle.stores.proofs.Lists.{each_same, mem_each, each_mem}
use Rattle.replies.specs.Replies.{Said, done, listed, absent, refused}
use Rattle.index_rules.specs.Get.{get, GetSays, finds, misses, no_store, no_key, broken}
use Rattle.index_laws.proofs.Lookups.{get_says}
use Rattle.board.specs.Jobs.{job_key}
use Rattle.board.specs.Print.{Job, job, Lookup, year_lookups, job_found, jobs_in, all_numbers}
use Rattle.board.specs.Claims.{place_of, Rising, JobsOfYear}
use Rattle.board.proofs.Jobs.{month_bounds, month_valid, number_bound, number_valid}
use Rattle.board.proofs.Lookups.{jobs_append, job_turn, month_turn, month_each, year_each}

-- ---- As loops over months, from 0, and numbers

-- The job with number n of month m + 1, where a lookup finds it.
abbrev found_at : List ℕ → (year m n : ℕ) → List Job
found_at a year m n = job_found (suc m) n (get a (job_key year (suc m) n))

-- Those of a month.
abbrev found_in : List ℕ → (year m : ℕ) → List Job
found_in a year m = each (found_at a year m) 4096

jobs_each : (f : ℕ → List Lookup) (n : ℕ) → jobs_in (each f n) ≡ each (λ i. jobs_in (f i)) n
unfolding each jobs_in
jobs_each f zero = refl
jobs_each f (suc n) = jobs_append (each f n) (f n) ∙ ap (λ (js : List Job). js ++ jobs_in (f n)) (jobs_each f n)

one_job_holds : (a : List ℕ) (year m n : ℕ) → jobs_in (job_turn a year (suc m) n) ≡ found_at a year m n
unfolding jobs_in
one_job_holds a year m n = append-nil (found_at a year m n)

month_jobs : (a : List ℕ) (year m : ℕ) → jobs_in (month_turn a year m) ≡ found_in a year m
month_jobs a year m =
    ap jobs_in (month_each a year (suc m)) ∙ jobs_each (job_turn a year (suc m)) 4096
    ∙ each_same (λ n. jobs_in (job_turn a year (suc m) n)) (found_at a year m) 4096 (λ n h. one_job_holds a year m n)

year_jobs : (a : List ℕ) (year : ℕ) → jobs_in (year_lookups a year all_numbers) ≡ each (found_in a year) 12
year_jobs a year =
    ap jobs_in (year_each a year) ∙ jobs_each (month_turn a year) 12
    ∙ each_same (λ m. jobs_in (month_turn a year m)) (found_in a year) 12 (λ m h. month_jobs a year m)

-- ---- Which jobs they are

-- The job j is the one with number n of month m + 1, and a lookup finds it.
pub record FoundAt (a : List ℕ) (year m n : ℕ) (j : Job) : Type 0 where
  pub month_is : j.month ≡ suc m
  pub number_is : j.number ≡ n
  pub found : get a (job_key year (suc m) n) ≡ done (j.pages ∷ [])

module _ (a : List ℕ) (year m n : ℕ) where
  pub mem_found : (j : Job) → Memᴰ j (found_at a year m n) → FoundAt a year m n j
  unfolding job_found
  mem_found j h = go (get_says a (job_key year (suc m) n))
    where
      none_found : (s : Said) → get a (job_key year (suc m) n) ≡ s → job_found (suc m) n s ≡ [] → ⊥
      none_found s e k = Memᴰ.not-nil (rw (e, k) at h)

      go : GetSays a (get a (job_key year (suc m) n)) → FoundAt a year m n j
      go (finds i e) =
          let same : j ≡ job (suc m) n _ = Memᴰ.eq_of_singleton (rw e at h) in
          record {
            month_is = ap (λ (x : Job). x.month) same;
            number_is = ap (λ (x : Job). x.number) same;
            found = e ∙ ap (λ (x : Job). done (x.pages ∷ [])) (sym same);
          }
      go (misses e) = absurd (none_found absent e refl)
      go (no_store e) = absurd (none_found (refused 1) e refl)
      go (no_key e) = absurd (none_found (refused 2) e refl)
      go (broken e) = absurd (none_found (refused 3) e refl)

  pub found_mem : (pages : ℕ) → get a (job_key year (suc m) n) ≡ done (pages ∷ []) → Memᴰ (job (suc m) n pages) (found_at a year m n)
  unfolding job_found
  found_mem pages e = rw e (Memᴰ.head refl)

  -- At most one job, so they rise.
  found_rises : Rising (found_at a year m n)
  unfolding job_found
  found_rises = go (get a (job_key year (suc m) n))
    where
      go : (s : Said) → Rising (job_found (suc m) n s)
      go (done []) = Prim.tt
      go (done (p ∷ ps)) = ((λ k h. absurd (Memᴰ.not-nil h)), Prim.tt)
      go (listed m f) = Prim.tt
      go absent = Prim.tt
      go (refused r) = Prim.tt

  pub lookup_finds : (j : Job) → FoundAt a year m n j → get a (job_key year j.month j.number) ≡ done (j.pages ∷ [])
  lookup_finds j h = rw (h.month_is, h.number_is) h.found

-- Where a job of the year stands.
pub record Stands (a : List ℕ) (year : ℕ) (j : Job) : Type 0 where
  pub m : ℕ
  pub n : ℕ
  pub m_low : m < 12
  pub n_low : n < 4096
  pub at : FoundAt a year m n j

stands : (a : List ℕ) (year : ℕ) (j : Job) → Memᴰ j (each (found_in a year) 12) → Stands a year j
stands a year j h =
    let r = mem_each j (found_in a year) 12 h in
    let q = mem_each j (found_at a year r.0) 4096 r.2 in
    record { m = r.0; n = q.0; m_low = r.1; n_low = q.1; at = mem_found a year r.0 q.0 j q.2 }

-- A job that is found stands there.
found_stands : (a : List ℕ) (year m n pages : ℕ) → m < 12 → n < 4096 → get a (job_key year (suc m) n) ≡ done (pages ∷ [])
    → Memᴰ (job (suc m) n pages) (each (found_in a year) 12)
found_stands a year m n pages h k e =
    each_mem (job (suc m) n pages) (found_in a year) 12 m h
    (each_mem (job (suc m) n pages) (found_at a year m) 4096 n k (found_mem a year m n pages e))

-- ---- They rise

rising_append : (xs ys : List Job) → Rising xs → Rising ys
    → ((x y : Job) → Memᴰ x xs → Memᴰ y ys → place_of x < place_of y) → Rising (xs ++ ys)
rising_append [] ys r s h = s
rising_append (x ∷ xs) ys r s h = (
  (λ k m.
      ⊎_elim
      (λ (p : Memᴰ k xs). r.0 k p)
      (λ (p : Memᴰ k ys). h x k (Memᴰ.head refl) p)
      (Memᴰ.append_cases xs m)),
  rising_append xs ys r.1 s (λ y z p q. h y z (Memᴰ.tail p) q),
)

-- Turns whose jobs rise, and stand between bounds that do not fall, rise together.
module _ (f : ℕ → List Job) (low : ℕ → ℕ) (up : (i : ℕ) → low i ≤ low (suc i)) where
  pub rising_each : (n : ℕ) → ((i : ℕ) → i < n → Rising (f i))
      → ((i : ℕ) (j : Job) → i < n → Memᴰ j (f i) → (low i ≤ place_of j) × (place_of j < low (suc i)))
      → Rising (each f n) × ((j : Job) → Memᴰ j (each f n) → place_of j < low n)
  unfolding each
  rising_each zero r b = (Prim.tt, λ j m. absurd (Memᴰ.not-nil m))
  rising_each (suc n) r b =
      let before = rising_each n (λ i h. r i (le_step h)) (λ i j h m. b i j (le_step h) m) in (
        rising_append (each f n) (f n) before.0 (r n (le_refl (suc n)))
            (λ x y p q.
            let l : place_of x < low n = before.1 x p in
            let h : low n ≤ place_of y = (b n y (le_refl (suc n)) q).0 in
            omega arith),
        (λ j m.
            ⊎_elim
            (λ (p : Memᴰ j (each f n)).
            let l : place_of j < low n = before.1 j p in
            let h : low n ≤ low (suc n) = up n in
            omega arith)
            (λ (p : Memᴰ j (f n)). (b n j (le_refl (suc n)) p).1)
            (Memᴰ.append_cases (each f n) m)),
      )

month_rises : (a : List ℕ) (year m : ℕ)
    → Rising (found_in a year m) × ((j : Job) → Memᴰ j (found_in a year m) → (suc m * 4096 ≤ place_of j) × (place_of j < suc (suc m) * 4096))
month_rises a year m =
    let r =
    rising_each (found_at a year m) (λ n. suc m * 4096 + n) (λ n. omega arith) 4096 (λ n h. found_rises a year m n)
    (λ n j h k.
    let at = mem_found a year m n j k in
    let e₁ : j.month ≡ suc m = at.month_is in
    let e₂ : j.number ≡ n = at.number_is in
    (omega arith, omega arith)) in (
      r.0,
      λ j k.
          let q = mem_each j (found_at a year m) 4096 k in
          let at = mem_found a year m q.0 j q.2 in
          let e₁ : j.month ≡ suc m = at.month_is in
          let e₂ : j.number ≡ q.0 = at.number_is in
          let l : q.0 < 4096 = q.1 in
          (omega arith, omega arith),
    )

-- ---- THE YEAR

pub jobs_of_year : (a : List ℕ) (year : ℕ) → JobsOfYear a year (jobs_in (year_lookups a year all_numbers))
jobs_of_year a year =
    rw (year_jobs a year)
    (record {
      months = λ j h.
          let s = stands a year j h in
          let e : j.month ≡ suc s.m = s.at.month_is in
          let l : s.m < 12 = s.m_low in
          month_valid j.month (omega arith) (omega arith);
      numbers = λ j h.
          let s = stands a year j h in
          let e : j.number ≡ s.n = s.at.number_is in
          let l : s.n < 4096 = s.n_low in
          number_valid j.number (omega arith);
      found = λ j h. let s = stands a year j h in lookup_finds a year s.m s.n j s.at;
      complete = λ month number pages v w e.
          let b = month_bounds month v in
          let l₁ : 1 ≤ month = b.0 in
          let l₂ : month ≤ 12 = b.1 in
          let n : number ≤ 4095 = number_bound number w in
          let m : suc (month - 1) ≡ month = omega arith in
          rw m at (found_stands a year (month - 1) number pages (omega arith) (omega arith) (rw m e));
      rising = (rising_each (found_in a year) (λ m. suc m * 4096) (λ m. omega arith) 12 (λ m h. (month_rises a year m).0)
          (λ m j h k. (month_rises a year m).1 j k)).0;
    })
