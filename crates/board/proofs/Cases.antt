-- The four cases of a print, in document 02's words; and that the order in which jobs are looked up does not matter.
use Prim.Native.Nat.{ℕ, suc, ◌-◌, ◌≤◌, ◌<◌}
use mathlib.Core.Path.{◌≡◌, refl, sym, ap, ◌∙◌}
use mathlib.Core.Bool.{true}
use mathlib.Core.List.Memᴰ
use mathlib.Core.List.{List, [], ◌∷◌, Memᴰ}
use mathlib.Core.Option.{Option, none, some, some-injective}
use mathlib.Core.Logic.{◌⊎◌, inl, inr, ⊎_elim}
use native.Mathlib.Omega.{arith}
use lib.ListN.{length}
use Rattle.stores.proofs.Lists.{mem_each, each_mem, some_none}
use Rattle.stores.proofs.Tests.{by_test, by_at_most}
use Rattle.replies.specs.declared.Answer.{Answer}
use Rattle.std.specs.Prelude.{Ok}
use Rattle.replies.specs.declared.Reply.TheVariants.{Value}
use Rattle.replies.specs.Replies.{Said, done, listed, absent, refused, said_by}
use Rattle.replies.specs.Writing.{Writing, nothing}
use Rattle.replies.specs.Answered.{Wrote}
use Rattle.replies.proofs.Outcomes.{refused_not_done}
use Rattle.index_laws.proofs.Lookups.{lookup_refused, lookups_refused_same}
use Rattle.board.specs.Jobs.{valid_year, job_key}
use Rattle.board.specs.Print.{Job, text_of, Lookup, lookup, year_lookups, first_refusal, refused_in, all_numbers, print_year}
use Rattle.board.specs.Passes.{bytes_of}
use Rattle.board.specs.Claims.{JobsOfYear, Refuses, PrintSays, bad_year, passed_on, too_long, printed, PrintCases, AnyRefusal}
use Rattle.board.proofs.Jobs.{year_bounds, month_bounds, month_valid, number_bound, number_valid, key_nonzero}
use Rattle.board.proofs.Lookups.{job_turn, month_turn, month_each, year_each}
use Rattle.board.proofs.Printing.{print_bad_year, print_refused, print_short, print_fits}
use Rattle.board.proofs.Year.{jobs_of_year}

-- ---- The lookups of a year are those of its jobs

-- The lookup l is that of the job with number n of month m + 1.
pub record LookedUp (a : List ℕ) (year : ℕ) (l : Lookup) : Type 0 where
  pub m : ℕ
  pub n : ℕ
  pub m_low : m < 12
  pub n_low : n < 4096
  pub is : l ≡ lookup a year (suc m) n

looked_up : (a : List ℕ) (year : ℕ) (l : Lookup) → Memᴰ l (year_lookups a year all_numbers) → LookedUp a year l
looked_up a year l h =
    let r = mem_each l (month_turn a year) 12 (rw (year_each a year) at h) in
    let q = mem_each l (job_turn a year (suc r.0)) 4096 (rw (month_each a year (suc r.0)) at r.2) in
    record { m = r.0; n = q.0; m_low = r.1; n_low = q.1; is = Memᴰ.eq_of_singleton q.2 }

lookup_made : (a : List ℕ) (year m n : ℕ) → m < 12 → n < 4096 → Memᴰ (lookup a year (suc m) n) (year_lookups a year all_numbers)
lookup_made a year m n h k =
    rw (year_each a year)
    (each_mem (lookup a year (suc m) n) (month_turn a year) 12 m h
    (rw (month_each a year (suc m)) (each_mem (lookup a year (suc m) n) (job_turn a year (suc m)) 4096 n k (Memᴰ.head refl))))

-- ---- The first refusal, and every other

first_same : (s : Said) (n : ℕ) → ((m : ℕ) → s ≡ refused m → m ≡ n) → first_refusal s (some n) ≡ some n
unfolding first_refusal
first_same (done vs) n same = refl
first_same (listed k f) n same = refl
first_same absent n same = refl
first_same (refused m) n same = ap some (same m refl)

-- Where a lookup is refused with n, and every refused one with the same, the number is n.
refused_with : (n : ℕ) (ls : List Lookup) (l : Lookup) → Memᴰ l ls → l.said ≡ refused n
    → ((k : Lookup) (m : ℕ) → Memᴰ k ls → k.said ≡ refused m → m ≡ n) → refused_in ls ≡ some n
unfolding refused_in first_refusal
refused_with n [] l h e same = absurd (Memᴰ.not-nil h)
refused_with n (k ∷ ks) l h e same =
    ⊎_elim
    (λ (q : l ≡ k). let here : k.said ≡ refused n = ap (λ (x : Lookup). x.said) (sym q) ∙ e in rw here refl)
    (λ (q : Memᴰ l ks).
    rw (refused_with n ks l q e (λ j m u v. same j m (Memᴰ.tail u) v))
    (first_same k.said n (λ m v. same k m (Memᴰ.head refl) v)))
    (Memᴰ.cases_cons h)

-- Where no number is given, none is refused.
first_none : (s : Said) (later : Option ℕ) → first_refusal s later ≡ none → ((n : ℕ) → s ≡ refused n → ⊥) × (later ≡ none)
unfolding first_refusal
first_none (done vs) later e = ((λ n q. refused_not_done n vs (sym q)), e)
first_none (listed k f) later e = ((λ n q. let z : ◌≡◌ {A = ℕ} 0 1 = cc in omega arith), e)
first_none absent later e = ((λ n q. let z : ◌≡◌ {A = ℕ} 0 1 = cc in omega arith), e)
first_none (refused m) later e = absurd (some_none m e)

none_refused : (ls : List Lookup) → refused_in ls ≡ none → (l : Lookup) (n : ℕ) → Memᴰ l ls → l.said ≡ refused n → ⊥
unfolding refused_in
none_refused [] e l n h q = Memᴰ.not-nil h
none_refused (k ∷ ks) e l n h q =
    let f = first_none k.said (refused_in ks) e in
    ⊎_elim
    (λ (u : l ≡ k). f.0 n (ap (λ (x : Lookup). x.said) (sym u) ∙ q))
    (λ (u : Memᴰ l ks). none_refused ks f.1 l n u q)
    (Memᴰ.cases_cons h)

-- Where a number is given, a lookup is refused with it.
pub record RefusedWith (n : ℕ) (ls : List Lookup) : Type 0 where
  pub one : Lookup
  pub made : Memᴰ one ls
  pub says : one.said ≡ refused n

-- From the first lookup and those behind it.
refused_first : (k : Lookup) (ks : List Lookup) (n : ℕ) → (refused_in ks ≡ some n → RefusedWith n ks) → (s : Said) → k.said ≡ s
    → first_refusal s (refused_in ks) ≡ some n → RefusedWith n (k ∷ ks)
unfolding first_refusal
refused_first k ks n later (done vs) q e = let r = later e in record { one = r.one; made = Memᴰ.tail r.made; says = r.says }
refused_first k ks n later (listed c f) q e = let r = later e in record { one = r.one; made = Memᴰ.tail r.made; says = r.says }
refused_first k ks n later absent q e = let r = later e in record { one = r.one; made = Memᴰ.tail r.made; says = r.says }
refused_first k ks n later (refused m) q e =
    record { one = k; made = Memᴰ.head refl; says = q ∙ ap refused (some-injective m n e) }

some_refused : (ls : List Lookup) (n : ℕ) → refused_in ls ≡ some n → RefusedWith n ls
unfolding refused_in
some_refused [] n e = absurd (some_none n (sym e))
some_refused (k ∷ ks) n e = refused_first k ks n (some_refused ks n) k.said refl e

-- ---- Of a year

module _ (a : List ℕ) (year : ℕ) (valid : valid_year year ≡ true) where
  abbrev looked : List Lookup
  looked = year_lookups a year all_numbers

  nonzero : (month number : ℕ) → job_key year month number ≡ 0 → ⊥
  nonzero month number e = key_nonzero year month number (year_bounds year valid).0 e

  -- A job whose lookup is refused, as one of the lookups made.
  pub refused_number : (n : ℕ) → Refuses a year n → refused_in looked ≡ some n
  refused_number n r =
      let b = month_bounds r.month r.month_valid in
      let l₁ : 1 ≤ r.month = b.0 in
      let l₂ : r.month ≤ 12 = b.1 in
      let l₃ : r.number ≤ 4095 = number_bound r.number r.number_valid in
      let e : suc (r.month - 1) ≡ r.month = omega arith in
      refused_with n looked (lookup a year r.month r.number)
      (rw e at (lookup_made a year (r.month - 1) r.number (omega arith) (omega arith)))
      r.says
      (λ k m h q.
      let u = looked_up a year k h in
      lookups_refused_same a (job_key year (suc u.m) u.n) (job_key year r.month r.number) m n
      (nonzero (suc u.m) u.n) (nonzero r.month r.number)
      (ap (λ (x : Lookup). x.said) (sym u.is) ∙ q) r.says)

  -- The lookup of a job that the number stands for.
  number_refused : (n : ℕ) → refused_in looked ≡ some n → Refuses a year n
  number_refused n e =
      let r = some_refused looked n e in
      let u = looked_up a year r.one r.made in
      let l₁ : u.m < 12 = u.m_low in
      let l₂ : u.n < 4096 = u.n_low in
      record {
        month = suc u.m;
        number = u.n;
        month_valid = month_valid (suc u.m) (omega arith) (omega arith);
        number_valid = number_valid u.n (omega arith);
        says = ap (λ (x : Lookup). x.said) (sym u.is) ∙ r.says;
      }

  -- 1 or 3, as for every lookup.
  one_or_three : (n : ℕ) → Refuses a year n → (n ≡ 1) ⊎ (n ≡ 3)
  one_or_three n r =
      ⊎_elim (λ p. inl p.1) (λ p. inr p.1) (lookup_refused a (job_key year r.month r.number) n (nonzero r.month r.number) r.says)

  none_refuses : refused_in looked ≡ none → (n : ℕ) → Refuses a year n → ⊥
  none_refuses e n r = some_none n (sym (refused_number n r) ∙ e)

-- ---- THE CASES

pub any_refusal : AnyRefusal
any_refusal a year room n valid r = print_refused a year room n valid (refused_number a year valid n r)

pub print_cases : PrintCases
print_cases a year room =
    by_test (valid_year year)
    (λ y. looked_at y (refused_in (year_lookups a year all_numbers)) refl)
    (λ y. bad_year y (print_bad_year a year room y))
  where
    looked_at : valid_year year ≡ true → (o : Option ℕ) → refused_in (year_lookups a year all_numbers) ≡ o → PrintSays a year room (print_year a year room)
    looked_at y (some n) e =
        let r = number_refused a year y n e in
        passed_on n y r (one_or_three a year y n r) (print_refused a year room n y e)
    looked_at y none e =
        by_at_most (bytes_of (year_lookups a year all_numbers)) room
        (λ t. printed _ y (none_refuses a year y e) (jobs_of_year a year) t (print_fits a year room y e t))
        (λ t. too_long _ y (none_refuses a year y e) (jobs_of_year a year) t (print_short a year room y e t))

-- ---- A done print

-- What a done print of n bytes has printed.
pub record PrintDone (a : List ℕ) (year room n : ℕ) : Type 0 where
  pub jobs : List Job
  pub exact : JobsOfYear a year jobs
  pub bytes : n ≡ length (text_of jobs)
  pub fits : length (text_of jobs) ≤ room
  pub lines : (print_year a year room).words ≡ text_of jobs

module _ (a : List ℕ) (year room n : ℕ) (says : (print_year a year room).reply ≡ done (n ∷ [])) where
  not_nothing : (m : ℕ) → print_year a year room ≡ nothing (refused m) → ⊥
  not_nothing m e = refused_not_done m (n ∷ []) (ap (λ (w : Writing). w.reply) (sym e) ∙ says)

  same_count : (m : ℕ) → done (m ∷ []) ≡ done (n ∷ []) → n ≡ m
  same_count m e = cc

  by_case : PrintSays a year room (print_year a year room) → PrintDone a year room n
  by_case (bad_year y e) = absurd (not_nothing 11 e)
  by_case (passed_on m y r k e) = absurd (not_nothing m e)
  by_case (too_long jobs y k j h e) = absurd (not_nothing 10 e)
  by_case (printed jobs y k j h e) =
      record {
        jobs = jobs;
        exact = j;
        bytes = same_count (length (text_of jobs)) (ap (λ (w : Writing). w.reply) (sym e) ∙ says);
        fits = h;
        lines = ap (λ (w : Writing). w.words) e;
      }

  pub print_done : PrintDone a year room n
  print_done = by_case (print_cases a year room)

-- Its bytes are within the buffer.
pub printed_within : (a : List ℕ) (year : ℕ) (answer : Answer) (before after : List ℕ) (n : ℕ)
    → Wrote (print_year a year (length before)) answer before after → answer.reply ≡ Ok (Value n) → n ≤ length before
printed_within a year answer before after n p e =
    let d = print_done a year (length before) n (sym p.reply ∙ ap said_by e) in
    rw d.bytes d.fits
