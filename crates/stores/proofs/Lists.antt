-- Laws of the joined list, of the first element that passes, of tests over all numbers below a bound, and of numbers in front of others.
use mathlib.Core.Path.{◌≡◌, refl, sym, ap, ap₂, ◌∙◌}
use mathlib.Core.Bool.{Bool, true, false, ◌&&◌, ◌||◌, false≢true}
use mathlib.Core.List.{List, [], ◌∷◌, ◌++◌, append_assoc, Memᴰ}
use mathlib.Core.Option.{Option, none, some}
use mathlib.Core.Logic.{⊎_elim}
use Prim.Native.Nat.{ℕ, zero, suc, ◌+◌, ◌*◌, ◌≤◌, ◌<◌}
use native.Mathlib.Nat.{le_refl, not-suc-le-zero, eq-or-lt_of_le, le_of_suc-le-suc, le_step, mul-suc}
use native.Mathlib.Omega.{arith}
use borrow.Author.Tests.{eqb-true}
use lib.Dec.{eqb}
use lib.ListN.{length, take, length-append}
use Rattle.stores.specs.Lists.{pick, each, first_in, all_below, any_below, numbers_same, lists_same, if_any}
use Rattle.stores.specs.Store.{Store, Every}
use Rattle.stores.proofs.Tests.{by_test, and_left, and_right, and_true, or_cases, or_left, or_right}

-- ---- The joined list

pub each_zero : {A : Type 0} (f : ℕ → List A) → each f zero ≡ []
unfolding each
each_zero f = refl

pub each_suc : {A : Type 0} (f : ℕ → List A) (n : ℕ) → each f (suc n) ≡ each f n ++ f n
unfolding each
each_suc f n = refl

-- Only the lists below the bound count.
pub each_same : {A : Type 0} (f g : ℕ → List A) (n : ℕ) → ((i : ℕ) → i < n → f i ≡ g i) → each f n ≡ each g n
unfolding each
each_same f g zero h = refl
each_same {A} f g (suc n) h =
    ap₂ (λ (x y : List A). x ++ y) (each_same f g n (λ i k. h i (le_step k))) (h n (le_refl (suc n)))

pub length_each_le : {A : Type 0} (f : ℕ → List A) (m n : ℕ) → ((i : ℕ) → i < n → length (f i) ≤ m) → length (each f n) ≤ m * n
unfolding each
length_each_le f m zero h = omega arith
length_each_le f m (suc n) h =
    let front : length (each f n) ≤ m * n = length_each_le f m n (λ i k. h i (le_step k)) in
    let last : length (f n) ≤ m = h n (le_refl (suc n)) in
    rw (length-append, mul-suc) (omega arith)

pub length_each_ones : {A : Type 0} (f : ℕ → A) (n : ℕ) → length (each (λ i. f i ∷ []) n) ≡ n
unfolding each
length_each_ones f zero = refl
length_each_ones f (suc n) =
    length-append (each (λ i. f i ∷ []) n) (f n ∷ []) ∙ ap (λ (k : ℕ). k + 1) (length_each_ones f n) ∙ omega arith

-- An element of the joined list is an element of one of the lists, and the other way round.
pub mem_each : {A : Type 0} (x : A) (f : ℕ → List A) (n : ℕ) → Memᴰ x (each f n) → (i : ℕ) × (i < n) × Memᴰ x (f i)
unfolding each
mem_each x f zero m = absurd (mathlib.Core.List.Memᴰ.not-nil m)
mem_each x f (suc n) m =
    ⊎_elim
    (λ (k : Memᴰ x (each f n)). let r = mem_each x f n k in (r.0, le_step r.1, r.2))
    (λ (k : Memᴰ x (f n)). (n, le_refl (suc n), k))
    (mathlib.Core.List.Memᴰ.append_cases (each f n) m)

pub each_mem : {A : Type 0} (x : A) (f : ℕ → List A) (n i : ℕ) → i < n → Memᴰ x (f i) → Memᴰ x (each f n)
unfolding each
each_mem x f zero i h m = absurd (not-suc-le-zero h)
each_mem x f (suc n) i h m =
    ⊎_elim
    (λ (e : i ≡ n). mathlib.Core.List.Memᴰ.append_right (each f n) (rw e at m))
    (λ (k : i < n). mathlib.Core.List.Memᴰ.append_left (f n) (each_mem x f n i k m))
    (eq-or-lt_of_le (le_of_suc-le-suc h))

-- ---- Every store

pub every_append : (P : Store → Type 0) (ss tt : List Store) → Every P ss → Every P tt → Every P (ss ++ tt)
every_append P [] tt h k = k
every_append P (s ∷ ss) tt h k = (h.0, every_append P ss tt h.1 k)

pub every_left : (P : Store → Type 0) (ss tt : List Store) → Every P (ss ++ tt) → Every P ss
every_left P [] tt h = Prim.tt
every_left P (s ∷ ss) tt h = (h.0, every_left P ss tt h.1)

pub every_take : (P : Store → Type 0) (n : ℕ) (ss : List Store) → Every P ss → Every P (take n ss)
every_take P zero ss h = Prim.tt
every_take P (suc n) [] h = Prim.tt
every_take P (suc n) (s ∷ ss) h = (h.0, every_take P n ss h.1)

pub every_pick : (P : Store → Type 0) (b : Bool) (ss tt : List Store) → Every P ss → Every P tt → Every P (pick b ss tt)
every_pick P true ss tt h k = h
every_pick P false ss tt h k = k

pub every_each : (P : Store → Type 0) (f : ℕ → List Store) (n : ℕ) → ((i : ℕ) → i < n → Every P (f i)) → Every P (each f n)
unfolding each
every_each P f zero h = Prim.tt
every_each P f (suc n) h =
    every_append P (each f n) (f n) (every_each P f n (λ i k. h i (le_step k))) (h n (le_refl (suc n)))

pub every_map : (P Q : Store → Type 0) → ((s : Store) → P s → Q s) → (ss : List Store) → Every P ss → Every Q ss
every_map P Q f [] h = Prim.tt
every_map P Q f (s ∷ ss) h = (f s h.0, every_map P Q f ss h.1)

-- ---- The first that passes

-- Only the test at the list's elements counts.
pub first_same : (p q : ℕ → Bool) (xs : List ℕ) → ((x : ℕ) → Memᴰ x xs → p x ≡ q x) → first_in p xs ≡ first_in q xs
unfolding first_in
first_same p q [] h = refl
first_same p q (x ∷ xs) h =
    ap₂ (λ (b : Bool) (r : Option ℕ). pick b (some x) r) (h x (mathlib.Core.List.Memᴰ.head refl))
    (first_same p q xs (λ y m. h y (mathlib.Core.List.Memᴰ.tail m)))

-- Passed over: the search goes on behind an element that fails, and stops at one that passes.
pub first_next : (p : ℕ → Bool) (x : ℕ) (xs : List ℕ) → p x ≡ false → first_in p (x ∷ xs) ≡ first_in p xs
unfolding first_in
first_next p x xs e = rw e

pub first_here : (p : ℕ → Bool) (x : ℕ) (xs : List ℕ) → p x ≡ true → first_in p (x ∷ xs) ≡ some x
unfolding first_in
first_here p x xs e = rw e

-- Some value is not none.
pub some_none : {A : Type 0} (x : A) → some x ≡ none → ⊥
some_none x f = let z : ◌≡◌ {A = ℕ} 0 1 = cc in omega arith

-- Nothing in front passes: the search goes on behind it.
pub first_append : (p : ℕ → Bool) (xs ys : List ℕ) → first_in p xs ≡ none → first_in p (xs ++ ys) ≡ first_in p ys
first_append p [] ys e = refl
first_append p (x ∷ xs) ys e =
    by_test (p x)
    (λ t. absurd (some_none x (sym (first_here p x xs t) ∙ e)))
    (λ t. first_next p x (xs ++ ys) t ∙ first_append p xs ys (sym (first_next p x xs t) ∙ e))

-- Something in front passes: the search ends there.
pub first_append_some : (p : ℕ → Bool) (xs ys : List ℕ) (y : ℕ) → first_in p xs ≡ some y → first_in p (xs ++ ys) ≡ some y
unfolding first_in
first_append_some p [] ys y e = absurd (some_none y (sym e))
first_append_some p (x ∷ xs) ys y e =
    by_test (p x)
    (λ t. first_here p x (xs ++ ys) t ∙ sym (first_here p x xs t) ∙ e)
    (λ t. first_next p x (xs ++ ys) t ∙ first_append_some p xs ys y (sym (first_next p x xs t) ∙ e))

-- What is found is an element of the list, and passes.
pub first_some : (p : ℕ → Bool) (xs : List ℕ) (y : ℕ) → first_in p xs ≡ some y → Memᴰ y xs × (p y ≡ true)
unfolding first_in
first_some p [] y e = absurd (some_none y (sym e))
first_some p (x ∷ xs) y e =
    by_test (p x)
    (λ t.
    let q : x ≡ y = some_inj x y (sym (first_here p x xs t) ∙ e) in
    (mathlib.Core.List.Memᴰ.head (sym q), rw q at t))
    (λ t.
    let r = first_some p xs y (sym (first_next p x xs t) ∙ e) in
    (mathlib.Core.List.Memᴰ.tail r.0, r.1))
  where
    some_inj : (u v : ℕ) → some u ≡ some v → u ≡ v
    some_inj u v f = cc

-- Where nothing is found, no element passes.
pub first_none : (p : ℕ → Bool) (xs : List ℕ) → first_in p xs ≡ none → (y : ℕ) → Memᴰ y xs → p y ≡ false
first_none p [] e y m = absurd (mathlib.Core.List.Memᴰ.not-nil m)
first_none p (x ∷ xs) e y m =
    by_test (p x)
    (λ t. absurd (some_none x (sym (first_here p x xs t) ∙ e)))
    (λ t. passed_by t (first_none p xs (sym (first_next p x xs t) ∙ e) y) m)
  where
    passed_by : p x ≡ false → (Memᴰ y xs → p y ≡ false) → Memᴰ y (x ∷ xs) → p y ≡ false
    passed_by t rest (mathlib.Core.List.Memᴰ.head q) = rw q t
    passed_by t rest (mathlib.Core.List.Memᴰ.tail n) = rest n

-- ---- Tests below a bound

pub all_at : (p : ℕ → Bool) (n : ℕ) → all_below p n ≡ true → (i : ℕ) → i < n → p i ≡ true
unfolding all_below
all_at p zero e i h = absurd (not-suc-le-zero h)
all_at p (suc n) e i h =
    ⊎_elim
    (λ (q : i ≡ n). rw q (and_right (all_below p n) (p n) e))
    (λ (q : i < n). all_at p n (and_left (all_below p n) (p n) e) i q)
    (eq-or-lt_of_le (le_of_suc-le-suc h))

pub all_true : (p : ℕ → Bool) (n : ℕ) → ((i : ℕ) → i < n → p i ≡ true) → all_below p n ≡ true
unfolding all_below
all_true p zero h = refl
all_true p (suc n) h = and_true (all_true p n (λ i k. h i (le_step k))) (h n (le_refl (suc n)))

pub all_same : (p q : ℕ → Bool) (n : ℕ) → ((i : ℕ) → i < n → p i ≡ q i) → all_below p n ≡ all_below q n
unfolding all_below
all_same p q zero h = refl
all_same p q (suc n) h = ap₂ (λ (x y : Bool). x && y) (all_same p q n (λ i k. h i (le_step k))) (h n (le_refl (suc n)))

pub any_true : (p : ℕ → Bool) (n i : ℕ) → i < n → p i ≡ true → any_below p n ≡ true
unfolding any_below
any_true p zero i h e = absurd (not-suc-le-zero h)
any_true p (suc n) i h e =
    ⊎_elim
    (λ (q : i ≡ n). or_right (any_below p n) (rw q at e))
    (λ (q : i < n). or_left (p n) (any_true p n i q e))
    (eq-or-lt_of_le (le_of_suc-le-suc h))

pub any_at : (p : ℕ → Bool) (n : ℕ) → any_below p n ≡ true → (i : ℕ) × (i < n) × (p i ≡ true)
unfolding any_below
any_at p zero e = absurd (false≢true e)
any_at p (suc n) e =
    ⊎_elim
    (λ (q : any_below p n ≡ true). let r = any_at p n q in (r.0, le_step r.1, r.2))
    (λ (q : p n ≡ true). (n, le_refl (suc n), q))
    (or_cases (any_below p n) (p n) e)

pub any_same : (p q : ℕ → Bool) (n : ℕ) → ((i : ℕ) → i < n → p i ≡ q i) → any_below p n ≡ any_below q n
unfolding any_below
any_same p q zero h = refl
any_same p q (suc n) h = ap₂ (λ (x y : Bool). x || y) (any_same p q n (λ i k. h i (le_step k))) (h n (le_refl (suc n)))

-- ---- Numbers in front of what may be numbers

unfoldable pub ahead : List ℕ → Option (List ℕ) → Option (List ℕ)
ahead ns none = none
ahead ns (some ms) = some (ns ++ ms)

pub ahead_nil : (o : Option (List ℕ)) → ahead [] o ≡ o
unfolding ahead
ahead_nil none = refl
ahead_nil (some ms) = refl

pub ahead_ahead : (ns ms : List ℕ) (o : Option (List ℕ)) → ahead ns (ahead ms o) ≡ ahead (ns ++ ms) o
unfolding ahead
ahead_ahead ns ms none = refl
ahead_ahead ns ms (some ks) = ap some (sym (append_assoc ns ms ks))

-- ---- Lists that the tests find to be the same

pub same_numbers : (xs ys : List ℕ) → numbers_same xs ys ≡ true → xs ≡ ys
unfolding numbers_same
same_numbers [] [] e = refl
same_numbers [] (y ∷ ys) e = absurd (false≢true e)
same_numbers (x ∷ xs) [] e = absurd (false≢true e)
same_numbers (x ∷ xs) (y ∷ ys) e =
    ap₂ (λ (z : ℕ) (zs : List ℕ). z ∷ zs) (eqb-true x y (and_left (eqb x y) (numbers_same xs ys) e))
    (same_numbers xs ys (and_right (eqb x y) (numbers_same xs ys) e))

pub same_lists : (xs ys : List (List ℕ)) → lists_same xs ys ≡ true → xs ≡ ys
unfolding lists_same
same_lists [] [] e = refl
same_lists [] (y ∷ ys) e = absurd (false≢true e)
same_lists (x ∷ xs) [] e = absurd (false≢true e)
same_lists (x ∷ xs) (y ∷ ys) e =
    ap₂ (λ (z : List ℕ) (zs : List (List ℕ)). z ∷ zs) (same_numbers x y (and_left (numbers_same x y) (lists_same xs ys) e))
    (same_lists xs ys (and_right (numbers_same x y) (lists_same xs ys) e))

pub same_if_any : (x y : Option ℕ) → numbers_same (if_any x) (if_any y) ≡ true → x ≡ y
unfolding numbers_same
same_if_any none none e = refl
same_if_any none (some n) e = absurd (false≢true e)
same_if_any (some m) none e = absurd (false≢true e)
same_if_any (some m) (some n) e = ap some (eqb-true m n (and_left (eqb m n) true e))
