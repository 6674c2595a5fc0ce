-- What stores leave: by append and by prefix, lengths, and reads after stores.
use mathlib.Core.Path.{◌≡◌, refl, sym, ap, ◌∙◌}
use mathlib.Core.Bool.{Bool, true, false, ◌||◌}
use mathlib.Core.List.{List, [], ◌∷◌, ◌++◌}
use mathlib.Core.Logic.{⊎_elim}
use Prim.Native.Nat.{ℕ, zero, suc, ◌+◌, ◌-◌, ◌≤◌, ◌<◌}
use native.Mathlib.Nat.{suc-ne-zero, suc_inj, zero-sub, sub-zero, suc-sub-suc, not-suc-le-zero, le_refl, le_step, eq-or-lt_of_le, le_of_suc-le-suc}
use native.Mathlib.Omega.{arith}
use borrow.Author.Tests.{eqb-true, eqb-false}
use lib.Dec.{eqb}
use lib.ListN.{length, set, take, length-set, length-append}
use lib.Seq.{take_all, take-nil, get_or-set_same, get_or-set_other}
use Rattle.stores.specs.Lists.{pick, each, any_below}
use Rattle.stores.specs.Store.{Store, store, word, apply, exec, Every, writes}
use Rattle.stores.specs.declared.Budget.{Budget}
use Rattle.stores.specs.Executed.{Executed}
use Rattle.stores.proofs.Lists.{each_suc}
use Rattle.stores.proofs.Tests.{by_test, by_equal}

pub apply_append : (ss tt : List Store) (a : List ℕ) → apply (ss ++ tt) a ≡ apply tt (apply ss a)
unfolding apply
apply_append [] tt a = refl
apply_append (s ∷ ss) tt a = apply_append ss tt (set a s.at s.value)

pub length_apply : (ss : List Store) (a : List ℕ) → length (apply ss a) ≡ length a
unfolding apply
length_apply [] a = refl
length_apply (s ∷ ss) a = length_apply ss (set a s.at s.value) ∙ length-set a s.at s.value

pub length_exec : (ss : List Store) (n : ℕ) (a : List ℕ) → length (exec ss n a) ≡ length a
unfolding exec
length_exec ss n a = length_apply (take n ss) a

-- With room for all, all are made.
pub exec_all : (ss : List Store) (n : ℕ) (a : List ℕ) → length ss ≤ n → exec ss n a ≡ apply ss a
unfolding exec
exec_all ss n a h = rw (take_all n ss h)

pub exec_none : (ss : List Store) (a : List ℕ) → exec ss 0 a ≡ a
unfolding exec apply
exec_none ss a = refl

-- One store under an allowance that reaches it, and under one that does not.
pub exec_made : (s : Store) (n : ℕ) (a : List ℕ) → 0 < n → exec (s ∷ []) n a ≡ set a s.at s.value
unfolding exec apply
exec_made s zero a h = absurd (not-suc-le-zero h)
exec_made s (suc n) a h = rw (take-nil {A = Store} n)

pub exec_not_made : (ss : List Store) (n : ℕ) (a : List ℕ) → n ≡ 0 → exec ss n a ≡ a
exec_not_made ss n a e = rw e (exec_none ss a)

pub take_append : (ss tt : List Store) (n : ℕ) → take n (ss ++ tt) ≡ take n ss ++ take (n - length ss) tt
take_append [] tt n = rw (sub-zero n, take-nil {A = Store} n)
take_append (s ∷ ss) tt zero = rw (zero-sub (suc (length ss)))
take_append (s ∷ ss) tt (suc n) = ap (λ (r : List Store). s ∷ r) (take_append ss tt n) ∙ rw (suc-sub-suc n (length ss))

-- Stores after stores, under one allowance: the later ones get what the earlier ones left of it.
pub exec_append : (ss tt : List Store) (n : ℕ) (a : List ℕ) → exec (ss ++ tt) n a ≡ exec tt (n - length ss) (exec ss n a)
unfolding exec
exec_append ss tt n a = rw (take_append ss tt n) (apply_append (take n ss) (take (n - length ss) tt) a)

-- ---- The promise of code that stores

pub executed_none : (b : Budget) (a : List ℕ) → Executed [] b a b a
unfolding exec apply
executed_none b a = record { allowance = refl; count = omega arith; words = rw (take-nil {A = Store} (b.allowance - b.due)) }

pub executed_append : (ss tt : List Store) (b : Budget) (a : List ℕ) (b₁ : Budget) (a₁ : List ℕ) (b₂ : Budget) (a₂ : List ℕ)
    → Executed ss b a b₁ a₁ → Executed tt b₁ a₁ b₂ a₂ → Executed (ss ++ tt) b a b₂ a₂
executed_append ss tt b a b₁ a₁ b₂ a₂ p q =
    let c₁ : b₁.due ≡ b.due + length ss = p.count in
    let c₂ : b₂.due ≡ b₁.due + length tt = q.count in
    let left : b₁.allowance - b₁.due ≡ b.allowance - b.due - length ss = omega (arith, p.allowance) in
    record {
      allowance = q.allowance ∙ p.allowance;
      count = rw (length-append ss tt) (omega arith);
      words = q.words ∙ rw (p.words, left) (sym (exec_append ss tt (b.allowance - b.due) a));
    }

-- ---- Reads after stores

pub word_set_same : (a : List ℕ) (i v : ℕ) → i < length a → word (set a i v) i ≡ v
word_set_same a i v h = get_or-set_same a i v 0 h

pub word_set_other : (a : List ℕ) (i j v : ℕ) → (j ≡ i → ⊥) → word (set a i v) j ≡ word a j
word_set_other a i j v h = get_or-set_other a i j v 0 h

-- What holds of a word, and of every value that is stored there, holds of the word afterwards.
pub word_keeps : (P : ℕ → Type 0) (ss : List Store) (a : List ℕ) (i : ℕ) → i < length a → P (word a i) → Every (λ s. s.at ≡ i → P s.value) ss
    → P (word (apply ss a) i)
unfolding apply
word_keeps P [] a i b h k = h
word_keeps P (s ∷ ss) a i b h k =
    word_keeps P ss (set a s.at s.value) i (rw length-set b)
    (by_equal s.at i
    (λ e. rw (e, word_set_same a i s.value b) (k.0 e))
    (λ t. rw (word_set_other a s.at i s.value (λ e. t (sym e))) h))
    k.1

-- A word that no store writes is as it was.
pub word_elsewhere : (ss : List Store) (a : List ℕ) (i : ℕ) → Every (λ s. s.at ≡ i → ⊥) ss → word (apply ss a) i ≡ word a i
unfolding apply
word_elsewhere [] a i h = refl
word_elsewhere (s ∷ ss) a i h =
    word_elsewhere ss (set a s.at s.value) i h.1 ∙ word_set_other a s.at i s.value (λ e. h.0 (sym e))

-- Stores that each write M of their address leave M where they write, in whatever order, and the old word elsewhere.
pub word_apply : (M : ℕ → ℕ) (ss : List Store) (a : List ℕ) → Every (λ s. s.value ≡ M s.at) ss → (i : ℕ) → i < length a
    → word (apply ss a) i ≡ pick (writes ss i) (M i) (word a i)
unfolding apply writes
word_apply M [] a h i b = refl
word_apply M (s ∷ ss) a h i b =
    word_apply M ss (set a s.at s.value) h.1 i (rw length-set b)
    ∙ by_test (eqb s.at i)
    (λ t.
    let e : s.at ≡ i = eqb-true s.at i t in
    let v : word (set a s.at s.value) i ≡ M i = rw e (word_set_same a i s.value b ∙ h.0 ∙ ap M e) in
    rw (t, v) (same (writes ss i) (M i)))
    (λ t. rw (t, word_set_other a s.at i s.value (λ e. eqb-false s.at i t (sym e))))
  where
    same : (b : Bool) (x : ℕ) → pick b x x ≡ x
    same true x = refl
    same false x = refl

-- Which addresses joined lists of stores write.
pub writes_append : (ss tt : List Store) (i : ℕ) → writes (ss ++ tt) i ≡ writes ss i || writes tt i
unfolding writes
writes_append [] tt i = refl
writes_append (s ∷ ss) tt i = ap (λ (r : Bool). eqb s.at i || r) (writes_append ss tt i) ∙ or_assoc (eqb s.at i) (writes ss i) (writes tt i)
  where
    or_assoc : (a b c : Bool) → a || (b || c) ≡ (a || b) || c
    or_assoc true b c = refl
    or_assoc false b c = refl

pub writes_each : (f : ℕ → List Store) (i n : ℕ) → writes (each f n) i ≡ any_below (λ k. writes (f k) i) n
unfolding writes each any_below
writes_each f i zero = refl
writes_each f i (suc n) = writes_append (each f n) (f n) i ∙ ap (λ (r : Bool). r || writes (f n) i) (writes_each f i n)

-- Of stores one by one at different addresses, each is read back.
pub read_each : (at value : ℕ → ℕ) (n : ℕ) (a : List ℕ) → ((i j : ℕ) → i < j → j < n → at i ≡ at j → ⊥) → (k : ℕ) → k < n
    → at k < length a → word (apply (each (λ t. store (at t) (value t) ∷ []) n) a) (at k) ≡ value k
unfolding apply
read_each at value zero a apart k h b = absurd (not-suc-le-zero h)
read_each at value (suc n) a apart k h b =
    let front : List Store = each (λ t. store (at t) (value t) ∷ []) n in
    let kept : length (apply front a) ≡ length a = length_apply front a in
    let step : apply (each (λ t. store (at t) (value t) ∷ []) (suc n)) a ≡ set (apply front a) (at n) (value n) =
    ap (λ (l : List Store). apply l a) (each_suc (λ t. store (at t) (value t) ∷ []) n)
    ∙ apply_append front (store (at n) (value n) ∷ []) a in
    ap (λ (l : List ℕ). word l (at k)) step
    ∙ ⊎_elim
    (λ (e : k ≡ n). rw e (word_set_same (apply front a) (at n) (value n) (rw kept (rw e at b))))
    (λ (l : k < n).
    word_set_other (apply front a) (at n) (at k) (value n) (apart k n l (le_refl (suc n)))
    ∙ read_each at value n a (λ i j p q. apart i j p (le_step q)) k l b)
    (eq-or-lt_of_le (le_of_suc-le-suc h))

-- ---- The same stores on two arrays

-- Where two arrays of the same length have the same word, they have the same word there after the same stores.
pub apply_same : (ss : List Store) (a b : List ℕ) (i : ℕ)
    → length a ≡ length b → word a i ≡ word b i → word (apply ss a) i ≡ word (apply ss b) i
unfolding apply
apply_same [] a b i l h = h
apply_same (s ∷ ss) a b i l h =
    apply_same ss (set a s.at s.value) (set b s.at s.value) i
    (length-set a s.at s.value ∙ l ∙ sym (length-set b s.at s.value))
    (set_same a b s.at s.value i l h)
  where
    set_same : (a b : List ℕ) (j v i : ℕ) → length a ≡ length b → word a i ≡ word b i → word (set a j v) i ≡ word (set b j v) i
    set_same [] [] j v i l h = refl
    set_same [] (y ∷ b) j v i l h = absurd (suc-ne-zero (length b) (sym l))
    set_same (x ∷ a) [] j v i l h = absurd (suc-ne-zero (length a) l)
    set_same (x ∷ a) (y ∷ b) zero v zero l h = refl
    set_same (x ∷ a) (y ∷ b) zero v (suc i) l h = h
    set_same (x ∷ a) (y ∷ b) (suc j) v zero l h = h
    set_same (x ∷ a) (y ∷ b) (suc j) v (suc i) l h = set_same a b j v i (suc_inj l) h
