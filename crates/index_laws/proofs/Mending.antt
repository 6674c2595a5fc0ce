-- A consistent directory has nothing to mend. And what the stores of a mend leave, any number of them, in an array whose entries are
-- those of a consistent directory f where f's blocks begin: entries become f's, and all else stays.
use mathlib.Core.Path.{◌≡◌, refl, ap, ◌∙◌}
use mathlib.Core.Bool.{Bool, true, false}
use mathlib.Core.List.{List, [], ◌∷◌, ◌++◌}
use mathlib.Core.Logic.{◌⊎◌, inl, inr}
use Prim.Native.Nat.{ℕ, zero, suc, ◌-◌, ◌*◌, ◌^◌, ◌≤◌, ◌<◌}
use native.Mathlib.Omega.{arith}
use borrow.Author.Tests.{eqb-true, eq-eqb}
use lib.Dec.{eqb}
use lib.ListN.{length, take}
use Rattle.stores.specs.Lists.{pick, each}
use Rattle.stores.specs.Store.{Store, word, store, apply, exec, Every, writes}
use Rattle.stores.proofs.Tests.{by_test}
use Rattle.stores.proofs.Lists.{each_same, length_each_le, every_each, every_take, every_map, any_true}
use Rattle.stores.proofs.Stores.{length_apply, word_elsewhere, word_apply, writes_each}
use Rattle.replies.specs.Replies.{done, unless}
use Rattle.replies.proofs.Outcomes.{changed_complete, tested_none}
use Rattle.index_rules.specs.declared.Call.TheVariants.{Mend}
use Rattle.index_rules.specs.Layout.{depth, segments, valid_header, entry_address, entry_at, local_depth}
use Rattle.index_rules.specs.Keys.{block_start}
use Rattle.index_rules.specs.Scan.{leading_entry, entries_agree}
use Rattle.index_rules.specs.Mend.{mend_entry, mend_tests, mending, mend}
use Rattle.index_rules.specs.Step.{effect, step, outcome_of}
use Rattle.index_laws.proofs.Words.{entry_to}
use Rattle.index_laws.proofs.Scan.{agree_at}
use Rattle.index_laws.proofs.Doubling.{DirectoryWord}
use Rattle.index_laws.proofs.Blocks.{Blocks, blocks_leading, blocks_valid}

-- ---- A consistent directory

each_nothing : {A : Type 0} (n : ℕ) → each {A = A} (λ i. []) n ≡ []
unfolding each
each_nothing zero = refl
each_nothing {A} (suc n) = ap (λ (xs : List A). xs ++ []) (each_nothing n)

-- Where every entry equals its leader, a mend has no store to make.
pub nothing_to_mend : (a : List ℕ) → entries_agree a (depth a) ≡ true → mending a ≡ []
unfolding mending mend_entry
nothing_to_mend a agree =
    each_same _ (λ i. []) (2 ^ depth a) (λ i h. rw (agree_at a (depth a) i agree h, eq-eqb (leading_entry a (depth a) i) _ refl))
    ∙ each_nothing (2 ^ depth a)

-- ---- Any number of a mend's stores

-- b is a with some entries of the directory of depth g replaced by f's, and nothing else changed.
pub record PartlyMended (g : ℕ) (f : ℕ → ℕ) (a b : List ℕ) : Type 0 where
  pub length_same : length b ≡ length a
  pub entries : (i : ℕ) → i < 2 ^ g → (entry_at b g i ≡ entry_at a g i) ⊎ (entry_at b g i ≡ f i)
  pub elsewhere : (x : ℕ) → (DirectoryWord g x → ⊥) → word b x ≡ word a x

-- The entries of a are those of the consistent directory f where f's blocks begin.
pub record Mendable (g S : ℕ) (f : ℕ → ℕ) (a : List ℕ) : Type 0 where
  pub dir : Blocks g S f
  pub begins : (i : ℕ) → i < 2 ^ g → block_start g (local_depth (f i)) i ≡ i → entry_at a g i ≡ f i
  pub deep : depth a ≡ g
  pub room : 2 ^ suc g ≤ length a

module _ {g S : ℕ} {f : ℕ → ℕ} {a : List ℕ} (m : Mendable g S f a) where
  -- Entry i gets f's word where it has another.
  abbrev repair : ℕ → List Store
  repair i = pick (eqb (entry_at a g i) (f i)) [] (store (entry_address g i) (f i) ∷ [])

  mending_is : mending a ≡ each repair (2 ^ g)
  unfolding mending mend_entry
  mending_is = rw m.deep (each_same _ repair (2 ^ g) (λ i h. rw (blocks_leading a g S f m.dir m.begins i h)))

  -- What a mend stores: f's word, at its entry.
  record Repairs (s : Store) : Type 0 where
    at_entry : s.value ≡ f (s.at - 2 ^ g)
    word_of : DirectoryWord g s.at

  repair_here : (i : ℕ) → i < 2 ^ g → Repairs (store (entry_address g i) (f i))
  unfolding entry_address
  repair_here i h = record { at_entry = ap f (omega arith); word_of = record { from = omega arith; to = omega arith } }

  repairs : Every Repairs (each repair (2 ^ g))
  repairs = every_each Repairs repair (2 ^ g) one
    where
      one : (i : ℕ) → i < 2 ^ g → Every Repairs (repair i)
      one i h = by_test (eqb (entry_at a g i) (f i)) (λ t. rw t Prim.tt) (λ t. rw t (repair_here i h, Prim.tt))

  entry_place : (i : ℕ) → entry_address g i - 2 ^ g ≡ i
  unfolding entry_address
  entry_place i = omega arith

  -- Any stores of this kind.
  module _ (ss : List Store) (kind : Every Repairs ss) where
    entry_after : (i : ℕ) → i < 2 ^ g
        → entry_at (apply ss a) g i ≡ pick (writes ss (entry_address g i)) (f i) (entry_at a g i)
    entry_after i h =
        word_apply (λ x. f (x - 2 ^ g)) ss a (every_map Repairs _ (λ s r. r.at_entry) ss kind) (entry_address g i)
        (omega (arith, entry_to g i h, m.room))
        ∙ ap (λ (x : ℕ). pick (writes ss (entry_address g i)) (f x) (entry_at a g i)) (entry_place i)

    by_repairs : PartlyMended g f a (apply ss a)
    by_repairs =
        record {
          length_same = length_apply ss a;
          entries = λ i h. choose (writes ss (entry_address g i)) (entry_after i h);
          elsewhere = λ x n. word_elsewhere ss a x (every_map Repairs _ (λ s r e. n (rw e at r.word_of)) ss kind);
        }
      where
        choose : {x y z : ℕ} (b : Bool) → x ≡ pick b y z → (x ≡ z) ⊎ (x ≡ y)
        choose true e = inr e
        choose false e = inl e

  -- Every number of a mend's stores.
  pub mending_partly : (n : ℕ) → PartlyMended g f a (exec (mending a) n a)
  unfolding exec
  mending_partly n =
      rw mending_is (by_repairs (take n (each repair (2 ^ g))) (every_take Repairs n (each repair (2 ^ g)) repairs))

  -- An entry that differs from f's is written.
  written : (i : ℕ) → i < 2 ^ g → eqb (entry_at a g i) (f i) ≡ false → writes (each repair (2 ^ g)) (entry_address g i) ≡ true
  unfolding writes
  written i h t =
      writes_each repair (entry_address g i) (2 ^ g)
      ∙ any_true (λ k. writes (repair k) (entry_address g i)) (2 ^ g) i h
      (rw (t, eq-eqb (entry_address g i) (entry_address g i) refl))

  -- All of them leave f's entries.
  pub mended_entries : (i : ℕ) → i < 2 ^ g → entry_at (apply (mending a) a) g i ≡ f i
  mended_entries i h =
      rw mending_is
      (entry_after (each repair (2 ^ g)) repairs i h
      ∙ by_test (eqb (entry_at a g i) (f i))
      (λ t. same (writes (each repair (2 ^ g)) (entry_address g i)) (eqb-true _ _ t))
      (λ t. rw (written i h t)))
    where
      same : (b : Bool) → entry_at a g i ≡ f i → pick b (f i) (entry_at a g i) ≡ f i
      same true e = refl
      same false e = e

  -- A mend makes at most one store for each entry.
  pub mending_length : length (mending a) ≤ 2 ^ g
  mending_length =
      let most : length (each repair (2 ^ g)) ≤ 1 * 2 ^ g = length_each_le repair 1 (2 ^ g) (λ i h. one (eqb (entry_at a g i) (f i)) i) in
      rw mending_is (omega arith)
    where
      one : (b : Bool) (i : ℕ) → length (pick b [] (store (entry_address g i) (f i) ∷ [])) ≤ 1
      one true i = omega arith
      one false i = omega arith

  -- One that may make so many is done.
  pub mend_is_done : valid_header a ≡ true → segments a ≡ S → (n : ℕ) → 2 ^ g ≤ n → (outcome_of a (Mend n)).reply ≡ done []
  unfolding effect step mend mend_tests unless
  mend_is_done valid number n enough =
      rw (valid, m.deep, number, blocks_valid a g S f m.dir m.begins, tested_none)
      (changed_complete n (record { due = mending a; reply = done [] }) a (omega (arith, mending_length))).reply
