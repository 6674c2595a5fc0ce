-- A split keeps the map after every number of its stores, and whole it leaves a store that needs no recovery.
use mathlib.Core.Path.{◌≡◌, sym, ap, ◌∙◌}
use mathlib.Core.Bool.{true≢false}
use mathlib.Core.List.{List, ◌++◌}
use mathlib.Core.Option.{some}
use Prim.Native.Nat.{ℕ, suc, ◌/◌, ◌^◌, ◌≤◌, ◌<◌}
use native.Mathlib.Omega.{arith}
use borrow.Author.Tests.{eqb-true, eqb-false, eq-eqb}
use lib.Dec.{eqb}
use Rattle.stores.specs.Store.{Store, apply}
use Rattle.stores.proofs.Tests.{by_test}
use Rattle.stores.proofs.Lists.{any_true}
use Rattle.stores.proofs.Stores.{apply_append}
use Rattle.stores.proofs.Prefixes.{Always, always_append}
use Rattle.index_rules.specs.Layout.{depth, max_depth, entry_at, segment_of, local_depth}
use Rattle.index_rules.specs.Keys.{index}
use Rattle.index_rules.specs.Slots.{named, free_segment}
use Rattle.index_rules.specs.Get.{key_entry}
use Rattle.index_rules.specs.Split.{doubling, halving, doubling_for, splitting}
use Rattle.index_laws.proofs.Keys.{index_lt, index_half}
use Rattle.index_laws.proofs.Put.{free_below}
use Rattle.index_laws.proofs.Blocks.{halved_directory}
use Rattle.runs.specs.Map.{Map}
use Rattle.index_history.proofs.Invariant.{Inv, Recovered, shape_depth, shape_max_depth, shape_segments}
use Rattle.index_history.proofs.Recover.{inv_key_entry}
use Rattle.index_history.proofs.Kept.{Kept, Whole}
use Rattle.index_history.proofs.Double.{doubling_kept, doubled, doubled_recovered}
use Rattle.index_history.proofs.Halve.{halving_kept, halved, halved_recovered}

-- The stores ss keep the map after every number of them, and whole leave a store that needs no recovery.
pub record SplitKept (m : Map) (d S : ℕ) (ss : List Store) (a : List ℕ) : Type 0 where
  pub always : Always (Kept m d S) ss a
  pub whole : Whole m d S (apply ss a)

-- Steps 3 and 4, where the key's block has more than one index, with a segment that no entry names.
halving_split : {m : Map} {g d S : ℕ} {f : ℕ → ℕ} {a : List ℕ} (inv : Inv m g d S f a) (same : Recovered g f a) (key n : ℕ)
    → local_depth (f (index key g)) < g
    → n < S
    → ((j : ℕ) → j < 2 ^ g → segment_of (f j) ≡ n → ⊥)
    → SplitKept m d S (halving a key n) a
unfolding halving
halving_split {m} {g} {d} {S} {f} {a} inv same key n room new unnamed =
    let i : ℕ = index key g in
    let below : i < 2 ^ g = index_lt key g in
    rw (inv_key_entry inv key, shape_depth inv.shape, same (index key g) (index_lt key g))
    (record {
      always = halving_kept inv same (index key g) (index_lt key g) room n new unnamed;
      whole =
          record {
            g = g;
            f = halved_directory g f (index key g) n;
            inv = halved inv same (index key g) (index_lt key g) room n new unnamed;
            recovered = halved_recovered inv same (index key g) (index_lt key g) room n new unnamed;
          };
    })

-- A doubling, and then the rest.
split_after : {m : Map} {d S : ℕ} (ss tt : List Store) (a : List ℕ) → Always (Kept m d S) ss a → SplitKept m d S tt (apply ss a)
    → SplitKept m d S (ss ++ tt) a
split_after {m} {d} {S} ss tt a first rest =
    record {
      always = always_append (Kept m d S) ss tt a first rest.always;
      whole = rw (apply_append ss tt a) rest.whole;
    }

module _ {m : Map} {g d S : ℕ} {f : ℕ → ℕ} {a : List ℕ} (inv : Inv m g d S f a) (same : Recovered g f a) (key n : ℕ)
    (room : local_depth (key_entry a key) < max_depth a) (free : free_segment a ≡ some n) where
  own_entry : key_entry a key ≡ f (index key g)
  own_entry = inv_key_entry inv key ∙ same (index key g) (index_lt key g)

  new_below : n < S
  new_below = rw (shape_segments inv.shape) at (free_below a n free).0

  -- A free segment is named by no entry.
  unnamed : (j : ℕ) → j < 2 ^ g → segment_of (f j) ≡ n → ⊥
  unfolding named
  unnamed j h e =
      true≢false
      (sym
      (any_true (λ i. eqb (segment_of (entry_at a (depth a) i)) n) (2 ^ depth a) j (rw (shape_depth inv.shape) h)
      (rw (shape_depth inv.shape, same j h) (eq-eqb (segment_of (f j)) n e)))
      ∙ (free_below a n free).1)

  with_doubling : local_depth (f (index key g)) ≡ g → SplitKept m d S (doubling a ++ halving (apply (doubling a) a) key n) a
  with_doubling e =
      let deeper : g < d = rw (own_entry, shape_max_depth inv.shape, e) at room in
      let up : f (index key (suc g) / 2) ≡ f (index key g) = ap f (index_half key g) in
      split_after (doubling a) (halving (apply (doubling a) a) key n) a (doubling_kept inv same deeper)
      (halving_split (doubled inv same deeper) (doubled_recovered inv same deeper) key n
      (rw (up, e) (omega arith)) new_below (λ j h. unnamed (j / 2) (omega arith)))

  without_doubling : (local_depth (f (index key g)) ≡ g → ⊥) → SplitKept m d S (halving a key n) a
  without_doubling unlike =
      let low : local_depth (f (index key g)) ≤ g = inv.directory.entries.depths (index key g) (index_lt key g) in
      halving_split inv same key n (omega arith) new_below unnamed

  pub split_keeps : SplitKept m d S (splitting a key n) a
  unfolding splitting doubling_for apply
  split_keeps =
      by_test (eqb (local_depth (f (index key g))) g)
      (λ t. rw (own_entry, shape_depth inv.shape, t) (with_doubling (eqb-true (local_depth (f (index key g))) g t)))
      (λ t. rw (own_entry, shape_depth inv.shape, t) (without_doubling (eqb-false (local_depth (f (index key g))) g t)))
