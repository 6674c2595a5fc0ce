-- Copy step and entry update: the map is kept after every number of their stores, and what the whole of them leaves.
use mathlib.Core.Path.{◌≡◌, ap, ◌∙◌}
use mathlib.Core.List.{List, ◌++◌}
use Prim.Native.Nat.{ℕ, ◌^◌, ◌<◌}
use Rattle.stores.specs.Store.{Store, apply}
use Rattle.stores.proofs.Stores.{apply_append}
use Rattle.stores.proofs.Prefixes.{Always, always_append}
use Rattle.index_rules.specs.Layout.{segment_of, local_depth}
use Rattle.index_rules.specs.Split.{halving_of}
use Rattle.index_laws.proofs.Blocks.{halved_directory}
use Rattle.index_laws.proofs.Updating.{updates}
use Rattle.runs.specs.Map.{Map}
use Rattle.index_history.proofs.Invariant.{Inv, Recovered, shape_depth, shape_max_depth}
use Rattle.index_history.proofs.Kept.{Kept}
use Rattle.index_history.proofs.Copy.{copied, copies_kept, copies}
use Rattle.index_history.proofs.Update.{updates_kept, updates_inv, updates_recovered}

module _ {m : Map} {g d S : ℕ} {f : ℕ → ℕ} {a : List ℕ} (inv : Inv m g d S f a) (same : Recovered g f a) (i : ℕ) (below : i < 2 ^ g)
    (room : local_depth (f i) < g) (n : ℕ) (new : n < S) (unnamed : (j : ℕ) → j < 2 ^ g → segment_of (f j) ≡ n → ⊥) where
  halving_parts : halving_of a i (f i) n ≡ copies a g d f i n ++ updates g f i n
  unfolding halving_of
  halving_parts = rw (shape_depth inv.shape, shape_max_depth inv.shape)

  halving_left : apply (halving_of a i (f i) n) a ≡ apply (updates g f i n) (apply (copies a g d f i n) a)
  halving_left = ap (λ (ss : List Store). apply ss a) halving_parts ∙ apply_append (copies a g d f i n) (updates g f i n) a

  -- After every number of stores of steps 3 and 4 the map is kept.
  pub halving_kept : Always (Kept m d S) (halving_of a i (f i) n) a
  halving_kept =
      rw halving_parts
      (always_append (Kept m d S) (copies a g d f i n) (updates g f i n) a (copies_kept inv same i below n new unnamed)
      (updates_kept i below room n new unnamed (copied inv same i below n new unnamed)))

  pub halved : Inv m g d S (halved_directory g f i n) (apply (halving_of a i (f i) n) a)
  halved = rw halving_left (updates_inv i below room n new unnamed (copied inv same i below n new unnamed))

  pub halved_recovered : Recovered g (halved_directory g f i n) (apply (halving_of a i (f i) n) a)
  halved_recovered = rw halving_left (updates_recovered i below room n new unnamed (copied inv same i below n new unnamed))
