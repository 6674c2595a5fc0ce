-- The invariant with the depth and the directory left open.
use Prim.Native.Nat.{ℕ}
use mathlib.Core.List.{List}
use Rattle.runs.specs.Map.{Map}
use Rattle.index_history.proofs.Invariant.{Inv, Recovered}

-- The array keeps the map m: the invariant holds with some depth and some directory.
pub record Kept (m : Map) (d S : ℕ) (a : List ℕ) : Type 0 where
  pub g : ℕ
  pub f : ℕ → ℕ
  pub inv : Inv m g d S f a

-- It keeps the map m, and needs no recovery.
pub record Whole (m : Map) (d S : ℕ) (a : List ℕ) : Type 0 where
  pub g : ℕ
  pub f : ℕ → ℕ
  pub inv : Inv m g d S f a
  pub recovered : Recovered g f a

pub whole_kept : {m : Map} {d S : ℕ} {a : List ℕ} → Whole m d S a → Kept m d S a
whole_kept w = record { g = w.g; f = w.f; inv = w.inv }
