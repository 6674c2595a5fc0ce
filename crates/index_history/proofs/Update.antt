-- The entry update of a split, from right to left: what holds after each number of its stores.
use mathlib.Core.Path.{◌≡◌, ◌∙◌}
use mathlib.Core.List.{List}
use mathlib.Core.Logic.{◌⊎◌, inl, inr}
use Prim.Native.Nat.{ℕ, ◌^◌, ◌<◌}
use native.Mathlib.Omega.{arith}
use lib.ListN.{length}
use Rattle.stores.specs.Store.{word, apply, exec}
use Rattle.stores.proofs.Tests.{by_less}
use Rattle.stores.proofs.Stores.{length_exec, exec_all}
use Rattle.stores.proofs.Prefixes.{Always}
use Rattle.index_rules.specs.Layout.{entry_address, entry_at, segment_of, local_depth}
use Rattle.index_rules.specs.Keys.{width, block_start}
use Rattle.index_laws.proofs.Words.{entry_inside, entry_positive, directories_below}
use Rattle.index_laws.proofs.Keys.{block_end}
use Rattle.runs.specs.Map.{Map}
use Rattle.index_history.proofs.Invariant.{Inv, Recovered}
use Rattle.index_history.proofs.Kept.{Kept}
use Rattle.index_laws.proofs.Updating.{length_updating, updating_elsewhere, updating_whole, updates, turn_of, entry_made, entry_not_made, entry_outside, leaders_not_made, all_made}
use Rattle.index_laws.proofs.Blocks.{halved_directory, Place}
use Rattle.index_history.proofs.Copy.{Copied}
use Rattle.index_history.proofs.Either.{Serves, Between, position, old_inv, halved_inv}

module _ {m : Map} {g d S : ℕ} {f : ℕ → ℕ} (i : ℕ) (below : i < 2 ^ g) (room : local_depth (f i) < g)
    (n : ℕ) (new : n < S) (unnamed : (j : ℕ) → j < 2 ^ g → segment_of (f j) ≡ n → ⊥) {c : List ℕ} (cp : Copied m g d S f i n c) where
  serves : Serves m g d S f i n c
  serves =
      record {
        shape = cp.inv.shape;
        directory = cp.inv.directory;
        holds = cp.inv.holds;
        in_window = cp.inv.in_window;
        new_holds = cp.new_holds;
        new_in_window = cp.new_in_window;
      }

  at_index : (j : ℕ) → Place g f i n j
  at_index = position i below room n new unnamed serves

  directory_inside : (j : ℕ) → j < 2 ^ g → entry_address g j < length c
  directory_inside j h =
      omega (arith, entry_inside d g j cp.inv.shape.present h, directories_below d S, cp.inv.shape.room)

  -- Each entry is the old one or the halved directory's.
  entry_either : (t j : ℕ) → j < 2 ^ g → Place g f i n j
      → (entry_at (exec (updates g f i n) t c) g j ≡ f j) ⊎ (entry_at (exec (updates g f i n) t c) g j ≡ halved_directory g f i n j)
  entry_either t j h (inl p) =
      by_less (turn_of g f i j) t
      (λ l. inr (entry_made g f i n room c t j p.block_bits_holds (directory_inside j h) l))
      (λ l. inl (entry_not_made g f i n room c t j p.block_bits_holds l ∙ cp.recovered j h))
  entry_either t j h (inr q) = inl (entry_outside g f i n room c t j q.other ∙ cp.recovered j h)

  -- A word outside the directory is not changed.
  updates_outside : (t at : ℕ) → ((k : ℕ) → k < 2 ^ g → at ≡ entry_address g k → ⊥) → word (exec (updates g f i n) t c) at ≡ word c at
  updates_outside t at other =
      updating_elsewhere g (local_depth (f i)) (block_start g (local_depth (f i)) i) (segment_of (f i)) n c t at
      (λ q.
      let end = block_end g (local_depth (f i)) i (cp.inv.directory.entries.depths i below) below in
      other q.number (omega (arith, q.to)) q.address)

  updated : (t : ℕ) → Between g d f i n c (exec (updates g f i n) t c)
  updated t =
      record {
        length_same = length_exec (updates g f i n) t c;
        word_0_same = updates_outside t 0 (λ k h e. omega (arith, entry_positive g k));
        segments_same = λ at h. updates_outside t at (λ k l e. omega (arith, entry_inside d g k cp.inv.shape.present l));
        entries = λ j h. entry_either t j h (at_index j);
      }

  -- Before the last store, the first entry of every block is f's.
  leader_kept : (t k : ℕ) → t < width g (local_depth (f i)) → k < 2 ^ g → block_start g (local_depth (f k)) k ≡ k
      → entry_at (exec (updates g f i n) t c) g k ≡ f k
  leader_kept t k l h e = leaders_not_made g f i n room c t cp.inv.directory.entries below l k h e ∙ cp.recovered k h

  -- After the last store, every entry is the halved directory's.
  pub updates_recovered : Recovered g (halved_directory g f i n) (apply (updates g f i n) c)
  updates_recovered j h = all_made g f i n room c j (directory_inside j h) (cp.recovered j h) (at_index j)

  pub updates_inv : Inv m g d S (halved_directory g f i n) (apply (updates g f i n) c)
  updates_inv =
      halved_inv i below room n new unnamed serves (apply (updates g f i n) c)
      (rw (updating_whole g (local_depth (f i)) (block_start g (local_depth (f i)) i) (segment_of (f i)) n c) at (updated (width g (local_depth (f i)))))
      updates_recovered

  -- Fewer than all, or all.
  pub updates_kept : Always (Kept m d S) (updates g f i n) c
  updates_kept t =
      by_less t (width g (local_depth (f i)))
      (λ l.
      record {
        g = g;
        f = f;
        inv = old_inv i below room n new unnamed serves (exec (updates g f i n) t c) (updated t)
            (λ k h. leader_kept t k l h);
      })
      (λ l.
      record {
        g = g;
        f = halved_directory g f i n;
        inv = rw (exec_all (updates g f i n) t c (omega (arith, all, l))) updates_inv;
      })
    where
      all : length (updates g f i n) ≡ width g (local_depth (f i))
      all = length_updating g (local_depth (f i)) (block_start g (local_depth (f i)) i) (segment_of (f i)) n
