-- Mending keeps the invariant under every allowance, and with enough leaves a store that needs no recovery.
use mathlib.Core.Path.{◌≡◌, ◌∙◌}
use mathlib.Core.List.{List}
use mathlib.Core.Logic.{⊎_elim}
use Prim.Native.Nat.{ℕ, suc, ◌^◌, ◌≤◌, ◌<◌}
use native.Mathlib.Omega.{arith}
use lib.Pow.{pow_pos, pow_mono}
use Rattle.stores.specs.Store.{apply, exec}
use Rattle.index_rules.specs.Layout.{entry_at, segment_of, local_depth}
use Rattle.index_rules.specs.Mend.{mending}
use Rattle.index_laws.proofs.Mending.{PartlyMended, Mendable, mending_partly, mended_entries}
use Rattle.index_laws.proofs.Words.{within_inside, directories_below}
use Rattle.runs.specs.Map.{Map}
use Rattle.index_history.proofs.Invariant.{Inv, LookupAgrees, Recovered, SegmentSame, shape_depth, shape_kept, live_above, same_holds, same_key}

module _ {m : Map} {g d S : ℕ} {f : ℕ → ℕ} {a : List ℕ} (inv : Inv m g d S f a) where
  -- The directory ends where the segments begin, or before.
  deep : 2 ^ suc g ≤ 2 ^ suc d
  deep = pow_mono {j = suc d} ((native.Mathlib.Nat.suc-le-suc_iff).1 inv.shape.present)

  module _ (b : List ℕ) (p : PartlyMended g f a b) where
    segment_same : (s : ℕ) → s < S → SegmentSame d s a b
    segment_same s h at w = p.elsewhere at (λ q. omega (arith, q.to, (within_inside d S s at h w).behind, deep))

    lookup_mended : (i : ℕ) → i < 2 ^ g → entry_at b g i ≡ f i → LookupAgrees m g d S b i
    lookup_mended i h e =
        let low : local_depth (f i) ≤ g = inv.directory.entries.depths i h in
        record {
          depth_fits = rw e low;
          segment_fits = rw e (inv.directory.entries.below i h);
          found = λ key t.
              rw e
              (same_holds d (segment_of (f i)) a b (segment_same (segment_of (f i)) (inv.directory.entries.below i h)) (m key) key
              (inv.holds i h key (live_above g (local_depth (f i)) i key low t)));
        }

    lookup_standing : (i : ℕ) → i < 2 ^ g → entry_at b g i ≡ entry_at a g i → LookupAgrees m g d S b i
    lookup_standing i h e =
        let l = inv.lookups_agree i h in
        record {
          depth_fits = rw e l.depth_fits;
          segment_fits = rw e l.segment_fits;
          found = λ key t.
              rw e
              (same_holds d (segment_of (entry_at a g i)) a b (segment_same (segment_of (entry_at a g i)) l.segment_fits) (m key) key
              (l.found key t));
        }

    pub partly_mended : Inv m g d S f b
    partly_mended =
        record {
          shape = shape_kept b inv.shape (p.elsewhere 0 (λ q. omega (arith, q.from, pow_pos g))) p.length_same;
          directory = inv.directory;
          leaders_agree = λ i h e. ⊎_elim (λ q. q ∙ inv.leaders_agree i h e) (λ q. q) (p.entries i h);
          holds = λ i h key t.
              same_holds d (segment_of (f i)) a b (segment_same (segment_of (f i)) (inv.directory.entries.below i h)) (m key) key (inv.holds i h key t);
          in_window = λ i h j k t.
              let e = same_key d (segment_of (f i)) a b (segment_same (segment_of (f i)) (inv.directory.entries.below i h)) j k in
              rw e (inv.in_window i h j k (rw e at t));
          lookups_agree = λ i h. ⊎_elim (lookup_standing i h) (lookup_mended i h) (p.entries i h);
        }

  -- ---- The stores of a mend

  pub inv_mendable : Mendable g S f a
  inv_mendable =
      record {
        dir = inv.directory.entries;
        begins = inv.leaders_agree;
        deep = shape_depth inv.shape;
        room = omega (arith, deep, directories_below d S, inv.shape.room);
      }

  -- Every prefix of a mend's stores keeps the invariant, with the same map and the same f.
  pub mending_kept : (n : ℕ) → Inv m g d S f (exec (mending a) n a)
  mending_kept n = partly_mended (exec (mending a) n a) (mending_partly inv_mendable n)

  -- All of them leave f's entries.
  pub mended_recovered : Recovered g f (apply (mending a) a)
  mended_recovered = mended_entries inv_mendable
