-- An array that serves a directory f and the same directory halved at index i, with the segment n for the right half: while each entry is
-- one or the other's, lookups agree with the map, and the invariant holds with f as long as f's blocks begin with f's entries, and with
-- the halved one where all entries are its. A split goes from f to the halved directory, a merge the other way.
use mathlib.Core.Path.{◌≡◌}
use mathlib.Core.Bool.{true}
use mathlib.Core.List.{List, Memᴰ}
use mathlib.Core.Logic.{◌⊎◌, inl, inr, ⊎_elim}
use Prim.Native.Nat.{ℕ, suc, ◌+◌, ◌*◌, ◌^◌, ◌≤◌, ◌<◌}
use native.Mathlib.Omega.{arith}
use borrow.Author.Tests.{eqb-true}
use lib.Dec.{eqb}
use lib.ListN.{length}
use Rattle.stores.specs.Lists.{pick}
use Rattle.stores.specs.Store.{word}
use Rattle.stores.proofs.Tests.{by_test}
use Rattle.index_rules.specs.Layout.{entry_at, segment_of, local_depth, segment_address, key_at}
use Rattle.index_rules.specs.Keys.{block_start, live, window}
use Rattle.index_laws.proofs.Words.{within_inside}
use Rattle.index_laws.proofs.Keys.{live_whole}
use Rattle.runs.specs.Map.{Map}
use Rattle.index_history.proofs.Holds.{Holds}
use Rattle.index_history.proofs.Invariant.{Shape, Directory, Inv, Recovered, LiveAt, base_at, LookupAgrees, SegmentSame, segments_fit, shape_kept, same_key, same_holds, live_above}
use Rattle.index_laws.proofs.Blocks.{bits_at, halved_directory, Place}
use Rattle.index_history.proofs.Halved.{at_place, halved_directory_holds}

-- The segments hold what the map has for the keys of f's blocks, and segment n what it has for those of the right half of index i's block.
pub record Serves (m : Map) (g d S : ℕ) (f : ℕ → ℕ) (i n : ℕ) (c : List ℕ) : Type 0 where
  pub shape : Shape g d S c
  pub directory : Directory g S f
  pub holds : (k : ℕ) → k < 2 ^ g → (key : ℕ) → LiveAt g f k key → Holds (m key) c (base_at d f k) key
  pub in_window : (k : ℕ) → k < 2 ^ g → (j : ℕ) → j < 64 → LiveAt g f k (key_at c (base_at d f k) j)
      → Memᴰ j (window (key_at c (base_at d f k) j))
  pub new_holds : (key : ℕ) → live (suc (local_depth (f i))) (2 * bits_at g f i + 1) key ≡ true → Holds (m key) c (segment_address d n) key
  pub new_in_window : (j : ℕ) → j < 64
      → live (suc (local_depth (f i))) (2 * bits_at g f i + 1) (key_at c (segment_address d n) j) ≡ true
      → Memᴰ j (window (key_at c (segment_address d n) j))

-- The array b differs from c in entries alone, each of which is f's or the halved directory's.
pub record Between (g d : ℕ) (f : ℕ → ℕ) (i n : ℕ) (c b : List ℕ) : Type 0 where
  pub length_same : length b ≡ length c
  pub word_0_same : word b 0 ≡ word c 0
  pub segments_same : (at : ℕ) → 2 ^ suc d ≤ at → word b at ≡ word c at
  pub entries : (j : ℕ) → j < 2 ^ g → (entry_at b g j ≡ f j) ⊎ (entry_at b g j ≡ halved_directory g f i n j)

module _ {m : Map} {g d S : ℕ} {f : ℕ → ℕ} (i : ℕ) (below : i < 2 ^ g) (room : local_depth (f i) < g)
    (n : ℕ) (new : n < S) (unnamed : (j : ℕ) → j < 2 ^ g → segment_of (f j) ≡ n → ⊥) {c : List ℕ} (sv : Serves m g d S f i n c) where
  pub fits : S < 2 ^ 32
  fits = omega (arith, segments_fit sv.shape)

  pub position : (j : ℕ) → Place g f i n j
  position = at_place sv.directory fits i below room n new unnamed

  after : Directory g S (halved_directory g f i n)
  after = halved_directory_holds sv.directory fits i below room n new unnamed

  module _ (b : List ℕ) (up : Between g d f i n c b) where
    segment_same : (s : ℕ) → s < S → SegmentSame d s c b
    segment_same s h at w = up.segments_same at (within_inside d S s at h w).behind

    -- The blocks of the directory f still hold what the map has.
    old_holds : (k : ℕ) → k < 2 ^ g → (key : ℕ) → LiveAt g f k key → Holds (m key) b (base_at d f k) key
    old_holds k h key t =
        same_holds d (segment_of (f k)) c b (segment_same (segment_of (f k)) (sv.directory.entries.below k h)) (m key) key
        (sv.holds k h key t)

    old_in_window : (k : ℕ) → k < 2 ^ g → (j : ℕ) → j < 64 → LiveAt g f k (key_at b (base_at d f k) j)
        → Memᴰ j (window (key_at b (base_at d f k) j))
    old_in_window k h j l t =
        let e = same_key d (segment_of (f k)) c b (segment_same (segment_of (f k)) (sv.directory.entries.below k h)) j l in
        rw e (sv.in_window k h j l (rw e at t))

    -- And so does each half.
    half_holds : (half : ℕ) → half < 2 → (key : ℕ) → live (suc (local_depth (f i))) (2 * bits_at g f i + half) key ≡ true
        → Holds (m key) b (segment_address d (pick (eqb half 1) n (segment_of (f i)))) key
    half_holds half small key t =
        by_test (eqb half 1)
        (λ r. rw r (same_holds d n c b (segment_same n new) (m key) key (sv.new_holds key (rw (eqb-true half 1 r) at t))))
        (λ r. rw r (old_holds i below key (live_whole (local_depth (f i)) (bits_at g f i) half key small t)))

    half_in_window : (half : ℕ) → half < 2 → (j : ℕ) → j < 64
        → live (suc (local_depth (f i))) (2 * bits_at g f i + half)
        (key_at b (segment_address d (pick (eqb half 1) n (segment_of (f i)))) j) ≡ true
        → Memᴰ j (window (key_at b (segment_address d (pick (eqb half 1) n (segment_of (f i)))) j))
    half_in_window half small j l t =
        by_test (eqb half 1)
        (λ r.
        let e = same_key d n c b (segment_same n new) j l in
        rw (r, e) (sv.new_in_window j l (rw (r, e, eqb-true half 1 r) at t)))
        (λ r. rw r (old_in_window i below j l (live_whole (local_depth (f i)) (bits_at g f i) half _ small (rw r at t))))

    halved_holds : (k : ℕ) → k < 2 ^ g → Place g f i n k → (key : ℕ) → LiveAt g (halved_directory g f i n) k key
        → Holds (m key) b (base_at d (halved_directory g f i n) k) key
    halved_holds k h (inl p) key t =
        rw p.segment_now (half_holds p.half p.small key (rw (p.depth_now, p.half_bits) at t))
    halved_holds k h (inr q) key t = rw q.kept (old_holds k h key (rw q.kept at t))

    halved_in_window : (k : ℕ) → k < 2 ^ g → Place g f i n k → (j : ℕ) → j < 64
        → LiveAt g (halved_directory g f i n) k (key_at b (base_at d (halved_directory g f i n) k) j)
        → Memᴰ j (window (key_at b (base_at d (halved_directory g f i n) k) j))
    halved_in_window k h (inl p) j l t =
        rw p.segment_now (half_in_window p.half p.small j l (rw (p.segment_now, p.depth_now, p.half_bits) at t))
    halved_in_window k h (inr q) j l t = rw q.kept (old_in_window k h j l (rw q.kept at t))

    -- An entry of either directory gives lookups that agree.
    lookup : (dirNow : ℕ → ℕ) → Directory g S dirNow
        → ((k : ℕ) → k < 2 ^ g → (key : ℕ) → LiveAt g dirNow k key → Holds (m key) b (base_at d dirNow k) key)
        → (k : ℕ) → k < 2 ^ g → entry_at b g k ≡ dirNow k → LookupAgrees m g d S b k
    lookup dirNow dir holds k h e =
        record {
          depth_fits = rw e (dir.entries.depths k h);
          segment_fits = rw e (dir.entries.below k h);
          found = λ key t. rw e (holds k h key (live_above g (local_depth (dirNow k)) k key (dir.entries.depths k h) t));
        }

    lookups : (k : ℕ) → k < 2 ^ g → LookupAgrees m g d S b k
    lookups k h =
        ⊎_elim
        (λ e. lookup f sv.directory old_holds k h e)
        (λ e. lookup (halved_directory g f i n) after (λ j l. halved_holds j l (position j)) k h e)
        (up.entries k h)

    -- While the first entry of every block is f's, the invariant holds with f.
    pub old_inv : ((k : ℕ) → k < 2 ^ g → block_start g (local_depth (f k)) k ≡ k → entry_at b g k ≡ f k) → Inv m g d S f b
    old_inv leaders =
        record {
          shape = shape_kept b sv.shape up.word_0_same up.length_same;
          directory = sv.directory;
          leaders_agree = leaders;
          holds = old_holds;
          in_window = old_in_window;
          lookups_agree = lookups;
        }

    -- Once every entry is the halved directory's, it holds with that.
    pub halved_inv : Recovered g (halved_directory g f i n) b → Inv m g d S (halved_directory g f i n) b
    halved_inv all =
        record {
          shape = shape_kept b sv.shape up.word_0_same up.length_same;
          directory = after;
          leaders_agree = λ k h e. all k h;
          holds = λ k h. halved_holds k h (position k);
          in_window = λ k h. halved_in_window k h (position k);
          lookups_agree = lookups;
        }
