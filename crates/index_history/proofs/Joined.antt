-- After a merge no two blocks share a segment, and none has the right half's.
use mathlib.Core.Path.{◌≡◌, sym, ap, ◌∙◌}
use Prim.Native.Nat.{ℕ, suc, ◌+◌, ◌*◌, ◌^◌, ◌<◌}
use native.Mathlib.Omega.{arith}
use Rattle.stores.proofs.Tests.{by_equal}
use Rattle.index_rules.specs.Layout.{entry, segment_of, local_depth}
use Rattle.index_rules.specs.Keys.{block_bits, block_start}
use Rattle.index_rules.specs.Merge.{right_start}
use Rattle.index_laws.proofs.Words.{entry_segment, entry_depth}
use Rattle.index_laws.proofs.Blocks.{SameBlock}
use Rattle.index_laws.proofs.Joining.{TwoHalves, bits_left, bits_right, left_inside, right_inside, half_in, joined_directory, joined_out, joined_segment, joined_depth_holds, joined_blocks}
use Rattle.index_history.proofs.Invariant.{Directory}

module _ {g S M : ℕ} {f : ℕ → ℕ} {i left right : ℕ} (dir : Directory g S f) (fits : S < 2 ^ 32) (below : i < 2 ^ g)
    (h : TwoHalves g M f i left right) (left_below : left < S) (right_below : right < S) where
  -- The first indices of the two halves are in the directory.
  pub left_in : block_start g M i < 2 ^ g
  left_in = left_inside g M i h.room below

  pub right_in : right_start g M i < 2 ^ g
  right_in = right_inside g M i h.room below

  -- Segment and local depth of the left half, at its first index.
  left_entry_holds : f (block_start g M i) ≡ entry left (suc M)
  left_entry_holds = h.on_left (block_start g M i) left_in (bits_left g M i h.room)

  pub left_segment_holds : segment_of (f (block_start g M i)) ≡ left
  left_segment_holds = rw left_entry_holds (entry_segment left (suc M) (omega arith))

  pub left_depth : local_depth (f (block_start g M i)) ≡ suc M
  left_depth = rw left_entry_holds (entry_depth left (suc M) (omega arith))

  -- And of the right half.
  right_entry_holds : f (right_start g M i) ≡ entry right (suc M)
  right_entry_holds = h.on_right_holds (right_start g M i) right_in (bits_right g M i h.room)

  pub right_segment_holds : segment_of (f (right_start g M i)) ≡ right
  right_segment_holds = rw right_entry_holds (entry_segment right (suc M) (omega arith))

  pub right_depth : local_depth (f (right_start g M i)) ≡ suc M
  right_depth = rw right_entry_holds (entry_depth right (suc M) (omega arith))

  -- An index whose entry names one of the two segments is in the half that names it.
  names_left : (j : ℕ) → j < 2 ^ g → segment_of (f j) ≡ left → block_bits g (suc M) j ≡ 2 * block_bits g M i
  names_left j k e =
      (rw left_depth at (dir.apart (block_start g M i) j left_in k (e ∙ sym left_segment_holds))) ∙ bits_left g M i h.room

  names_right : (j : ℕ) → j < 2 ^ g → segment_of (f j) ≡ right → block_bits g (suc M) j ≡ 2 * block_bits g M i + 1
  names_right j k e =
      (rw right_depth at (dir.apart (right_start g M i) j right_in k (e ∙ sym right_segment_holds))) ∙ bits_right g M i h.room

  pub segments_apart : left ≡ right → ⊥
  segments_apart e =
      omega (arith, names_left (right_start g M i) right_in (right_segment_holds ∙ sym e), bits_right g M i h.room)

  joined_apart : (k j : ℕ) → k < 2 ^ g → j < 2 ^ g
      → segment_of (joined_directory g M f i left j) ≡ segment_of (joined_directory g M f i left k) → SameBlock g (joined_directory g M f i left) k j
  joined_apart k j hk hj e =
      by_equal (block_bits g M k) (block_bits g M i)
      (λ p. rw (joined_depth_holds h fits left_below k p) (joins j hj (e ∙ joined_segment h fits left_below k p) ∙ sym p))
      (λ u.
      let kept = joined_out g M f i left k u in
      let apart-j : block_bits g M j ≡ block_bits g M i → ⊥ =
      λ q. u (half_in h k 0 (omega arith) (names_left k hk (sym (ap segment_of kept) ∙ sym e ∙ joined_segment h fits left_below j q) ∙ omega arith)) in
      rw kept (dir.apart k j hk hj (rw (kept, joined_out g M f i left j apart-j) at e)))
    where
      -- An index whose entry names the left segment afterwards is in the joined block.
      joins : (j : ℕ) → j < 2 ^ g → segment_of (joined_directory g M f i left j) ≡ left → block_bits g M j ≡ block_bits g M i
      joins j hj e =
          by_equal (block_bits g M j) (block_bits g M i)
          (λ t. t)
          (λ u.
          absurd (u (half_in h j 0 (omega arith) (names_left j hj (sym (ap segment_of (joined_out g M f i left j u)) ∙ e) ∙ omega arith))))

  pub joined_directory_holds : Directory g S (joined_directory g M f i left)
  joined_directory_holds =
      record {
        entries = joined_blocks h fits left_below right_below dir.entries;
        apart = joined_apart;
      }

  -- No entry names the right half's segment.
  pub right_unnamed : (j : ℕ) → j < 2 ^ g → segment_of (joined_directory g M f i left j) ≡ right → ⊥
  right_unnamed j k e =
      by_equal (block_bits g M j) (block_bits g M i)
      (λ t. segments_apart (sym (joined_segment h fits left_below j t) ∙ e))
      (λ u. u (half_in h j 1 (omega arith) (names_right j k (sym (ap segment_of (joined_out g M f i left j u)) ∙ e))))
