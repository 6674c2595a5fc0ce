-- `index_segment::merge::merge_slot` meets its contract.
use Prim.Native.Nat.{◌*◌}
use native.Mathlib.Nat.{add-zero}
use mathlib.Core.Path.{◌≡◌, sym, ◌∙◌}
use mathlib.Core.Bool.{true}
use Rattle.stores.proofs.Stores.{executed_none}
use Rattle.index_rules.specs.Merge.{live_right}
use Rattle.index_layout.specs.Blocks.{shared}
use Rattle.index_segment.proofs.Merges.{merged_moved, merged_empty, merged_own, merged_cleared}
use Rattle.index_segment.proofs.merge.merge_slot.Goals as goal
use Rattle.index_segment.proofs.merge.merge_slot.Goals.{else-sides-ne0-via-then-sides-ne0+else-not-is_live_in_half, else-sides-ne0-via-else-sides-ne0}

pub returns-then-is_live_in_half : goal.returns-then-is_live_in_half
returns-then-is_live_in_half c =
    let u = c.args in
    let moved : live_right u.joined.local_depth (shared u.joined) u.sides.right.key ≡ true = sym c.is_live_in_half.ensures ∙ c.if-is_live_in_half.true in
    rw (merged_moved u.joined.local_depth (shared u.joined) u.slot u.sides.left_key u.sides.right.key u.sides.right.value moved) c.store_record.ensures

pub returns-then-not-is_live_in_half : goal.returns-then-not-is_live_in_half
returns-then-not-is_live_in_half c =
    let u = c.args in
    let stays = sym c.is_live_in_half.ensures ∙ c.if-is_live_in_half.false in
    let stale = sym (rw (add-zero (2 * shared u.joined)) at c.is_live_in_half-then-sides-ne0.ensures) ∙ c.if-not-is_live_in_half.true in
    rw
    (merged_cleared u.joined.local_depth (shared u.joined) u.slot u.sides.left_key u.sides.right.key u.sides.right.value stays
    c.if-sides-ne0.true stale)
    c.clear_key.ensures

pub returns-else-sides-ne0 : goal.returns-else-sides-ne0
returns-else-sides-ne0 c =
    let u = c.args in
    let stays = sym c.is_live_in_half.ensures ∙ c.if-is_live_in_half.false in
    elim c.else-sides-ne0.branch [
      | else-sides-ne0-via-then-sides-ne0+else-not-is_live_in_half w ↦
          let own = sym (rw (add-zero (2 * shared u.joined)) at w.is_live_in_half-then-sides-ne0.ensures) ∙ w.if-not-is_live_in_half.false in
          rw (merged_own u.joined.local_depth (shared u.joined) u.slot u.sides.left_key u.sides.right.key u.sides.right.value stays w.if-sides-ne0.true own)
          (executed_none u.budget.now u.segment.now)
      | else-sides-ne0-via-else-sides-ne0 w ↦
          rw (merged_empty u.joined.local_depth (shared u.joined) u.slot u.sides.left_key u.sides.right.key u.sides.right.value stays w.if-sides-ne0.false)
          (executed_none u.budget.now u.segment.now)
    ]
