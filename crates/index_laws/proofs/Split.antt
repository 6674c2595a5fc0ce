-- What the stores of a split leave, on any array with a valid word 0 and the key's own entry in range.
use mathlib.Core.Path.{◌≡◌, refl, ap, ◌∙◌}
use mathlib.Core.Bool.{true, false}
use mathlib.Core.List.{List, []}
use Prim.Native.Nat.{ℕ, suc, ◌^◌, ◌≤◌, ◌<◌}
use native.Mathlib.Omega.{arith}
use borrow.Author.Tests.{eqb-true, eqb-false}
use lib.Dec.{eqb}
use lib.ListN.{length}
use lib.Pow.{pow_mono}
use Rattle.stores.specs.Lists.{pick}
use Rattle.stores.specs.Store.{word, apply, Every}
use Rattle.stores.proofs.Lists.{every_append}
use Rattle.stores.proofs.Stores.{apply_append}
use Rattle.stores.proofs.Tests.{by_test, pick_below}
use Rattle.index_rules.specs.Layout.{depth_in, max_depth_in, segments_in, depth, max_depth, segments, words_for, entry, segment_of, local_depth}
use Rattle.index_rules.specs.Keys.{bit}
use Rattle.index_rules.specs.Get.{key_entry}
use Rattle.index_rules.specs.Split.{doubling, halving, doubling_for, splitting}
use Rattle.index_rules.specs.Put.{unused}
use Rattle.index_laws.proofs.Words.{ValidHeader, same_header, small, entry_segment, entry_depth}
use Rattle.index_laws.proofs.Doubling.{Doubled, after_doubling, doubling_in_range}
use Rattle.index_laws.proofs.Halving.{after_halving, Halved, halving_in_range}

-- What a split of the key's segment into the segment n needs.
pub record Splittable (a : List ℕ) (key n : ℕ) : Type 0 where
  pub valid : ValidHeader a
  pub local_low : local_depth (key_entry a key) ≤ depth a
  pub local_room : local_depth (key_entry a key) < max_depth a
  pub segment_below : segment_of (key_entry a key) < segments a
  pub new_below : n < segments a

-- The array that the doubling of a split leaves, if it doubles: there the local depth is below the depth.
pub record Ready (a : List ℕ) (key : ℕ) (c : List ℕ) : Type 0 where
  pub depth_now : depth c ≡ pick (eqb (local_depth (key_entry a key)) (depth a)) (suc (depth a)) (depth a)
  pub max_depth_kept : max_depth c ≡ max_depth a
  pub segments_kept : segments c ≡ segments a
  pub length_kept : length c ≡ length a
  pub valid : ValidHeader c
  pub key_entry_holds : key_entry c key ≡ key_entry a key
  pub local_room : local_depth (key_entry a key) < depth c
  pub segments_same : (i : ℕ) → 2 ^ suc (max_depth a) ≤ i → word c i ≡ word a i

module _ (a : List ℕ) (key : ℕ) (v : ValidHeader a)
    (l : local_depth (key_entry a key) ≤ depth a) (r : local_depth (key_entry a key) < max_depth a) where
  doubling_at : eqb (local_depth (key_entry a key)) (depth a) ≡ true → doubling_for a key ≡ doubling a
  unfolding doubling_for
  doubling_at t = rw t

  doubling_not : eqb (local_depth (key_entry a key)) (depth a) ≡ false → doubling_for a key ≡ []
  unfolding doubling_for
  doubling_not t = rw t

  depth_room : eqb (local_depth (key_entry a key)) (depth a) ≡ true → depth a < max_depth a
  depth_room t = omega (arith, eqb-true (local_depth (key_entry a key)) (depth a) t)

  ready_doubled : eqb (local_depth (key_entry a key)) (depth a) ≡ true → Ready a key (apply (doubling a) a)
  ready_doubled t =
      let room : depth a < max_depth a = depth_room t in
      let d : Doubled a (apply (doubling a) a) = after_doubling a v room in
      record {
        depth_now = rw t d.depth_rises;
        max_depth_kept = d.max_depth_kept;
        segments_kept = d.segments_kept;
        length_kept = d.length_kept;
        valid = d.valid;
        key_entry_holds = d.key_entry_holds key;
        local_room = rw d.depth_rises (omega arith);
        segments_same = λ i h.
            let p : 2 ^ suc (suc (depth a)) ≤ 2 ^ suc (max_depth a) = pow_mono {i = suc (suc (depth a))} {j = suc (max_depth a)} (omega arith) in
            d.behind i (omega arith);
      }

  ready_same : eqb (local_depth (key_entry a key)) (depth a) ≡ false → Ready a key a
  ready_same t =
      record {
        depth_now = rw t;
        max_depth_kept = refl;
        segments_kept = refl;
        length_kept = refl;
        valid = v;
        key_entry_holds = refl;
        local_room = omega (arith, eqb-false (local_depth (key_entry a key)) (depth a) t);
        segments_same = λ i h. refl;
      }

  pub ready : Ready a key (apply (doubling_for a key) a)
  unfolding apply
  ready =
      by_test (eqb (local_depth (key_entry a key)) (depth a))
      (λ t. rw (doubling_at t) (ready_doubled t))
      (λ t. rw (doubling_not t) (ready_same t))

  pub doubling_for_in_range : Every (λ s. s.at < words_for (max_depth a) (segments a)) (doubling_for a key)
  doubling_for_in_range =
      by_test (eqb (local_depth (key_entry a key)) (depth a))
      (λ t. rw (doubling_at t) (doubling_in_range a (depth_room t)))
      (λ t. rw (doubling_not t) Prim.tt)

-- What a split leaves.
pub record AfterSplit (a : List ℕ) (key n : ℕ) (b : List ℕ) : Type 0 where
  pub depth_now : depth b ≡ pick (eqb (local_depth (key_entry a key)) (depth a)) (suc (depth a)) (depth a)
  pub max_depth_kept : max_depth b ≡ max_depth a
  pub segments_kept : segments b ≡ segments a
  pub length_kept : length b ≡ length a
  pub valid : ValidHeader b
  pub key_entry_holds : key_entry b key
      ≡ entry (pick (eqb (bit key (local_depth (key_entry a key))) 1) n (segment_of (key_entry a key))) (suc (local_depth (key_entry a key)))
  pub local_rises : local_depth (key_entry b key) ≡ suc (local_depth (key_entry a key))
  pub local_low : local_depth (key_entry b key) ≤ depth b
  pub segment_now : segment_of (key_entry b key) ≡ pick (eqb (bit key (local_depth (key_entry a key))) 1) n (segment_of (key_entry a key))
  pub segment_below : segment_of (key_entry b key) < segments b

module _ (a : List ℕ) (key n : ℕ) (p : Splittable a key n) where
  -- The array between the doubling and the halving.
  between : List ℕ
  between = apply (doubling_for a key) a

  between_ready : Ready a key between
  unfolding between
  between_ready = ready a key p.valid p.local_low p.local_room

  between_room : local_depth (key_entry between key) < depth between
  between_room = let r = between_ready in rw r.key_entry_holds r.local_room

  between_new : n < segments between
  between_new = rw between_ready.segments_kept p.new_below

  pub splitting_in_range : Every (λ s. s.at < words_for (max_depth a) (segments a)) (splitting a key n)
  unfolding splitting between
  splitting_in_range =
      let r : Ready a key between = between_ready in
      let h : Every (λ s. s.at < words_for (max_depth between) (segments between)) (halving between key n) =
      halving_in_range between key n r.valid between_new (let q = between_room in omega arith) in
      every_append (λ s. s.at < words_for (max_depth a) (segments a)) (doubling_for a key) (halving between key n)
      (doubling_for_in_range a key p.valid p.local_low p.local_room)
      (rw (r.max_depth_kept, r.segments_kept) at h)

  after_between : apply (splitting a key n) a ≡ apply (halving between key n) between
  unfolding splitting between
  after_between = apply_append (doubling_for a key) (halving (apply (doubling_for a key) a) key n) a

  pub after_split : AfterSplit a key n (apply (splitting a key n) a)
  after_split =
      let L : ℕ = local_depth (key_entry a key) in
      let half : ℕ = pick (eqb (bit key L) 1) n (segment_of (key_entry a key)) in
      let r : Ready a key between = between_ready in
      let b : List ℕ = apply (halving between key n) between in
      let h : Halved between key n b = after_halving between key n r.valid between_new between_room in
      let k : key_entry b key ≡ entry half (suc L) = rw r.key_entry_holds at h.key_entry_holds in
      let below : half < segments a = pick_below (eqb (bit key L) 1) n (segment_of (key_entry a key)) (segments a) p.new_below p.segment_below in
      let fits : half < 2 ^ 32 = omega (arith, (small p.valid).segments_32) in
      let rises : local_depth (key_entry b key) ≡ suc L = rw k (entry_depth half (suc L) fits) in
      let now : segment_of (key_entry b key) ≡ half = rw k (entry_segment half (suc L) fits) in
      let ss : segments b ≡ segments a = ap segments_in h.word_0 ∙ r.segments_kept in
      let gs : depth b ≡ depth between = ap depth_in h.word_0 in
      rw after_between
      (record {
        depth_now = gs ∙ r.depth_now;
        max_depth_kept = ap max_depth_in h.word_0 ∙ r.max_depth_kept;
        segments_kept = ss;
        length_kept = h.length_kept ∙ r.length_kept;
        valid = same_header between b h.word_0 h.length_kept r.valid;
        key_entry_holds = k;
        local_rises = rises;
        local_low = rw (rises, gs) r.local_room;
        segment_now = now;
        segment_below = rw (now, ss) below;
      })

  -- A split uses one of the depths that were left.
  pub unused_falls : (u : ℕ) → unused a key ≡ suc u → unused (apply (splitting a key n) a) key ≡ u
  unfolding unused
  unused_falls u e =
      let s : AfterSplit a key n (apply (splitting a key n) a) = after_split in
      rw (s.max_depth_kept, s.local_rises) (omega arith)
