-- What the code of a split asks and leaves.
use mathlib.Core.Path.{◌≡◌, refl, sym, ◌∙◌}
use mathlib.Core.Bool.{true, false}
use mathlib.Core.List.{List, ◌++◌}
use mathlib.Core.Option.{some}
use Prim.Native.Nat.{ℕ, suc, ◌+◌, ◌*◌, ◌-◌, ◌^◌, ◌≤◌, ◌<◌}
use native.Mathlib.Numerals.{add-one}
use native.Mathlib.Omega.{arith}
use borrow.Author.Tests.{eq-eqb, ne_eqb}
use lib.Dec.{eqb}
use lib.ListN.{length, take, drop}
use lib.Pow.{pow_mono}
use Rattle.std.specs.Prelude.{Ok, Err, Option, Some, None}
use Rattle.stores.specs.Options.{option_of}
use Rattle.stores.specs.Store.{word, apply}
use Rattle.stores.specs.declared.Budget.{Budget}
use Rattle.stores.specs.Executed.{Executed, begun, due_limit}
use Rattle.stores.proofs.Stores.{executed_append}
use Rattle.stores.proofs.Loops.{executed_length}
use Rattle.replies.specs.declared.Refusal.TheVariants.{NoSegment}
use Rattle.index_rules.specs.Layout.{depth, max_depth, segment_address, local_depth}
use Rattle.index_rules.specs.Keys.{first_bits}
use Rattle.index_rules.specs.Slots.{free_segment}
use Rattle.index_rules.specs.Get.{key_entry}
use Rattle.index_rules.specs.Split.{doubling, copying, halving, doubling_for, splitting}
use Rattle.index_laws.proofs.Words.{valid_header_holds}
use Rattle.index_laws.proofs.Keys.{index_shift, first_lt, block_end}
use Rattle.index_laws.proofs.Doubling.{Doubled, after_doubling}
use Rattle.index_laws.proofs.Halving.{halving_parts}
use Rattle.index_laws.proofs.Put.{free_below}
use Rattle.index_laws.proofs.Bound.{length_doubling, length_copying}
use Rattle.index_layout.specs.declared.place.Place.{Place}
use Rattle.index_layout.specs.Places.{KeyPlace, shared_at}
use Rattle.index_layout.proofs.Shapes.{bounds}
use Rattle.index_layout.proofs.Places.{segment_fits, place_bounds, place_index}
use Rattle.index_directory.specs.Updates.{Updatable, updating_of}
use Rattle.index_segment.specs.Slot.{segment_in}
use Rattle.index_structure.specs.declared.split.Halving.{Halving}
use Rattle.index_structure.specs.Splits.{CanSplit, SplitBy, Halvable, copying_at, halves_at, start_at, halving_at}
use Rattle.index_structure.proofs.Copies.{copying_same, copying_read, copied}

-- ---- Steps 3 and 4

-- Steps 3 and 4 at the place p, in a directory of depth g, with the new segment n.
abbrev pub halving_for : Place → (g n : ℕ) → Halving
halving_for p g n = record { place = p; depth = g; new_segment = n }

-- Their stores, in an array b with this depth that has the key's entry and the key's segment of a.
halving_at_holds : {p : Place} {n : ℕ} {a : List ℕ} → CanSplit p n a → (b : List ℕ) (g : ℕ) → depth b ≡ g → max_depth b ≡ p.header.max_depth
    → key_entry b p.key ≡ key_entry a p.key → ((i : ℕ) → i < 128 → word a (p.base + i) ≡ word b (p.base + i)) → p.local_depth ≤ g
    → halving b p.key n ≡ halving_at (segment_in a p.base) (halving_for p g n)
halving_at_holds {p} {n} {a} can b g dg dD same words h =
    let k = can.place in
    let to : ℕ = segment_address p.header.max_depth n in
    let bits : ℕ = first_bits p.bits p.local_depth in
    let read : copying (segment_in a p.base) 0 to p.local_depth bits ≡ copying b p.base to p.local_depth bits =
    copying_read a p.base to p.local_depth bits (place_bounds k).whole ∙ copying_same a b p.base to p.local_depth bits words in
    halving_parts b p.key n
    ∙ rw (dg, dD, same, k.segment_is, k.depth_is, index_shift p.key g p.local_depth h, ← (place_bounds k).base_at_holds, ← place_index k g, ← place_index k p.local_depth, read)

-- The code of steps 3 and 4: `base` is the address of the new segment, `part` its words behind the copy step.
module _ {h : Halving} {a : List ℕ} (ok : Halvable h a) (base : ℕ) (old : List ℕ)
    (base_is : base ≡ segment_address h.place.header.max_depth h.new_segment) (x x₁ : Budget) (part : List ℕ)
    (copy : Executed (copying old 0 0 h.place.local_depth (shared_at h.place)) x (take (base + 128 - base) (drop base a)) x₁ part) where
  -- The array behind the copy step.
  abbrev after_copy : List ℕ
  after_copy = take base a ++ (part ++ drop (base + 128 - base) (drop base a))

  copy_made : Executed (copying_at old h) x a x₁ after_copy
  copy_made =
      rw (← base_is)
      (copied a old base h.place.local_depth (shared_at h.place) x x₁ part (rw base_is ok.new_room) copy)

  copy_due : x₁.due ≤ x.due + 128
  copy_due =
      let c = copy_made.count in
      omega (arith, length_copying old 0 (segment_address h.place.header.max_depth h.new_segment) h.place.local_depth (shared_at h.place))

  -- The entries of the key's block, which begins at `start`, can be updated.
  pub update_ready : (start : ℕ) → start ≡ start_at h → x.due + 128 ≤ due_limit
      → Updatable (halves_at h start) after_copy × (x₁.due ≤ due_limit)
  unfolding segment_address
  update_ready start e few =
      let D = h.place.header.max_depth in
      let next : 2 ^ suc h.depth ≤ 2 ^ suc D = pow_mono {i = suc h.depth} {j = suc D} (let q = ok.depth_low in omega arith) in
      let room : 2 ^ suc D + 128 * h.new_segment + 128 ≤ length a = ok.new_room in
      let kept : length after_copy ≡ length a = executed_length copy_made in
      let made = copy_due in (
        record {
          not_full = ok.not_full;
          depth_high = let p = ok.depth_low in let q = ok.depth_high in omega arith;
          inside = rw e (block_end h.depth h.place.local_depth (first_bits h.place.bits h.depth) (let p = ok.not_full in omega arith) (first_lt h.place.bits h.depth));
          old_fits = let p = ok.old_below in omega arith;
          new_fits = let p = ok.new_below in omega arith;
          room = rw kept (omega arith);
        },
        omega arith,
      )

  pub halve_done : (start : ℕ) (x' : Budget) (b : List ℕ) → start ≡ start_at h
      → Executed (updating_of (halves_at h start)) x₁ after_copy x' b
      → Executed (halving_at old h) x a x' b
  halve_done start x' b e update =
      rw (← e)
      (executed_append (copying_at old h) (updating_of (halves_at h start)) x a x₁ after_copy x' b copy_made update)

-- ---- Steps 2 to 4

module _ {p : Place} {n : ℕ} {a : List ℕ} (can : CanSplit p n a) where
  pub halvable : (g : ℕ) (b : List ℕ) → p.local_depth < g → g ≤ p.header.max_depth → length b ≡ length a → Halvable (halving_for p g n) b
  halvable g b low high l =
      let bs = bounds can.place.header_read in
      record {
        not_full = low;
        depth_low = high;
        depth_high = bs.max_depth_high;
        old_below = (place_bounds can.place).segment_small;
        new_below = let q = can.new_below in let r = bs.segments_high in omega arith;
        new_room = rw l (segment_fits can.place.header_read n can.new_below);
      }

  module _ (deep : p.local_depth ≡ p.header.depth) where
    doubling_room : depth a < max_depth a
    doubling_room =
        let d = can.place.header_read in
        let l = can.local_room in
        rw (d.depth_read, d.max_depth_read) (omega arith)

    pub doubling_due : (x x' : Budget) (b : List ℕ) → Executed (doubling a) x a x' b → x'.due ≤ x.due + 8193
    doubling_due x x' b q =
        let g = (bounds can.place.header_read).entries in
        let l = rw (length_doubling a, can.place.header_read.depth_read) at q.count in
        omega (arith, l)

  module _ {old : List ℕ} (old-is : old ≡ segment_in a p.base) where
    -- Where the segment is less deep than the directory, nothing is doubled.
    pub split_halved : (x x' : Budget) (b : List ℕ) → (p.local_depth ≡ p.header.depth → ⊥)
        → Executed (halving_at old (halving_for p p.header.depth n)) x a x' b → Executed (splitting a p.key n) x a x' b
    unfolding splitting doubling_for apply
    split_halved x x' b ne q =
        let k = can.place in
        let d = k.header_read in
        let t : eqb (local_depth (key_entry a p.key)) (depth a) ≡ false = rw (k.depth_is, d.depth_read) (ne_eqb p.local_depth p.header.depth ne) in
        let e : halving a p.key n ≡ halving_at (segment_in a p.base) (halving_for p p.header.depth n) =
        halving_at_holds can a p.header.depth d.depth_read d.max_depth_read refl (λ i l. refl) (place_bounds k).local_low in
        rw (t, e, ← old-is) q

    -- Where the segment is as deep as the directory, the directory is doubled first. The doubling stores no word of the segment.
    pub split_doubled : (deep : p.local_depth ≡ p.header.depth) (x x' : Budget) (b : List ℕ) (x'' : Budget) (b' : List ℕ)
        → Executed (doubling a) x a x' b
        → Executed (halving_at old (halving_for p (p.header.depth + 1) n)) x' b x'' b' → Executed (splitting a p.key n) x a x'' b'
    unfolding splitting doubling_for segment_address
    split_doubled deep x x' b x'' b' q r =
        let k = can.place in
        let d = k.header_read in
        let c : List ℕ = apply (doubling a) a in
        let t : eqb (local_depth (key_entry a p.key)) (depth a) ≡ true = rw (k.depth_is, d.depth_read) (eq-eqb p.local_depth p.header.depth deep) in
        let after : Doubled a c = after_doubling a (valid_header_holds a d.valid) (doubling_room deep) in
        let next : 2 ^ suc (suc (depth a)) ≤ 2 ^ suc (max_depth a) =
        pow_mono {i = suc (suc (depth a))} {j = suc (max_depth a)} (let r = doubling_room deep in omega arith) in
        let base : p.base ≡ 2 ^ suc (max_depth a) + 128 * p.segment = rw d.max_depth_read (place_bounds k).base_at_holds in
        let e : halving c p.key n ≡ halving_at (segment_in a p.base) (halving_for p (p.header.depth + 1) n) =
        halving_at_holds can c (p.header.depth + 1)
        (after.depth_rises ∙ rw (d.depth_read, add-one p.header.depth))
        (after.max_depth_kept ∙ d.max_depth_read)
        (after.key_entry_holds p.key)
        (λ i l. sym (after.behind _ (omega arith)))
        (omega arith) in
        rw (t, e, ← old-is)
        (executed_append (doubling a) (halving_at old (halving_for p (p.header.depth + 1) n)) x a x' b x'' b' q r)

-- ---- Step 1, and the whole split

module _ {p : Place} {a : List ℕ} (k : KeyPlace p a) (shallow : p.local_depth ≡ p.header.max_depth → ⊥) where
  room : p.local_depth < p.header.max_depth
  room =
      let l = (place_bounds k).local_low in
      let g = (bounds k.header_read).present in
      omega (arith, shallow)

  -- The search for a free segment has found n, or none.
  module _ (f : Option ℕ) (e : option_of f ≡ free_segment a) where
    pub no_segment : f ≡ None → (allowance : ℕ) → SplitBy (Err NoSegment) p allowance a a
    no_segment q allowance = (room, sym (rw q at e), refl)

    free_is : {n : ℕ} → f ≡ Some n → free_segment a ≡ some n
    free_is q = sym (rw q at e)

    pub can_split : {n : ℕ} → f ≡ Some n → CanSplit p n a
    can_split {n} q =
        record {
          place = k;
          local_room = room;
          new_below = rw k.header_read.segments_read at (free_below a n (free_is q)).0;
        }

    pub split_made : {n : ℕ} → f ≡ Some n → {allowance : ℕ} {x : Budget} {b : List ℕ} → Executed (splitting a p.key n) (begun allowance) a x b
        → SplitBy (Ok x) p allowance a b
    split_made {n} q m = (n, record { local_room = room; free = free_is q; made = m })
