-- No put is due more than 9764 stores, on any array.
use mathlib.Core.Path.{◌≡◌, refl, ap, ◌∙◌}
use mathlib.Core.Bool.{Bool, true, false}
use mathlib.Core.List.{List, [], ◌∷◌}
use mathlib.Core.Option.{Option, none, some}
use Prim.Native.Nat.{ℕ, suc, ◌+◌, ◌*◌, ◌-◌, ◌/◌, ◌^◌, ◌≤◌, ◌<◌}
use native.Mathlib.Omega.{arith}
use borrow.Author.Tests.{eqb-true, eqb-false}
use lib.Dec.{eqb}
use lib.ListN.{length, length-append}
use lib.Pow.{pow_mono, pow_pos}
use Rattle.stores.specs.Lists.{pick}
use Rattle.stores.specs.Store.{Store, store, apply}
use Rattle.stores.specs.Plan.{Plan}
use Rattle.stores.proofs.Lists.{length_each_le, length_each_ones}
use Rattle.replies.specs.declared.Refusal.{Refusal}
use Rattle.index_rules.specs.Layout.{depth, max_depth, segments, header, entry_address, entry_at, local_depth, segment_of, segment_address}
use Rattle.index_rules.specs.Keys.{width}
use Rattle.replies.specs.Replies.{Said}
use Rattle.index_rules.specs.Get.{key_entry}
use Rattle.index_rules.specs.Split.{doubling, moves, copy_slot, copying, halving, doubling_for, splitting}
use Rattle.index_rules.specs.Put.{put_tests, put}
use Rattle.index_laws.proofs.Keys.{width_pos, width_full, width_half, block_end}
use Rattle.index_laws.proofs.Put.{Passed, passed, Cases, put_refused, put_induction}
use Rattle.index_laws.proofs.Doubling.{doubled_entries, doubling_parts}
use Rattle.index_laws.proofs.Updating.{length_updating}
use Rattle.index_laws.proofs.Halving.{key_start, key_bits, key_copies, key_updates, halving_parts}
use Rattle.index_laws.proofs.Split.{Ready, ready, Splittable, AfterSplit, after_split}

-- ---- The numbers of stores of the steps of a split

pub length_doubling : (a : List ℕ) → length (doubling a) ≡ suc (2 ^ suc (depth a))
length_doubling a =
    rw (doubling_parts a)
    (length-append (doubled_entries a) (store 0 (header (suc (depth a)) (max_depth a) (segments a)) ∷ [])
    ∙ ap (λ (k : ℕ). k + 1)
    (length_each_ones (λ e. store (entry_address (suc (depth a)) e) (entry_at a (depth a) (e / 2))) (2 ^ suc (depth a)))
    ∙ omega arith)

pub length_copying : (a : List ℕ) (from to L bits : ℕ) → length (copying a from to L bits) ≤ 128
unfolding copying copy_slot
length_copying a from to L bits =
    length_each_le (copy_slot a from to L bits) 2 64 (λ j h. two (moves a from L bits j) _ _ _)
  where
    two : (t : Bool) (x y z : Store) → length (pick t (x ∷ y ∷ []) (z ∷ [])) ≤ 2
    two true x y z = omega arith
    two false x y z = omega arith

pub length_halving : (a : List ℕ) (key n : ℕ) → length (halving a key n) ≤ 128 + width (depth a) (local_depth (key_entry a key))
length_halving a key n =
    let c : length (key_copies a key n) ≤ 128 =
    length_copying a (segment_address (max_depth a) (segment_of (key_entry a key))) (segment_address (max_depth a) n)
    (local_depth (key_entry a key)) (key_bits a key) in
    let u : length (key_updates a key n) ≡ width (depth a) (local_depth (key_entry a key)) =
    length_updating (depth a) (local_depth (key_entry a key)) (key_start a key) (segment_of (key_entry a key)) n in
    rw (halving_parts a key n, length-append (key_copies a key n) (key_updates a key n)) (omega arith)

length_doubling_for : (a : List ℕ) (key : ℕ)
    → length (doubling_for a key) ≡ pick (eqb (local_depth (key_entry a key)) (depth a)) (suc (2 ^ suc (depth a))) 0
unfolding doubling_for
length_doubling_for a key = go (eqb (local_depth (key_entry a key)) (depth a))
  where
    go : (t : Bool) → length (pick t (doubling a) []) ≡ pick t (suc (2 ^ suc (depth a))) 0
    go true = length_doubling a
    go false = refl

pub length_splitting : (a : List ℕ) (key n : ℕ) → Splittable a key n
    → length (splitting a key n)
    ≤ pick (eqb (local_depth (key_entry a key)) (depth a)) (suc (2 ^ suc (depth a))) 0
    + (128
    + width (pick (eqb (local_depth (key_entry a key)) (depth a)) (suc (depth a)) (depth a)) (local_depth (key_entry a key)))
unfolding splitting
length_splitting a key n p =
    let c : List ℕ = apply (doubling_for a key) a in
    let r : Ready a key c = ready a key p.valid p.local_low p.local_room in
    let h = rw (r.key_entry_holds, r.depth_now) at (length_halving c key n) in
    rw (length-append (doubling_for a key) (halving c key n), length_doubling_for a key) (omega arith)

-- ---- The stores still to come

-- At least the number of stores that a put is still due, where the depths are G and D and the key's local depth is L.
potential : (G D L : ℕ) → ℕ
potential G D L = 131 * (D - L) + 2 * width G L + 2 ^ suc D - 2 ^ suc G

-- A split takes no more than the potential falls.
split_falls : (t : Bool) (G D L : ℕ) → eqb L G ≡ t → L ≤ G → G ≤ D → L < D
    → pick t (suc (2 ^ suc G)) 0 + (128 + width (pick t (suc G) G) L) + potential (pick t (suc G) G) D (suc L) ≤ potential G D L
unfolding potential
split_falls true G D L t l g d =
    let e : L ≡ G = eqb-true L G t in
    let w : width G L ≡ 1 = rw e (width_full G) in
    let w' : width (suc G) (suc L) ≡ 1 = rw e (width_full (suc G)) in
    let h : width (suc G) L ≡ 2 * width (suc G) (suc L) = width_half (suc G) L (omega arith) in
    let p : 2 ^ suc (suc G) ≤ 2 ^ suc D = pow_mono {i = suc (suc G)} {j = suc D} (omega arith) in
    omega arith
split_falls false G D L t l g d =
    let h : width G L ≡ 2 * width G (suc L) = width_half G L (omega (arith, eqb-false L G t)) in
    let p : 2 ^ suc G ≤ 2 ^ suc D = pow_mono {i = suc G} {j = suc D} (omega arith) in
    omega arith

potential_low : (G D L : ℕ) → G ≤ D → 2 ≤ potential G D L
unfolding potential
potential_low G D L g =
    let p : 2 ^ suc G ≤ 2 ^ suc D = pow_mono {i = suc G} {j = suc D} (omega arith) in
    omega (arith, width_pos G L)

potential_high : (G D L : ℕ) → L ≤ G → G ≤ D → D ≤ 12 → potential G D L ≤ 9764
unfolding potential
potential_high G D L l g d =
    let p : 2 ^ suc G ≤ 2 ^ suc D = pow_mono {i = suc G} {j = suc D} (omega arith) in
    let q : 2 ^ D ≤ 2 ^ 12 = pow_mono {i = D} {j = 12} d in
    omega (arith, block_end G L 0 l (pow_pos G))

-- ---- All stores of a put

Within-potential : (key : ℕ) → List ℕ → Plan Said → Type 0
Within-potential key a p = length p.due ≤ potential (depth a) (max_depth a) (local_depth (key_entry a key))

put_potential : (key value : ℕ) → Cases key value (Within-potential key)
unfolding Within-potential
put_potential key value =
    record {
      when_refused = λ a r e. omega arith;
      when_found = λ a j p c.
          omega (arith, potential_low (depth a) (max_depth a) (local_depth (key_entry a key)) p.valid.present);
      when_into = λ a j p c.
          omega (arith, potential_low (depth a) (max_depth a) (local_depth (key_entry a key)) p.valid.present);
      when_deep = λ a p c d. omega arith;
      when_none = λ a p c d f. omega arith;
      when_split = λ a n p c f s rest.
          let b : AfterSplit a key n (apply (splitting a key n) a) = after_split a key n s in
          let more = rw (b.depth_now, b.max_depth_kept, b.local_rises) at rest in
          rw (length-append (splitting a key n) (put (apply (splitting a key n) a) key value).due)
          (omega (
            arith,
            more,
            length_splitting a key n s,
            split_falls (eqb (local_depth (key_entry a key)) (depth a)) (depth a) (max_depth a) (local_depth (key_entry a key)) refl
                p.local_low p.valid.present s.local_room,
          ));
    }

pub put_bound : (a : List ℕ) (key value : ℕ) → length (put a key value).due ≤ 9764
unfolding Within-potential
put_bound a key value = go (put_tests a key) refl
  where
    go : (o : Option Refusal) → put_tests a key ≡ o → length (put a key value).due ≤ 9764
    go none e =
        let p : Passed a key = passed a key e in
        omega (
          arith,
          put_induction key value (Within-potential key) (put_potential key value) a,
          potential_high (depth a) (max_depth a) (local_depth (key_entry a key)) p.local_low p.valid.present p.valid.depth_high,
        )
    go (some r) e = rw (put_refused a key value r e) (omega arith)
