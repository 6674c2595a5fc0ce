-- The buddy of a key's block by the code's numbers, and the entries of a joined block.
use mathlib.Core.Path.{◌≡◌, refl, sym, ap, ◌∙◌}
use mathlib.Core.Bool.{true, false}
use mathlib.Core.List.{List, [], ◌∷◌}
use Prim.Native.Nat.{ℕ, suc, ◌+◌, ◌-◌, ◌^◌, ◌≤◌, ◌<◌}
use native.Mathlib.Numerals.{add-one}
use native.Mathlib.Omega.{arith}
use borrow.Author.Tests.{eq-eqb, ne_eqb, le-leb, lt-leb, leb-true, leb-false}
use lib.Dec.{leb}
use lib.ListN.{length}
use lib.Pow.{pow_mono}
use Rattle.stores.specs.Lists.{each}
use Rattle.stores.specs.Store.{word, store}
use Rattle.stores.specs.declared.Budget.{Budget}
use Rattle.stores.specs.Executed.{Executed}
use Rattle.stores.proofs.Tests.{by_test}
use Rattle.stores.proofs.Lists.{each_same}
use Rattle.index_rules.specs.Layout.{depth, entry_address, entry_at, entry, segment_of, local_depth}
use Rattle.index_rules.specs.Keys.{first_bits, index, width, block_start}
use Rattle.index_rules.specs.Get.{key_entry}
use Rattle.index_rules.specs.Merge.{right_start, on_right, buddy_start, joined_depth, buddy_entry, left_entry, right_entry, has_buddy, joining, key_buddy}
use Rattle.index_laws.proofs.Keys.{first_lt, block_start_le, width_le}
use Rattle.index_laws.proofs.Joining.{buddy_inside}
use Rattle.index_layout.specs.declared.place.Place.{Place}
use Rattle.index_layout.specs.Places.{KeyPlace}
use Rattle.index_layout.proofs.Places.{place_bounds, place_index}
use Rattle.index_layout.proofs.Entries.{entry_word}
use Rattle.index_directory.specs.declared.buddy.Starts.{Starts}
use Rattle.index_directory.specs.declared.join.JoinedBlock.{JoinedBlock}
use Rattle.index_directory.specs.Buddies.{BegunBy, pair_of, PairAt, Joinable, joining_of}

-- ---- The halves by where they begin

module _ {s : Starts} {g M i : ℕ} (b : BegunBy s g M i) where
  -- Index i is in the right half, or in the left.
  on_right_holds : s.right ≤ i → on_right g M i ≡ true
  unfolding on_right
  on_right_holds h = le-leb (right_start g M i) i (rw (← b.right_is) h)

  on_left : (s.right ≤ i → ⊥) → on_right g M i ≡ false
  unfolding on_right
  on_left h = lt-leb (right_start g M i) i (rw (← b.right_is) (omega arith))

  pub buddy_left : s.right ≤ i → s.left ≡ buddy_start g M i
  unfolding buddy_start
  buddy_left h = rw (on_right_holds h) b.left_is

  pub buddy_right : (s.right ≤ i → ⊥) → s.right ≡ buddy_start g M i
  unfolding buddy_start
  buddy_right h = rw (on_left h) b.right_is

-- The code's numbers of them are small.
pub starts_small : (g M i : ℕ) → M < g → g ≤ 12 → i < 2 ^ g → block_start g M i + width g (M + 1) ≤ 8192
starts_small g M i low high below =
    let entries : 2 ^ g ≤ 2 ^ 12 = pow_mono {i = g} {j = 12} high in
    rw (add-one M) (omega (arith, block_start_le g M i, width_le g (suc M) high))

pub begun : (g M i left half : ℕ) → left ≡ block_start g M i → half ≡ width g (M + 1) → BegunBy (record { left = left; right = left + half }) g M i
unfolding right_start
begun g M i left half e w = record { left_is = e; right_is = rw (e, w, add-one M) }

-- ---- The pair of a key

module _ {p : Place} {a : List ℕ} (k : KeyPlace p a) where
  abbrev here : ℕ
  here = index p.key (depth a)

  abbrev own : ℕ
  own = key_entry a p.key

  -- A block that fills the directory has no buddy.
  pub whole_directory : p.local_depth ≡ 0 → key_buddy a p.key ≡ false
  unfolding has_buddy
  whole_directory e = rw (eq-eqb (local_depth (key_entry a p.key)) 0 (k.depth_is ∙ e))

  -- The key's index, by its bits.
  pub index_here : (i : ℕ) → i ≡ first_bits p.bits p.header.depth → i ≡ index p.key (depth a)
  index_here i e = e ∙ place_index k p.header.depth ∙ rw k.header_read.depth_read

  module _ (deep : p.local_depth ≡ 0 → ⊥) where
    pub joined_low : p.local_depth - 1 < p.header.depth
    joined_low = omega (arith, (place_bounds k).local_low)

    joined_is : joined_depth (key_entry a p.key) ≡ p.local_depth - 1
    unfolding joined_depth
    joined_is = ap (λ (x : ℕ). x - 1) k.depth_is

    -- The halves of the joined block begin where the code has them.
    module _ {s : Starts} {i : ℕ} (e : i ≡ first_bits p.bits p.header.depth) (b : BegunBy s p.header.depth (p.local_depth - 1) i) where
      begun_here : BegunBy s (depth a) (joined_depth (key_entry a p.key)) (index p.key (depth a))
      begun_here = rw (joined_is, k.header_read.depth_read, ← place_index k p.header.depth, ← e) b

      index_below : i < 2 ^ p.header.depth
      index_below = rw e (first_lt p.bits p.header.depth)

      -- The buddy's first index, where the code has it.
      module _ {x : ℕ} (q : x ≡ buddy_start p.header.depth (p.local_depth - 1) i) where
        pub buddy_below : x < 2 ^ p.header.depth
        buddy_below = rw q (buddy_inside p.header.depth (p.local_depth - 1) i joined_low index_below)

        buddy_here : x ≡ buddy_start (depth a) (joined_depth (key_entry a p.key)) (index p.key (depth a))
        buddy_here = q ∙ rw (joined_is, k.header_read.depth_read, ← place_index k p.header.depth, ← e) refl

        -- The word that is read there is the buddy's leading entry.
        module _ {count : ℕ} (n : count ≡ 2 ^ p.header.depth) where
          entry_here : word a (count + x) ≡ buddy_entry a (index p.key (depth a)) (key_entry a p.key)
          unfolding buddy_entry
          entry_here = entry_word count x k.header_read n ∙ ap (entry_at a (depth a)) buddy_here

          pub other_depth : (local_depth (word a (count + x)) ≡ p.local_depth → ⊥) → key_buddy a p.key ≡ false
          unfolding has_buddy
          other_depth u =
              rw (← entry_here, k.depth_is, ne_eqb p.local_depth 0 deep, ne_eqb (local_depth (word a (count + x))) p.local_depth u)

          has_buddy_holds : local_depth (word a (count + x)) ≡ p.local_depth → key_buddy a p.key ≡ true
          unfolding has_buddy
          has_buddy_holds t =
              rw (← entry_here, k.depth_is, ne_eqb p.local_depth 0 deep, eq-eqb (local_depth (word a (count + x))) p.local_depth t)

          side_here : on_right p.header.depth (p.local_depth - 1) i ≡ on_right (depth a) (joined_depth (key_entry a p.key)) (index p.key (depth a))
          side_here = rw (joined_is, k.header_read.depth_read, ← place_index k p.header.depth, ← e) refl

          pair_right : local_depth (word a (count + x)) ≡ p.local_depth → on_right p.header.depth (p.local_depth - 1) i ≡ true
              → PairAt (record { left = segment_of (word a (count + x)); right = p.segment; start = s.left }) p a
          unfolding left_entry right_entry
          pair_right t r =
              let side = sym side_here ∙ r in
              record {
                buddy = has_buddy_holds t;
                left_is = rw side (ap segment_of (sym entry_here));
                right_is = rw side k.segment_is;
                start_is = sym begun_here.left_is;
              }

          pair_left : local_depth (word a (count + x)) ≡ p.local_depth → on_right p.header.depth (p.local_depth - 1) i ≡ false
              → PairAt (record { left = p.segment; right = segment_of (word a (count + x)); start = s.left }) p a
          unfolding left_entry right_entry
          pair_left t r =
              let side = sym side_here ∙ r in
              record {
                buddy = has_buddy_holds t;
                left_is = rw side k.segment_is;
                right_is = rw side (ap segment_of (sym entry_here));
                start_is = sym begun_here.left_is;
              }

          pub same_depth : local_depth (word a (count + x)) ≡ p.local_depth
              → PairAt (pair_of s i p.segment (segment_of (word a (count + x)))) p a
          same_depth t =
              by_test (leb s.right i)
              (λ r. rw r (pair_right t (on_right_holds b (leb-true s.right i r))))
              (λ r. rw r (pair_left t (on_left b (λ h. omega (arith, leb-false s.right i r)))))

-- ---- The entries of a joined block

-- What a block whose entries can be stored says in numbers.
pub record JoinedFit (b : JoinedBlock) (a : List ℕ) : Type 0 where
  pub entries : 2 ^ b.depth ≤ 4096
  pub inside : b.start + width b.depth b.local_depth ≤ 2 ^ b.depth
  pub room : 2 ^ b.depth + 2 ^ b.depth ≤ length a

pub joined_fit : {b : JoinedBlock} {a : List ℕ} → Joinable b a → JoinedFit b a
joined_fit {b} j = record { entries = pow_mono {j = 12} j.depth_high; inside = j.inside; room = omega (arith, j.room) }

-- All entries stored, from `first` on, which is the address of the block's first entry.
pub join_done : (b : JoinedBlock) (power count e : ℕ) (m : Budget) (a : List ℕ) (m' : Budget) (a' : List ℕ) → power ≡ 2 ^ b.depth
    → count ≡ width b.depth b.local_depth → e ≡ entry b.segment b.local_depth
    → Executed (each (λ t. store (power + b.start + t) e ∷ []) count) m a m' a'
    → Executed (joining_of b) m a m' a'
unfolding joining entry_address
join_done b power count e m a m' a' p w q x =
    rw (
      each_same (λ t. store (2 ^ b.depth + (b.start + t)) (entry b.segment b.local_depth) ∷ []) (λ t. store (power + b.start + t) e ∷ [])
          (width b.depth b.local_depth)
          (λ t h. same_store _ _ _ _ (omega arith) (sym q)),
      ← w,
    )
    x
  where
    same_store : (i j v u : ℕ) → i ≡ j → v ≡ u → store i v ∷ [] ≡ store j u ∷ []
    same_store i j v u p q = rw (p, q)
