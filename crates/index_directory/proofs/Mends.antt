-- The turns of a mend. Its stores so far lie before the entry that is read.
use mathlib.Core.Path.{◌≡◌, sym, ◌∙◌}
use mathlib.Core.Bool.{Bool, true, false}
use mathlib.Core.List.{List, [], ◌∷◌}
use Prim.Native.Nat.{ℕ, ◌+◌, ◌^◌, ◌≤◌, ◌<◌}
use native.Mathlib.Omega.{arith}
use lib.Dec.{ltb, eqb}
use lib.ListN.{length}
use Rattle.stores.specs.Lists.{pick, each}
use Rattle.stores.specs.Store.{Store, store, word, Every}
use Rattle.stores.specs.declared.Budget.{Budget}
use Rattle.stores.specs.Executed.{Executed}
use Rattle.stores.proofs.Lists.{every_each, every_pick}
use Rattle.index_rules.specs.Layout.{depth, segments, entry_address, entry_at, local_depth}
use Rattle.index_rules.specs.Scan.{leading_entry, leaders_valid}
use Rattle.index_rules.specs.Mend.{mend_entry, mending}
use Rattle.index_laws.proofs.Words.{entry_inj}
use Rattle.index_laws.proofs.Scan.{valid_at, valid_at_depth}
use Rattle.index_layout.specs.declared.header.Header.{Header}
use Rattle.index_directory.specs.declared.scan.LedBlock.{LedBlock}
use Rattle.index_layout.specs.Headers.{Describes}
use Rattle.index_directory.specs.Scans.{block_led_by}
use Rattle.index_directory.specs.Updates.{correction}
use Rattle.index_layout.proofs.Entries.{entry_address_holds, entry_word}
use Rattle.stores.proofs.Loops.{after_turn, executed_elsewhere}
use Rattle.index_directory.proofs.Blocks.{Passing, Found, leads_itself, block_found}

-- One entry asks at most one store.
at_most_one : (t : Bool) (s : Store) → length (pick t [] (s ∷ [])) ≤ 1
at_most_one true s = omega arith
at_most_one false s = omega arith

module _ {h : Header} {a : List ℕ} (d : Describes h a) (count : ℕ) (m : Budget) (counted : count ≡ 2 ^ h.depth) where
  -- The entry that a turn reads is as it was at the start.
  pub mend_read : (i : ℕ) (m' : Budget) (b : List ℕ) → Executed (each (mend_entry a (depth a)) i) m a m' b
      → word b (count + i) ≡ entry_at a (depth a) i
  unfolding mend_entry
  mend_read i m' b p =
      let here : count + i ≡ entry_address (depth a) i = entry_address_holds count i d counted in
      let apart : Every (λ s. s.at ≡ count + i → ⊥) (each (mend_entry a (depth a)) i) =
      every_each (λ s. s.at ≡ count + i → ⊥) (mend_entry a (depth a)) i
      (λ j k.
      every_pick (λ s. s.at ≡ count + i → ⊥) (eqb (entry_at a (depth a) j) (leading_entry a (depth a) j)) []
      (store (entry_address (depth a) j) (leading_entry a (depth a) j) ∷ []) Prim.tt
      ((λ x. omega (arith, entry_inj (depth a) j i (x ∙ here))), Prim.tt)) in
      executed_elsewhere (count + i) p apart ∙ entry_word count i d counted

  module _ (v : leaders_valid a (depth a) (segments a) ≡ true) (i : ℕ) (k : i < count) (x : LedBlock)
      (w : Passing a (depth a) (segments a) i x) where
    below : i < 2 ^ depth a
    below = rw d.depth_read (omega arith)

    -- Where a block ends, the next entry's local depth is at most the depth.
    pub mend_depth : x.end ≤ i → local_depth (entry_at a (depth a) i) ≤ h.depth
    mend_depth e =
        let own = leads_itself a (depth a) (segments a) i x w e in
        let low = rw own at (valid_at_depth a (depth a) (segments a) i v below) in
        let g : depth a ≡ h.depth = d.depth_read in
        omega arith

    pub mend_block : Found a (depth a) (segments a) i (pick (ltb i x.end) x (block_led_by (depth a) i (entry_at a (depth a) i)))
    mend_block =
        block_found a (depth a) (segments a) i x w
        (λ e. let own = leads_itself a (depth a) (segments a) i x w e in rw own at (valid_at a (depth a) (segments a) i v below))

  -- The block that a turn goes on with is that of its index.
  pub mend_found : leaders_valid a (depth a) (segments a) ≡ true → (i : ℕ) (m' : Budget) (b : List ℕ) (x n : LedBlock) → i < count
      → Passing a (depth a) (segments a) i x → Executed (each (mend_entry a (depth a)) i) m a m' b
      → n ≡ pick (ltb i x.end) x (block_led_by h.depth i (word b (count + i))) → Found a (depth a) (segments a) i n
  mend_found v i m' b x n k w p e = rw (e, mend_read i m' b p, ← d.depth_read) (mend_block v i k x w)

  pub mend_count : (i : ℕ) (m' : Budget) (b : List ℕ) (m'' : Budget) (b' : List ℕ) (x : LedBlock)
      → Executed (correction b (count + i) x.leading) m' b m'' b'
      → m''.due ≤ m'.due + 1
  mend_count i m' b m'' b' x q =
      omega (arith, q.count, at_most_one (eqb (word b (count + i)) x.leading) (store (count + i) x.leading))

  pub mend_turn : (i : ℕ) (m' : Budget) (b : List ℕ) (m'' : Budget) (b' : List ℕ) (x : LedBlock) → Found a (depth a) (segments a) i x
      → Executed (each (mend_entry a (depth a)) i) m a m' b
      → Executed (correction b (count + i) x.leading) m' b m'' b'
      → Executed (each (mend_entry a (depth a)) (i + 1)) m a m'' b'
  unfolding mend_entry
  mend_turn i m' b m'' b' x f p q =
      let here : count + i ≡ entry_address (depth a) i = entry_address_holds count i d counted in
      let read : word b (count + i) ≡ entry_at a (depth a) i = mend_read i m' b p in
      let lead : x.leading ≡ leading_entry a (depth a) i = sym f.leading_is in
      after_turn (mend_entry a (depth a)) i m a m' b m'' b' p (rw (read, lead, here) at q)

  pub mend_end : (i : ℕ) (m' : Budget) (b : List ℕ) → i ≡ count → Executed (each (mend_entry a (depth a)) i) m a m' b
      → Executed (mending a) m a m' b
  unfolding mending
  mend_end i m' b e p =
      let all : i ≡ 2 ^ depth a = rw d.depth_read (omega arith) in
      rw all at p
