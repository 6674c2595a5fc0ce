-- The entry update of a split as its two halves.
use mathlib.Core.Path.{◌≡◌, sym, ap, ap₂, ◌∙◌}
use mathlib.Core.List.{List, [], ◌∷◌, ◌++◌, append_assoc, append-nil}
use Prim.Native.Nat.{ℕ, zero, suc, ◌+◌, ◌-◌, ◌*◌, ◌^◌, ◌≤◌, ◌<◌}
use native.Mathlib.Nat.{add-zero, add-suc}
use native.Mathlib.Numerals.{add-one}
use native.Mathlib.Omega.{arith}
use borrow.Author.Tests.{lt-ltb, le-ltb}
use lib.ListN.{length}
use lib.Pow.{pow_mono}
use Rattle.stores.specs.Lists.{each}
use Rattle.stores.specs.Store.{Store, store}
use Rattle.stores.specs.declared.Budget.{Budget}
use Rattle.stores.specs.Executed.{Executed}
use Rattle.stores.proofs.Lists.{each_zero, each_suc, each_same, length_each_ones}
use Rattle.stores.proofs.Stores.{executed_append}
use Rattle.index_rules.specs.Layout.{entry_address, entry}
use Rattle.index_rules.specs.Keys.{width}
use Rattle.index_rules.specs.Split.{half_entry, updating}
use Rattle.index_laws.proofs.Keys.{width_half}
use Rattle.index_directory.specs.Updates.{filling, updating_of, Updatable}
use Rattle.index_directory.specs.declared.update.Halves.{Halves}

-- The first m turns of a loop, and then the others.
each_join : (f : ℕ → List Store) (m n : ℕ) → each f (m + n) ≡ each f m ++ each (λ t. f (m + t)) n
each_join f m zero = rw (add-zero, each_zero (λ t. f (m + t))) (sym (append-nil (each f m)))
each_join f m (suc n) =
    rw (add-suc, each_suc f (m + n), each_suc (λ t. f (m + t)) n, each_join f m n) (append_assoc (each f m) (each (λ t. f (m + t)) n) (f (m + n)))

module _ (g L start s n : ℕ) (h : L < g) where
  -- Store number t of the update.
  abbrev turn : ℕ → List Store
  turn t = store (entry_address g (start + (width g L - suc t))) (half_entry g L s n t) ∷ []

  same_store : (i j v w : ℕ) → i ≡ j → v ≡ w → store i v ∷ [] ≡ store j w ∷ []
  same_store i j v w p q = rw (p, q)

  right_half : each turn (width g (suc L)) ≡ filling (2 ^ g + start + width g (suc L)) (width g (suc L)) (entry n (suc L))
  unfolding filling entry_address half_entry
  right_half =
      let w : ℕ = width g (suc L) in
      let twice : width g L ≡ 2 * w = width_half g L h in
      each_same turn (λ t. store (2 ^ g + start + w + (w - suc t)) (entry n (suc L)) ∷ []) w
      (λ t k. same_store _ _ _ _ (omega arith) (rw (lt-ltb t w k)))

  left_half : each (λ t. turn (width g (suc L) + t)) (width g (suc L)) ≡ filling (2 ^ g + start) (width g (suc L)) (entry s (suc L))
  unfolding filling entry_address half_entry
  left_half =
      let w : ℕ = width g (suc L) in
      let twice : width g L ≡ 2 * w = width_half g L h in
      each_same (λ t. turn (w + t)) (λ t. store (2 ^ g + start + (w - suc t)) (entry s (suc L)) ∷ []) w
      (λ t k. same_store _ _ _ _ (omega arith) (rw (le-ltb (w + t) w (omega arith))))

  -- The right half first, then the left.
  pub updating_halves : updating g L start s n
      ≡ filling (2 ^ g + start + width g (suc L)) (width g (suc L)) (entry n (suc L))
      ++ filling (2 ^ g + start) (width g (suc L)) (entry s (suc L))
  unfolding updating
  updating_halves =
      let both : width g L ≡ width g (suc L) + width g (suc L) = omega (arith, width_half g L h) in
      ap (each turn) both ∙ each_join turn (width g (suc L)) (width g (suc L)) ∙ ap₂ (λ (x y : List Store). x ++ y) right_half left_half

-- ---- For the code

pub length_filling : (first count e : ℕ) → length (filling first count e) ≡ count
unfolding filling
length_filling first count e = length_each_ones (λ t. store (first + (count - suc t)) e) count

-- What a block whose entries can be updated says of its halves.
pub record HalvesFit (h : Halves) (a : List ℕ) : Type 0 where
  pub both : h.start + width h.depth (h.local_depth + 1) + width h.depth (h.local_depth + 1) ≤ 2 ^ h.depth
  pub entries : 2 ^ h.depth ≤ 4096
  pub room : 2 ^ h.depth + 2 ^ h.depth ≤ length a

pub halves_fit : {h : Halves} {a : List ℕ} → Updatable h a → HalvesFit h a
halves_fit {h} p =
    let i : h.start + width h.depth h.local_depth ≤ 2 ^ h.depth = p.inside in
    let r = p.room in
    record {
      both = rw (add-one h.local_depth) (omega (arith, width_half h.depth h.local_depth p.not_full));
      entries = pow_mono {j = 12} p.depth_high;
      room = omega arith;
    }

-- Both halves stored: `left` is the address of the block's first entry, `half` the width of a half.
pub update_done : {h : Halves} {a : List ℕ} → Updatable h a
    → (power half x y : ℕ) (m m' : Budget) (b : List ℕ) (m'' : Budget) (b' : List ℕ)
    → power ≡ 2 ^ h.depth → half ≡ width h.depth (h.local_depth + 1)
    → x ≡ entry h.segment (h.local_depth + 1) → y ≡ entry h.new_segment (h.local_depth + 1)
    → Executed (filling (power + h.start + half) half y) m a m' b
    → Executed (filling (power + h.start) half x) m' b m'' b'
    → Executed (updating_of h) m a m'' b'
update_done {h} {a} u power half x y m m' b m'' b' e w p q r l =
    let one : h.local_depth + 1 ≡ suc h.local_depth = add-one h.local_depth in
    rw (updating_halves h.depth h.local_depth h.start h.segment h.new_segment u.not_full, ← one, ← e, ← w, ← p, ← q)
    (executed_append (filling (power + h.start + half) half y) (filling (power + h.start) half x) m a m' b m'' b' r l)
