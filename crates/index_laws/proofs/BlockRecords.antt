-- The records of an index block by block, and its leaders. The indices behind a leader, inside its block, add none.
use mathlib.Core.Path.{◌≡◌, sym, ap, ◌∙◌}
use mathlib.Core.Bool.{true, false}
use mathlib.Core.List.{List, [], ◌∷◌, ◌++◌}
use mathlib.Core.Logic.{⊎_elim}
use Prim.Native.Nat.{ℕ, zero, suc, ◌+◌, ◌-◌, ◌%◌, ◌^◌, ◌≤◌, ◌<◌}
use native.Mathlib.Nat.{le_of_suc-le-suc, eq-or-lt_of_le}
use native.Mathlib.Omega.{arith}
use borrow.Author.Tests.{eq-eqb, ne_eqb, eqb-true, ltb-true, lt-ltb}
use lib.Dec.{ltb, eqb}
use lib.ListN.{length, length-append}
use Rattle.stores.specs.Lists.{pick, each}
use Rattle.stores.proofs.Lists.{each_suc, each_zero, length_each_le}
use Rattle.stores.proofs.Tests.{by_test, and_left, and_right, and_true}
use Rattle.index_rules.specs.Layout.{depth, max_depth, segments, entry_at, segment_of, local_depth, segment_address, key_at}
use Rattle.index_rules.specs.Keys.{width, block_bits, block_start, live}
use Rattle.index_rules.specs.Scan.{leader, leaders, leaders_valid, entries_agree}
use Rattle.index_rules.specs.Listing.{Record, live_record, block_records, records}
use Rattle.index_rules.specs.ListBlock.{leads, records_led, behind_led}
use Rattle.index_laws.proofs.Keys.{width_pos, block_start_self, block_start_aligned}
use Rattle.index_laws.proofs.Scan.{led, next_leads, leader_fits, leader_start, valid_at_depth, valid_at_segment, valid_at_aligned, agree_at, each_one}

-- ---- What each index adds

-- The records that index i adds: those of its block, where it leads one.
abbrev pub records_at : List ℕ → (i : ℕ) → List Record
records_at a i = pick (eqb (leader a (depth a) i) i) (records_led a i) []

-- The records of the indices below i.
abbrev pub records_to : List ℕ → (i : ℕ) → List Record
records_to a i = each (records_at a) i

-- The leaders of the indices below i.
abbrev pub leaders_to : List ℕ → (i : ℕ) → List ℕ
leaders_to a i = each (λ j. pick (eqb (leader a (depth a) j) j) (j ∷ []) []) i

pub records_start : (a : List ℕ) → records_to a 0 ≡ []
records_start a = each_zero (records_at a)

pub records_end : (a : List ℕ) (i : ℕ) → i ≡ 2 ^ depth a → records_to a i ≡ records a
unfolding records
records_end a i e = rw e

pub leaders_start : (a : List ℕ) → leaders_to a 0 ≡ []
leaders_start a = each_zero (λ j. pick (eqb (leader a (depth a) j) j) (j ∷ []) [])

pub leaders_end : (a : List ℕ) (i : ℕ) → i ≡ 2 ^ depth a → leaders_to a i ≡ leaders a (depth a)
unfolding leaders
leaders_end a i e = rw e

pub records_grow : (a : List ℕ) (i n : ℕ) → i ≤ n → length (records_to a i) ≤ length (records_to a n)
records_grow a i zero h = let e : i ≡ 0 = omega arith in rw e (omega arith)
records_grow a i (suc n) h =
    ⊎_elim
    (λ (e : i ≡ suc n). rw e (omega arith))
    (λ (k : i < suc n).
    let front : length (records_to a i) ≤ length (records_to a n) = records_grow a i n (le_of_suc-le-suc k) in
    rw (each_suc (records_at a) n, length-append (records_to a n) (records_at a n)) (omega arith))
    (eq-or-lt_of_le h)

-- A block has 64 records at most: one in each slot.
pub block_small : (a : List ℕ) (i e : ℕ) → length (block_records a i e) ≤ 64
unfolding block_records live_record
block_small a i e = length_each_le _ 1 64 (λ j h. one (live L bits (key_at a base j)) _)
  where
    base : ℕ
    base = segment_address (max_depth a) (segment_of e)

    L : ℕ
    L = local_depth e

    bits : ℕ
    bits = block_bits (depth a) (local_depth e) i

    one : (t : _) (r : Record) → length (pick t (r ∷ []) []) ≤ 1
    one true r = omega arith
    one false r = omega arith

-- ---- At a leader, where all leaders are valid

module _ (a : List ℕ) (v : leaders_valid a (depth a) (segments a) ≡ true) (i : ℕ) (k : i < 2 ^ depth a) (own : leader a (depth a) i ≡ i) where
  -- The entry's local depth and the width of its block.
  abbrev local : ℕ
  local = local_depth (entry_at a (depth a) i)

  abbrev wide : ℕ
  wide = width (depth a) local

  pub leader_depth : local ≤ depth a
  leader_depth = rw own at (valid_at_depth a (depth a) (segments a) i v k)

  pub leader_segment : segment_of (entry_at a (depth a) i) < segments a
  leader_segment = rw own at (valid_at_segment a (depth a) (segments a) i v k)

  aligned : i % wide ≡ 0
  aligned = rw own at (valid_at_aligned a (depth a) (segments a) i v k)

  pub next_inside : behind_led a i ≤ 2 ^ depth a
  next_inside = rw own at (leader_fits a (depth a) (segments a) i v k)

  pub next_behind : i < behind_led a i
  next_behind = omega (arith, width_pos (depth a) local)

  pub next_own : leader a (depth a) (behind_led a i) ≡ behind_led a i
  next_own = next_leads a (depth a) i own aligned

  -- The indices inside its block have it as their leader.
  inside_other : (j : ℕ) → i < j → j < i + suc (wide - 1) → eqb (leader a (depth a) j) j ≡ false
  inside_other j p q =
      let here : i + (j - i) ≡ j = omega arith in
      let first : leader a (depth a) j ≡ i = rw here at (led a (depth a) i (j - i) own aligned (omega (arith, width_pos (depth a) local))) in
      ne_eqb (leader a (depth a) j) j (λ e. omega arith)

  -- What its block adds to what each index adds: what the leader adds alone.
  block_adds_one : {A : Type 0} (f : ℕ → List A) (x : List A)
      → f i ≡ x → ((j : ℕ) → eqb (leader a (depth a) j) j ≡ false → f j ≡ []) → each f (behind_led a i) ≡ each f i ++ x
  block_adds_one f x here other =
      let w : wide ≡ suc (wide - 1) = omega (arith, width_pos (depth a) local) in
      ap (λ (n : ℕ). each f (i + n)) w
      ∙ each_one f i (wide - 1) (λ j p q. other j (inside_other j p q))
      ∙ ap (λ l. each f i ++ l) here

  -- Its block adds its live records, and nothing else.
  pub records_block : records_to a (behind_led a i) ≡ records_to a i ++ records_led a i
  records_block = block_adds_one (records_at a) (records_led a i) (rw (eq-eqb (leader a (depth a) i) i own)) (λ j t. rw t)

  -- It adds one leader.
  pub leaders_block : leaders_to a (behind_led a i) ≡ leaders_to a i ++ (i ∷ [])
  leaders_block = block_adds_one _ (i ∷ []) (rw (eq-eqb (leader a (depth a) i) i own)) (λ j t. rw t)

-- ---- Whether an index leads

pub record LeaderAt (a : List ℕ) (i : ℕ) : Type 0 where
  pub below : i < 2 ^ depth a
  pub own : leader a (depth a) i ≡ i

pub leads_at : (a : List ℕ) (i : ℕ) → leads a i ≡ true → LeaderAt a i
unfolding leads
leads_at a i e =
    record {
      below = ltb-true i (2 ^ depth a) (and_left (ltb i (2 ^ depth a)) (eqb (leader a (depth a) i) i) e);
      own = eqb-true (leader a (depth a) i) i (and_right (ltb i (2 ^ depth a)) (eqb (leader a (depth a) i) i) e);
    }

pub leader_at : (a : List ℕ) (i : ℕ) → i < 2 ^ depth a → leader a (depth a) i ≡ i → leads a i ≡ true
unfolding leads
leader_at a i h e = and_true (lt-ltb i (2 ^ depth a) h) (eq-eqb (leader a (depth a) i) i e)

pub not_leads : (a : List ℕ) (i : ℕ) → (LeaderAt a i → ⊥) → leads a i ≡ false
not_leads a i n = by_test (leads a i) (λ t. absurd (n (leads_at a i t))) (λ t. t)

-- In a consistent directory each entry is its block's leader's: an index leads where the width of its own entry's block divides it.
module _ (a : List ℕ) (v : leaders_valid a (depth a) (segments a) ≡ true) (agree : entries_agree a (depth a) ≡ true) (i : ℕ)
    (k : i < 2 ^ depth a) where
  start_own : leader a (depth a) i ≡ block_start (depth a) (local_depth (entry_at a (depth a) i)) i
  start_own = rw (agree_at a (depth a) i agree k) (leader_start a (depth a) (segments a) i v k)

  pub aligned_leads : i % width (depth a) (local_depth (entry_at a (depth a) i)) ≡ 0 → leader a (depth a) i ≡ i
  aligned_leads e = start_own ∙ block_start_self (depth a) (local_depth (entry_at a (depth a) i)) i e

  pub leads_aligned : leader a (depth a) i ≡ i → i % width (depth a) (local_depth (entry_at a (depth a) i)) ≡ 0
  leads_aligned own =
      rw (sym start_own ∙ own) at (block_start_aligned (depth a) (local_depth (entry_at a (depth a) i)) i)
