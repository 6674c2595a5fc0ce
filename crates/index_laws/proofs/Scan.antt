-- The scan of the directory: as document 01 says it, and by recursion on the index, are the same on every array; and what
-- holds at each index where the scan finds every leader valid.
use mathlib.Core.Path.{◌≡◌, refl, sym, ap, ◌∙◌}
use mathlib.Core.Bool.{Bool, true, false, true≢false}
use mathlib.Core.List.{List, [], ◌∷◌, ◌++◌, append_assoc, append-nil}
use mathlib.Core.Option.{Option, none, some}
use mathlib.Core.Logic.{◌⊎◌, inl, inr, ⊎_elim}
use Prim.Native.Nat.{ℕ, zero, suc, ◌+◌, ◌-◌, ◌%◌, ◌^◌, ◌≤◌, ◌<◌}
use native.Mathlib.Nat.{le_refl, zero-add, add-zero, add-suc, add-mod, add-mod_right, mod-eq_of_lt, eq-or-lt_of_le, le_antisymm, not-suc-le-zero}
use native.Mathlib.Omega.{arith}
use borrow.Author.Tests.{eqb-true, leb-true, le-leb, ltb-true, ltb-false, lt-ltb, eq-eqb, ne_eqb}
use lib.Dec.{leb, ltb, eqb}
use Rattle.stores.specs.Lists.{pick, each, all_below}
use Rattle.stores.proofs.Lists.{each_zero, each_suc, all_at, all_true, ahead, ahead_nil}
use Rattle.stores.proofs.Tests.{by_test, by_equal, by_less, and_left, and_right, and_true}
use Rattle.index_rules.specs.Layout.{entry_at, segment_of, local_depth}
use Rattle.index_rules.specs.Keys.{width, block_start}
use Rattle.index_rules.specs.Scan.{in_range, valid_leader, led_by, leaders_from, next_leader, leader, leading_entry, leaders, leaders_valid, entries_agree, consistent}
use Rattle.index_laws.proofs.Keys.{width_pos, block_end, block_start_self, block_same_start}

-- ---- The tests of an entry

pub range_depth : (g S e : ℕ) → in_range g S e ≡ true → local_depth e ≤ g
unfolding in_range
range_depth g S e h = leb-true (local_depth e) g (and_left (leb (local_depth e) g) (ltb (segment_of e) S) h)

pub range_segment : (g S e : ℕ) → in_range g S e ≡ true → segment_of e < S
unfolding in_range
range_segment g S e h = ltb-true (segment_of e) S (and_right (leb (local_depth e) g) (ltb (segment_of e) S) h)

pub in_range_holds : (g S e : ℕ) → local_depth e ≤ g → segment_of e < S → in_range g S e ≡ true
unfolding in_range
in_range_holds g S e h k = and_true (le-leb (local_depth e) g h) (lt-ltb (segment_of e) S k)

-- The parts of a valid leader, and a valid leader from its parts.
pub valid_range : (g S i e : ℕ) → valid_leader g S i e ≡ true → in_range g S e ≡ true
unfolding valid_leader
valid_range g S i e h = and_left (in_range g S e) (eqb (i % width g (local_depth e)) 0) h

pub valid_aligned : (g S i e : ℕ) → valid_leader g S i e ≡ true → i % width g (local_depth e) ≡ 0
unfolding valid_leader
valid_aligned g S i e h = eqb-true (i % width g (local_depth e)) 0 (and_right (in_range g S e) (eqb (i % width g (local_depth e)) 0) h)

pub valid_leader_holds : (g S i e : ℕ) → in_range g S e ≡ true → i % width g (local_depth e) ≡ 0 → valid_leader g S i e ≡ true
unfolding valid_leader
valid_leader_holds g S i e h k = and_true h (eq-eqb (i % width g (local_depth e)) 0 k)

-- ---- The leader of an index

-- The width of the block that the entry at index l leads.
abbrev pub led_width : List ℕ → (g l : ℕ) → ℕ
led_width a g l = width g (local_depth (entry_at a g l))

pub leader_zero : (a : List ℕ) (g : ℕ) → leader a g 0 ≡ 0
unfolding leader
leader_zero a g = refl

-- Where the block before ends, the index leads; elsewhere it has the leader of the index before.
pub leader_new : (a : List ℕ) (g i : ℕ) → suc i % width g (local_depth (leading_entry a g i)) ≡ 0 → leader a g (suc i) ≡ suc i
unfolding leader next_leader
leader_new a g i e = rw (eq-eqb (suc i % width g (local_depth (leading_entry a g i))) 0 e)

pub leader_kept : (a : List ℕ) (g i : ℕ)
    → (suc i % width g (local_depth (leading_entry a g i)) ≡ 0 → ⊥) → leader a g (suc i) ≡ leader a g i
unfolding leader next_leader
leader_kept a g i h = rw (ne_eqb (suc i % width g (local_depth (leading_entry a g i))) 0 h)

leader_cases : (a : List ℕ) (g i : ℕ)
    → (leader a g (suc i) ≡ suc i) ⊎ ((leader a g (suc i) ≡ leader a g i) × (suc i % led_width a g (leader a g i) ≡ 0 → ⊥))
leader_cases a g i =
    let rest : ℕ = suc i % led_width a g (leader a g i) in
    by_equal rest 0 (λ t. inl (leader_new a g i t)) (λ t. inr (leader_kept a g i t, t))

pub leader_le : (a : List ℕ) (g i : ℕ) → leader a g i ≤ i
leader_le a g zero = rw leader_zero (le_refl 0)
leader_le a g (suc i) =
    let before : leader a g i ≤ i = leader_le a g i in
    ⊎_elim (λ e. omega arith) (λ k. omega arith) (leader_cases a g i)

-- A leader leads itself.
pub leader_leads : (a : List ℕ) (g i : ℕ) → leader a g (leader a g i) ≡ leader a g i
leader_leads a g zero = rw leader_zero (leader_zero a g)
leader_leads a g (suc i) =
    let before : leader a g (leader a g i) ≡ leader a g i = leader_leads a g i in
    ⊎_elim (λ e. cc) (λ k. cc) (leader_cases a g i)

-- ---- From an aligned leader to the next

rest_of : (l w k : ℕ) → l % w ≡ 0 → k < w → (l + k) % w ≡ k
rest_of l w k e h = add-mod l k w ∙ rw (e, mod-eq_of_lt h, zero-add) (mod-eq_of_lt h)

-- An aligned leader leads all of its block.
pub led : (a : List ℕ) (g l k : ℕ) → leader a g l ≡ l → l % led_width a g l ≡ 0 → k < led_width a g l → leader a g (l + k) ≡ l
led a g l zero own e h = rw add-zero own
led a g l (suc k) own e h =
    let before : leader a g (l + k) ≡ l = led a g l k own e (omega arith) in
    let rest : (l + suc k) % led_width a g l ≡ suc k = rest_of l (led_width a g l) (suc k) e h in
    rw add-suc (leader_kept a g (l + k) (rw before (λ z. omega (arith, rw add-suc at rest))) ∙ before)

-- Behind its block stands a leader.
pub next_leads : (a : List ℕ) (g l : ℕ)
    → leader a g l ≡ l → l % led_width a g l ≡ 0 → leader a g (l + led_width a g l) ≡ l + led_width a g l
next_leads a g l own e = go (led_width a g l - 1) (omega (arith, width_pos g (local_depth (entry_at a g l))))
  where
    go : (k : ℕ) → led_width a g l ≡ suc k → leader a g (l + led_width a g l) ≡ l + led_width a g l
    go k q =
        let last : leader a g (l + k) ≡ l = led a g l k own e (omega arith) in
        let aligned : (l + led_width a g l) % led_width a g l ≡ 0 = add-mod_right l (led_width a g l) ∙ e in
        let behind : l + led_width a g l ≡ suc (l + k) = omega arith in
        rw behind (leader_new a g (l + k) (rw last (rw behind at aligned)))

-- ---- Where every leader is valid

pub valid_at : (a : List ℕ) (g S i : ℕ)
    → leaders_valid a g S ≡ true → i < 2 ^ g → valid_leader g S (leader a g i) (leading_entry a g i) ≡ true
unfolding leaders_valid
valid_at a g S i v h = all_at (λ j. valid_leader g S (leader a g j) (leading_entry a g j)) (2 ^ g) v i h

pub valid_at_range : (a : List ℕ) (g S i : ℕ) → leaders_valid a g S ≡ true → i < 2 ^ g → in_range g S (leading_entry a g i) ≡ true
valid_at_range a g S i v h = valid_range g S (leader a g i) (leading_entry a g i) (valid_at a g S i v h)

pub valid_at_depth : (a : List ℕ) (g S i : ℕ) → leaders_valid a g S ≡ true → i < 2 ^ g → local_depth (leading_entry a g i) ≤ g
valid_at_depth a g S i v h = range_depth g S (leading_entry a g i) (valid_at_range a g S i v h)

pub valid_at_segment : (a : List ℕ) (g S i : ℕ) → leaders_valid a g S ≡ true → i < 2 ^ g → segment_of (leading_entry a g i) < S
valid_at_segment a g S i v h = range_segment g S (leading_entry a g i) (valid_at_range a g S i v h)

pub valid_at_aligned : (a : List ℕ) (g S i : ℕ)
    → leaders_valid a g S ≡ true → i < 2 ^ g → leader a g i % width g (local_depth (leading_entry a g i)) ≡ 0
valid_at_aligned a g S i v h = valid_aligned g S (leader a g i) (leading_entry a g i) (valid_at a g S i v h)

-- Every index is within the width of its block, counted from the leader.
pub leader_within : (a : List ℕ) (g S i : ℕ)
    → leaders_valid a g S ≡ true → i < 2 ^ g → i < leader a g i + width g (local_depth (leading_entry a g i))
leader_within a g S zero v h = rw leader_zero (omega (arith, width_pos g (local_depth (entry_at a g 0))))
leader_within a g S (suc i) v h =
    let before : i < leader a g i + led_width a g (leader a g i) = leader_within a g S i v (omega arith) in
    let aligned : leader a g i % led_width a g (leader a g i) ≡ 0 = valid_at_aligned a g S i v (omega arith) in
    ⊎_elim
    (λ (e : leader a g (suc i) ≡ suc i). rw e (omega (arith, width_pos g (local_depth (entry_at a g (suc i))))))
    (λ (k : (leader a g (suc i) ≡ leader a g i) × (suc i % led_width a g (leader a g i) ≡ 0 → ⊥)).
    rw k.0
    (⊎_elim
    (λ (e : suc i ≡ leader a g i + led_width a g (leader a g i)).
    absurd (k.1 (rw e (add-mod_right (leader a g i) (led_width a g (leader a g i)) ∙ aligned))))
    (λ (f : suc i < leader a g i + led_width a g (leader a g i)). f)
    (eq-or-lt_of_le before)))
    (leader_cases a g i)

-- A block is the aligned block of its leader.
pub leader_start : (a : List ℕ) (g S i : ℕ)
    → leaders_valid a g S ≡ true → i < 2 ^ g → leader a g i ≡ block_start g (local_depth (leading_entry a g i)) i
leader_start a g S i v h =
    let L : ℕ = local_depth (leading_entry a g i) in
    let own : block_start g L (leader a g i) ≡ leader a g i = block_start_self g L (leader a g i) (valid_at_aligned a g S i v h) in
    let low : leader a g i ≤ i = leader_le a g i in
    let high : i < leader a g i + width g L = leader_within a g S i v h in
    sym (block_same_start g L (leader a g i) i (rw own low) (rw own high) ∙ own)

-- All indices of a block have its leader.
pub leader_same : (a : List ℕ) (g S i l j : ℕ)
    → leaders_valid a g S ≡ true → l ≡ leader a g i → i < 2 ^ g → l ≤ j → j < l + width g (local_depth (entry_at a g l)) → leader a g j ≡ l
leader_same a g S i l j v e h low high =
    let own : leader a g l ≡ l = rw e (leader_leads a g i) in
    let aligned : l % led_width a g l ≡ 0 = rw e (valid_at_aligned a g S i v h) in
    let here : l + (j - l) ≡ j = omega arith in
    rw here at (led a g l (j - l) own aligned (omega arith))

-- A block ends inside the directory.
pub leader_fits : (a : List ℕ) (g S i : ℕ)
    → leaders_valid a g S ≡ true → i < 2 ^ g → leader a g i + width g (local_depth (leading_entry a g i)) ≤ 2 ^ g
leader_fits a g S i v h =
    let L : ℕ = local_depth (leading_entry a g i) in
    omega (arith, leader_start a g S i v h, block_end g L i (valid_at_depth a g S i v h) h)

-- ---- Where the entries agree too

pub agree_at : (a : List ℕ) (g i : ℕ) → entries_agree a g ≡ true → i < 2 ^ g → entry_at a g i ≡ leading_entry a g i
unfolding entries_agree
agree_at a g i v h =
    eqb-true (entry_at a g i) (leading_entry a g i) (all_at (λ j. eqb (entry_at a g j) (leading_entry a g j)) (2 ^ g) v i h)

pub consistent_in_range : (a : List ℕ) (g S i : ℕ)
    → leaders_valid a g S ≡ true → entries_agree a g ≡ true → i < 2 ^ g → in_range g S (entry_at a g i) ≡ true
consistent_in_range a g S i v w h = rw (agree_at a g i w h) (valid_at_range a g S i v h)

pub consistent_valid : (a : List ℕ) (g S : ℕ) → consistent a g S ≡ true → leaders_valid a g S ≡ true
unfolding consistent
consistent_valid a g S e = and_left (leaders_valid a g S) (entries_agree a g) e

pub consistent_agree : (a : List ℕ) (g S : ℕ) → consistent a g S ≡ true → entries_agree a g ≡ true
unfolding consistent
consistent_agree a g S e = and_right (leaders_valid a g S) (entries_agree a g) e

-- ---- The two scans agree

-- A leader found, behind the leaders before it.
ahead_led : (before : List ℕ) (i : ℕ) (r : Option (List ℕ)) → ahead before (led_by i r) ≡ ahead (before ++ (i ∷ [])) r
unfolding ahead led_by
ahead_led before i none = refl
ahead_led before i (some found) = ap (λ (l : List ℕ). some l) (sym (append_assoc before (i ∷ []) found))

-- Of i and the k indices behind it, only i adds to the joined list.
pub each_one : {A : Type 0} (f : ℕ → List A) (i k : ℕ) → ((j : ℕ) → i < j → j < i + suc k → f j ≡ []) → each f (i + suc k) ≡ each f i ++ f i
each_one f i zero h = rw (add-suc, add-zero) (each_suc f i)
each_one f i (suc k) h =
    let front : each f (i + suc k) ≡ each f i ++ f i = each_one f i k (λ j p q. h j p (omega arith)) in
    let last : f (i + suc k) ≡ [] = h (i + suc k) (omega arith) (omega arith) in
    ap (λ (n : ℕ). each f n) (add-suc i (suc k)) ∙ each_suc f (i + suc k) ∙ rw (last, front) (append-nil (each f i ++ f i))

module _ (a : List ℕ) (g S : ℕ) where
  -- What index i adds to the leaders, and whether its leader is valid.
  abbrev adds : ℕ → List ℕ
  adds i = pick (eqb (leader a g i) i) (i ∷ []) []

  abbrev passes : ℕ → Bool
  passes i = valid_leader g S (leader a g i) (leading_entry a g i)

  adds_leader : (i : ℕ) → leader a g i ≡ i → adds i ≡ i ∷ []
  adds_leader i e = rw (eq-eqb (leader a g i) i e)

  adds_none : (l i : ℕ) → leader a g i ≡ l → l < i → adds i ≡ []
  adds_none l i e h = rw (ne_eqb (leader a g i) i (λ q. omega arith))

  -- The whole scan's verdict.
  abbrev scanned : Option (List ℕ)
  scanned = pick (all_below passes (2 ^ g)) (some (each adds (2 ^ g))) none

  -- At the end of the directory.
  at_end : (i : ℕ) → i ≡ 2 ^ g → ((j : ℕ) → j < i → passes j ≡ true) → ahead (each adds i) (some []) ≡ scanned
  unfolding ahead
  at_end i e before = rw (e, append-nil, all_true passes (2 ^ g) (rw e at before))

  -- At a leader that is not valid.
  at_invalid : (i : ℕ) → i < 2 ^ g → leader a g i ≡ i → valid_leader g S i (entry_at a g i) ≡ false → none ≡ scanned
  at_invalid i h own e =
      by_test (all_below passes (2 ^ g)) (λ t. absurd (true≢false (sym (all_at passes (2 ^ g) t i h) ∙ rw own e))) (λ t. rw t)

  -- At a valid leader: its block adds it alone, all in the block pass, and the block ends in the directory.
  module _ (i : ℕ) (h : i < 2 ^ g) (own : leader a g i ≡ i) (v : valid_leader g S i (entry_at a g i) ≡ true) where
    led_here : (j : ℕ) → i ≤ j → j < i + led_width a g i → leader a g j ≡ i
    led_here j low high =
        let here : i + (j - i) ≡ j = omega arith in
        rw here at (led a g i (j - i) own (valid_aligned g S i (entry_at a g i) v) (omega arith))

    block_adds : each adds (i + led_width a g i) ≡ each adds i ++ (i ∷ [])
    block_adds =
        let w : led_width a g i ≡ suc (led_width a g i - 1) = omega (arith, width_pos g (local_depth (entry_at a g i))) in
        ap (λ (n : ℕ). each adds (i + n)) w
        ∙ each_one adds i (led_width a g i - 1) (λ j p q. adds_none i j (led_here j (omega arith) (omega arith)) p)
        ∙ ap (λ (l : List ℕ). each adds i ++ l) (adds_leader i own)

    block_passes : ((j : ℕ) → j < i → passes j ≡ true) → (j : ℕ) → j < i + led_width a g i → passes j ≡ true
    block_passes before j k = by_less j i (λ t. before j t) (λ t. rw (led_here j t k) v)

    block_fits : i + led_width a g i ≤ 2 ^ g
    block_fits =
        let L : ℕ = local_depth (entry_at a g i) in
        omega (arith, block_start_self g L i (valid_aligned g S i (entry_at a g i) v), block_end g L i (range_depth g S (entry_at a g i) (valid_range g S i (entry_at a g i) v)) h)

  -- From an index that leads, or 2^g, all leaders before it being valid, in enough steps.
  scan_from : (n i : ℕ) → i ≤ 2 ^ g → leader a g i ≡ i → ((j : ℕ) → j < i → passes j ≡ true) → 2 ^ g ≤ i + n
      → ahead (each adds i) (leaders_from a g S n i) ≡ scanned
  unfolding leaders_from ahead
  scan_from zero i h own before enough = at_end i (omega arith) before
  scan_from (suc n) i h own before enough =
      by_test (ltb i (2 ^ g))
      (λ t.
      let k : i < 2 ^ g = ltb-true i (2 ^ g) t in
      by_test (valid_leader g S i (entry_at a g i))
      (λ v.
      rw (t, v)
      (ahead_led (each adds i) i (leaders_from a g S n (i + led_width a g i))
      ∙ rw (← block_adds i k own v)
      (scan_from n (i + led_width a g i) (block_fits i k own v) (next_leads a g i own (valid_aligned g S i (entry_at a g i) v)) (block_passes i k own v before)
      (omega (arith, width_pos g (local_depth (entry_at a g i)))))))
      (λ v. rw (t, v) (at_invalid i k own v)))
      (λ t. rw t (at_end i (le_antisymm h (ltb-false i (2 ^ g) t)) before))

-- On every array, the scan as document 01 says it and the scan by recursion on the index give the same verdict, and the same
-- leaders where all are valid.
pub scan_agrees : (a : List ℕ) (g S : ℕ) → leaders_from a g S (2 ^ g) 0 ≡ pick (leaders_valid a g S) (some (leaders a g)) none
unfolding leaders_valid leaders
scan_agrees a g S =
    sym (ahead_nil (leaders_from a g S (2 ^ g) 0))
    ∙ ap (λ (l : List ℕ). ahead l (leaders_from a g S (2 ^ g) 0)) (sym (each_zero (adds a g S)))
    ∙ scan_from a g S (2 ^ g) 0 (omega arith) (leader_zero a g) (λ j k. absurd (not-suc-le-zero k)) (omega arith)
