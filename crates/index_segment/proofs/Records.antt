-- Live records slot by slot, and their words.
use Prim.Native.Nat.{ℕ, zero, suc, ◌+◌, ◌≤◌, ◌<◌}
use native.Mathlib.Nat.{add-zero, eq-or-lt_of_le, le_of_suc-le-suc, not-suc-le-zero}
use native.Mathlib.Numerals.{add-one}
use native.Mathlib.Omega.{arith}
use mathlib.Core.Path.{◌≡◌, ◌∙◌}
use mathlib.Core.Bool.{true, false}
use mathlib.Core.List.{List, [], ◌∷◌, ◌++◌}
use mathlib.Core.Logic.{⊎_elim}
use lib.ListN.{length, set, length-append}
use Rattle.stores.specs.Lists.{each}
use Rattle.stores.proofs.Lists.{each_zero, each_suc}
use Rattle.stores.proofs.Tests.{by_test}
use Rattle.index_rules.specs.Layout.{key_at, value_at}
use Rattle.index_rules.specs.Keys.{live}
use Rattle.index_rules.specs.Listing.{Record, live_record, words_of}
use Rattle.index_laws.proofs.Listing.{words_none, words_one}
use Rattle.index_segment.specs.Slot.{SlotHolds}
use Rattle.cells.specs.declared.Record.{Record as CellRecord}
use Rattle.stores.specs.Written.{Written}
use Rattle.stores.proofs.Written.{written_none, written_pair}

-- ---- The live records of the first slots

-- The live records of the slots below n.
abbrev pub records_below : List ℕ → (L bits n : ℕ) → List Record
records_below a L bits n = each (live_record a 0 L bits) n

module _ (a : List ℕ) (L bits : ℕ) where
  record_live : (j : ℕ) → live L bits (key_at a 0 j) ≡ true
      → live_record a 0 L bits j ≡ record { key = key_at a 0 j; value = value_at a 0 j } ∷ []
  unfolding live_record
  record_live j t = rw t

  record_stale : (j : ℕ) → live L bits (key_at a 0 j) ≡ false → live_record a 0 L bits j ≡ []
  unfolding live_record
  record_stale j t = rw t

  pub records_none : records_below a L bits 0 ≡ []
  records_none = each_zero (live_record a 0 L bits)

  pub records_more : (n : ℕ) → records_below a L bits (n + 1) ≡ records_below a L bits n ++ live_record a 0 L bits n
  records_more n = rw (add-one n) (each_suc (live_record a 0 L bits) n)

  count_more : (n : ℕ) → length (records_below a L bits (n + 1)) ≡ length (records_below a L bits n) + length (live_record a 0 L bits n)
  count_more n = rw (records_more n) (length-append (records_below a L bits n) (live_record a 0 L bits n))

  pub count_live : (n : ℕ) → live L bits (key_at a 0 n) ≡ true → length (records_below a L bits (n + 1)) ≡ length (records_below a L bits n) + 1
  count_live n t = count_more n ∙ rw (record_live n t)

  pub count_stale : (n : ℕ) → live L bits (key_at a 0 n) ≡ false → length (records_below a L bits (n + 1)) ≡ length (records_below a L bits n)
  count_stale n t = count_more n ∙ rw (record_stale n t) (add-zero (length (records_below a L bits n)))

  -- At most one record for each slot.
  pub count_small : (n : ℕ) → length (records_below a L bits n) ≤ n
  count_small zero = rw records_none (omega arith)
  count_small (suc n) =
      by_test (live L bits (key_at a 0 n))
      (λ t. rw (← add-one n) (omega (arith, count_small n, count_live n t)))
      (λ t. rw (← add-one n) (omega (arith, count_small n, count_stale n t)))

  -- A live slot below n counts among the records below n.
  pub count_room : (j n : ℕ) → j < n → live L bits (key_at a 0 j) ≡ true
      → length (records_below a L bits j) + 1 ≤ length (records_below a L bits n)
  count_room j zero k t = absurd (not-suc-le-zero k)
  count_room j (suc n) k t =
      ⊎_elim
      (λ (q : j ≡ n). rw (← q, ← add-one j) (omega (arith, count_live j t)))
      (λ (q : j < n). rw (← add-one n) (omega (arith, count_room j n q t, count_more n)))
      (eq-or-lt_of_le (le_of_suc-le-suc k))

-- ---- Records as words

-- A slot's record written, or not, by its key.
module _ (a : List ℕ) (L bits j : ℕ) (h : CellRecord) (k : SlotHolds a j h) (at : ℕ) (l : List ℕ) where
  pub written_live : live L bits h.key ≡ true → at + 2 ≤ length l
      → Written (words_of (live_record a 0 L bits j)) at l (at + 2) (set (set l at h.key) (at + 1) h.value)
  written_live t room =
      rw (record_live a L bits j (rw k.key_there t), words_one (record { key = key_at a 0 j; value = value_at a 0 j }), k.key_there, k.value_there)
      (written_pair h.key h.value at l room)

  pub written_stale : live L bits h.key ≡ false → Written (words_of (live_record a 0 L bits j)) at l at l
  written_stale t = rw (record_stale a L bits j (rw k.key_there t), words_none) (written_none at l)
