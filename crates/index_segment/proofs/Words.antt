-- The words of a slot, in a segment that is lent as a part; and words two by two.
use Prim.Native.Nat.{ℕ, zero, suc, ◌+◌, ◌*◌, ◌/◌, ◌<◌}
use native.Mathlib.Nat.{zero-add, mul-zero, mul-suc, not-suc-le-zero, le_of_suc-le-suc}
use native.Mathlib.Omega.{arith}
use lib.ListN.{length, get_or, take, drop}
use lib.Seq.{get_or-take, get_or-drop}
use mathlib.Core.Path.{◌≡◌, refl, sym, ap, ◌∙◌}
use mathlib.Core.List.{List, [], ◌∷◌, ◌++◌}
use Rattle.std.proofs.lemmas.List.{drop-drop}
use Rattle.std.specs.Simd.{first_chunks}
use Rattle.stores.specs.Store.{word}
use Rattle.index_rules.specs.Layout.{key_at, value_at}
use Rattle.index_segment.specs.Slot.{SlotHolds}

module _ (a : List ℕ) (j : ℕ) where
  pub key_word : key_at a 0 j ≡ word a (2 * j)
  key_word = ap (word a) (zero-add (2 * j))

-- ---- Words taken several at a time

-- Chunk j of a list taken w at a time; and a slot's pair of words.
abbrev pub chunk : (w : ℕ) → List ℕ → (j : ℕ) → List ℕ
chunk w xs j = take w (drop (w * j) xs)

abbrev pub pair : List ℕ → (j : ℕ) → List ℕ
pair xs j = chunk 2 xs j

-- Word i of a chunk.
pub chunk_word : (w : ℕ) (xs : List ℕ) (j i : ℕ) → i < w → word (chunk w xs j) i ≡ word xs (w * j + i)
chunk_word w xs j i h = get_or-take w (drop (w * j) xs) i 0 h ∙ get_or-drop (w * j) xs i 0

module _ (a : List ℕ) (j : ℕ) where
  pub pair_key : word (pair a j) 0 ≡ key_at a 0 j
  pair_key = chunk_word 2 a j 0 (omega arith) ∙ ap (word a) (omega arith)

  pub pair_value : word (pair a j) 1 ≡ value_at a 0 j
  pair_value = chunk_word 2 a j 1 (omega arith) ∙ ap (word a) (omega arith)

-- The chunks of a list without its first one.
chunk_next : (w : ℕ) (xs : List ℕ) (n : ℕ) → chunk w (drop w xs) n ≡ chunk w xs (suc n)
chunk_next w xs n = let e : w + w * n ≡ w * suc n = rw (mul-suc w n) (omega arith) in rw (drop-drop (w * n) w xs, e)

-- Chunk j of the first n chunks.
pub chunk_at : (w : ℕ) (xs : List ℕ) (n j : ℕ) → j < n → get_or (first_chunks w n xs) j [] ≡ chunk w xs j
chunk_at w xs zero j h = absurd (not-suc-le-zero h)
chunk_at w xs (suc n) zero h = rw (mul-zero w)
chunk_at w xs (suc n) (suc j) h = chunk_at w (drop w xs) n j (le_of_suc-le-suc h) ∙ chunk_next w xs j

-- One pair more.
pub pairs_more : (n : ℕ) (xs : List ℕ) → first_chunks 2 (suc n) xs ≡ first_chunks 2 n xs ++ pair xs n ∷ []
pairs_more zero xs = refl
pairs_more (suc n) xs = ap (λ (ps : List (List ℕ)). take 2 xs ∷ ps) (pairs_more n (drop 2 xs) ∙ rw (chunk_next 2 xs n))

-- The slots of these words hold what the pairs say.
module _ (a : List ℕ) (slots : List (List ℕ)) (pairs : slots ≡ first_chunks 2 (length a / 2) a) (j : ℕ) (k : j < length a / 2) where
  pub slot_pair : get_or slots j [] ≡ pair a j
  slot_pair = rw pairs (chunk_at 2 a (length a / 2) j k)

  pub slot_holds : SlotHolds a j (record { key = get_or (get_or slots j []) 0 0; value = get_or (get_or slots j []) 1 0 })
  slot_holds = record { key_there = rw slot_pair (sym (pair_key a j)); value_there = rw slot_pair (sym (pair_value a j)) }
