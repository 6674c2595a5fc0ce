-- What the reader of an entry is to say, and where the entries of the present directory stand.
use mathlib.Core.Path.{◌≡◌, ap, ◌∙◌}
use mathlib.Core.List.{List, [], ◌∷◌}
use Prim.Native.Nat.{ℕ, suc, ◌+◌, ◌-◌, ◌*◌, ◌/◌, ◌%◌, ◌^◌, ◌≤◌, ◌<◌}
use native.Mathlib.Nat.{div-add-mod', mul_comm}
use native.Mathlib.Omega.{arith}
use borrow.Author.Tests.{le-leb, lt-leb, lt-ltb, le-ltb}
use lib.Bits.{bit_and, and_mask}
use Rattle.stores.specs.Store.{word}
use Rattle.replies.specs.declared.Refusal.TheVariants.{Broken}
use Rattle.index_rules.specs.Layout.{depth, entry_address, entry_at, segment_of, local_depth}
use Rattle.index_rules.specs.Keys.{width, block_start}
use Rattle.index_rules.specs.Scan.{in_range}
use Rattle.index_laws.proofs.Keys.{width_pow, block_start_bits, block_bits_shift}
use Rattle.replies.specs.Replies.{done, refuse}
use Rattle.index_layout.specs.declared.header.Header.{Header}
use Rattle.index_layout.specs.Headers.{Describes}
use Rattle.index_layout.specs.Entries.{entry_of}

-- What is to be said of an entry whose local depth is L and whose segment is s.
module _ (g S e L : ℕ) (depth_is : L ≡ local_depth e) where
  -- It is deeper than the directory.
  pub says_deep : g < L → refuse Broken ≡ entry_of g S e
  unfolding entry_of in_range
  says_deep deep = rw (← depth_is, lt-leb L g deep)

  module _ (s : ℕ) (segment_is : s ≡ segment_of e) (low : L ≤ g) where
    -- It names no segment of the index.
    pub says_no_segment : S ≤ s → refuse Broken ≡ entry_of g S e
    unfolding entry_of in_range
    says_no_segment past = rw (← depth_is, ← segment_is, le-leb L g low, le-ltb s S past)

    pub says_in_range : s < S → done (s ∷ L ∷ []) ≡ entry_of g S e
    unfolding entry_of in_range
    says_in_range below = rw (← depth_is, ← segment_is, le-leb L g low, lt-ltb s S below)

-- The code's addresses of the entries of the present depth and of the next, where `count` is the number of entries.
module _ {h : Header} {a : List ℕ} (count i : ℕ) (d : Describes h a) (counted : count ≡ 2 ^ h.depth) where
  pub entry_address_holds : count + i ≡ entry_address (depth a) i
  unfolding entry_address
  entry_address_holds = rw d.depth_read (omega arith)

  pub next_address_holds : 2 * count + i ≡ entry_address (suc (depth a)) i
  unfolding entry_address
  next_address_holds = rw d.depth_read (omega arith)

  pub entry_word : word a (count + i) ≡ entry_at a (depth a) i
  entry_word = ap (word a) entry_address_holds

-- A mask of one less than a block's width takes the rest.
pub mask_width : (g L i w : ℕ) → w ≡ width g L → bit_and i (w - 1) ≡ i % width g L
mask_width g L i w e = rw (e, width_pow g L) (and_mask i (g - L))

-- An index without that rest is the first of its block.
module _ (g L i w : ℕ) (e : w ≡ width g L) where
  start_and_rest : block_start g L i + bit_and i (w - 1) ≡ i
  start_and_rest =
      ap (λ (n : ℕ). block_start g L i + n) (mask_width g L i w e)
      ∙ rw (block_start_bits g L i, block_bits_shift g L i, width_pow g L, mul_comm (2 ^ (g - L)) (i / 2 ^ (g - L))) (div-add-mod' i (2 ^ (g - L)))

  pub rest_in_block : bit_and i (w - 1) ≤ i
  rest_in_block = omega (arith, start_and_rest)

  pub block_start_mask : i - bit_and i (w - 1) ≡ block_start g L i
  block_start_mask = omega (arith, start_and_rest)
