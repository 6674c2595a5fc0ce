-- Document 01, 'From a key to its slots', and document 02, wish 4: the folded key, bucket, directory bits, live and stale, probe
-- window.
-- Of the laws, those of `proofs/Keys.antt` alone open these definitions; computed rows open them too.
use Rattle.std.specs.Prelude.{ℕ, zero, suc, ◌+◌, ◌*◌, ◌-◌, ◌/◌, ◌%◌, ◌^◌, Bool, not, ◌&&◌, List, [], ◌∷◌, eqb}
use Rattle.std.specs.Int.Bits.{bit_xor}
use Rattle.stores.specs.Lists.{each}

-- ---- A key, opened

-- The folded key: the exclusive or, bit by bit, of the key and floor(key / 1,024). Bucket and directory bits are taken from it. A
-- slot holds the key itself, and keys are compared, with one another and with 0, as they stand.
unfoldable pub folded : ℕ → ℕ
folded key = bit_xor key (key / 1024)

-- A key's bucket.
unfoldable pub bucket : ℕ → ℕ
bucket key = folded key % 16

-- A key's directory bits as one number, the first bit lowest (document 01: route). They are bits 4, 5, 6 .. of the folded key.
unfoldable pub directory_bits : ℕ → ℕ
directory_bits key = folded key / 16

-- ---- Directory bits, of a key or of a block

-- Bit number i of a number of directory bits, the first being 0.
unfoldable pub bit_of : (bits i : ℕ) → ℕ
bit_of bits i = bits / 2 ^ i % 2

-- The first g bits of such a number as an index: the first one heaviest.
unfoldable pub first_bits : (bits g : ℕ) → ℕ
first_bits bits zero = 0
first_bits bits (suc g) = 2 * first_bits bits g + bit_of bits g

-- Directory bit number i of a key (document 01: route bit).
unfoldable pub bit : (key i : ℕ) → ℕ
bit key i = bit_of (directory_bits key) i

-- A key's index in the directory of depth g.
unfoldable pub index : (key g : ℕ) → ℕ
index key g = first_bits (directory_bits key) g

-- ---- Blocks, live keys, the probe window

-- The number of indices in a block of local depth L, in the directory of depth g.
unfoldable pub width : (g L : ℕ) → ℕ
width g L = 2 ^ (g - L)

-- The first L bits of index i, which all indices of its block of local depth L share.
unfoldable pub block_bits : (g L i : ℕ) → ℕ
block_bits g L i = i / width g L

-- The first index of the block of local depth L that holds index i.
unfoldable pub block_start : (g L i : ℕ) → ℕ
block_start g L i = width g L * block_bits g L i

-- A key is live in a segment of local depth L whose block's first L bits are `bits`. A nonzero key that is not is stale.
unfoldable pub live : (L bits key : ℕ) → Bool
live L bits key = not (eqb key 0) && eqb (index key L) bits

-- Bucket number b of a key's probe window (document 01: window): the key's own and the next three, 0 following 15.
unfoldable pub window_bucket : (key b : ℕ) → ℕ
window_bucket key b = (bucket key + b) % 16

-- The four slots of a bucket, rising.
unfoldable pub slots_of : ℕ → List ℕ
slots_of b = each (λ j. (4 * b + j) ∷ []) 4

-- The sixteen slots of a key's probe window, in the order of the search.
unfoldable pub window : ℕ → List ℕ
window key = each (λ b. slots_of (window_bucket key b)) 4
