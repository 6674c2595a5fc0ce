-- Document 01, 'The array of words': where each thing stands in the array that the caller lends.
use Rattle.std.specs.Prelude.{ℕ, suc, ◌+◌, ◌*◌, ◌/◌, ◌%◌, ◌^◌, Bool, ◌&&◌, List, leb, eqb, length}
use Rattle.stores.specs.Store.{word}

-- ---- Word 0

-- The mark in bits 32 to 63 of word 0 (document 02, wish 4). With document 01's, 0x50414745, an array is no store.
abbrev pub mark : ℕ
mark = 0x50414746

-- G, the present depth of the directory: bits 0 to 7 of word 0.
unfoldable pub depth_in : ℕ → ℕ
depth_in w = w % 2 ^ 8

-- D, the largest depth of the directory: bits 8 to 15 of word 0.
unfoldable pub max_depth_in : ℕ → ℕ
max_depth_in w = w / 2 ^ 8 % 2 ^ 8

-- S, the number of segments: bits 16 to 31 of word 0.
unfoldable pub segments_in : ℕ → ℕ
segments_in w = w / 2 ^ 16 % 2 ^ 16

-- What stands where the mark should: bits 32 to 63 of word 0.
unfoldable pub mark_in : ℕ → ℕ
mark_in w = w / 2 ^ 32

-- Word 0 of an index with these G, D and S.
unfoldable pub header : (G D S : ℕ) → ℕ
header G D S = G + 2 ^ 8 * D + 2 ^ 16 * S + 2 ^ 32 * mark

-- G of the array.
abbrev pub depth : List ℕ → ℕ
depth a = depth_in (word a 0)

-- D of the array.
abbrev pub max_depth : List ℕ → ℕ
max_depth a = max_depth_in (word a 0)

-- S of the array.
abbrev pub segments : List ℕ → ℕ
segments a = segments_in (word a 0)

-- The number of words that D and S take. Words beyond these are never touched.
unfoldable pub words_for : (D S : ℕ) → ℕ
words_for D S = 2 ^ suc D + 128 * S

-- D is 2 to 12, and S is 1 to 2^D.
unfoldable pub valid_shape : (D S : ℕ) → Bool
valid_shape D S = (leb 2 D && leb D 12) && (leb 1 S && leb S (2 ^ D))

-- Word 0 is valid (document 01: sound). An array of no words has the word 0 there, which has not the mark.
unfoldable pub valid_header : List ℕ → Bool
valid_header a =
    eqb (mark_in (word a 0)) mark
    && (valid_shape (max_depth a) (segments a) && (leb (depth a) (max_depth a) && leb (words_for (max_depth a) (segments a)) (length a)))

-- ---- The directory

-- The address of entry i of the directory of depth g, which has 2^g entries and starts at word 2^g.
unfoldable pub entry_address : (g i : ℕ) → ℕ
entry_address g i = 2 ^ g + i

-- Entry i of the directory of depth g.
abbrev pub entry_at : List ℕ → (g i : ℕ) → ℕ
entry_at a g i = word a (entry_address g i)

-- The segment number of an entry: bits 0 to 31.
unfoldable pub segment_of : ℕ → ℕ
segment_of e = e % 2 ^ 32

-- The local depth of an entry, document 01's L: bits 32 to 63.
unfoldable pub local_depth : ℕ → ℕ
local_depth e = e / 2 ^ 32

-- The entry of segment s with local depth L.
unfoldable pub entry : (s L : ℕ) → ℕ
entry s L = s + 2 ^ 32 * L

-- ---- Segments

-- The address of segment s where the largest depth is D. A segment is 16 buckets of 4 slots, two words each.
unfoldable pub segment_address : (D s : ℕ) → ℕ
segment_address D s = 2 ^ suc D + 128 * s

-- The address of the key of slot j in the segment at `base`; 0 there means that the slot is empty.
abbrev pub key_address : (base j : ℕ) → ℕ
key_address base j = base + 2 * j

-- The address of the value of slot j: any word.
abbrev pub value_address : (base j : ℕ) → ℕ
value_address base j = base + (2 * j + 1)

-- The key of slot j in the segment at `base`.
abbrev pub key_at : List ℕ → (base j : ℕ) → ℕ
key_at a base j = word a (key_address base j)

-- The value of slot j in the segment at `base`.
abbrev pub value_at : List ℕ → (base j : ℕ) → ℕ
value_at a base j = word a (value_address base j)
