-- Laws of document 01's 'From a key to its slots' and document 02's wish 4: the folded key, directory bits, index, blocks, live
-- keys, probe window.
-- This file alone opens the definitions of `specs/Keys.antt`.
use mathlib.Core.Path.{◌≡◌, refl, sym, ap, ◌∙◌}
use mathlib.Core.Bool.{Bool, true, false, not, ◌&&◌, and-false}
use mathlib.Core.List.Memᴰ
use mathlib.Core.List.{List, [], ◌∷◌, ◌++◌, Memᴰ}
use mathlib.Core.Logic.{⊎_elim}
use Prim.Native.Nat.{ℕ, zero, suc, ◌+◌, ◌*◌, ◌-◌, ◌/◌, ◌%◌, ◌^◌, ◌≤◌, ◌<◌}
use native.Mathlib.Nat.{add-zero, eq-or-lt_of_le, le_of_suc-le-suc, pow-succ', sub_self, sub-zero, mul_comm, mul-suc, add-mul, mod-lt, div-one, div-add-mod, div-div-eq-div-mul, div-lt_iff_lt-mul, div-eq_of_lt-le, mul-div-le, mul-div_cancel_left, mul-mod_right, mul-le-mul_left, add-suc, mul_left_comm, mul_assoc}
use native.Mathlib.Numerals.{one-add}
use native.Mathlib.Omega.{arith}
use borrow.Author.Tests.{eqb-true, eqb-false, not-true, eq-eqb, ne_eqb}
use lib.Arith.{bin_ind}
use lib.Bits.{bit_xor, xor_add_and, xor_shr, xor_zero_r, xor_lt}
use lib.Dec.{eqb}
use lib.ListN.{length}
use lib.Pow.{pow_pos, pow-add, mod-pow-add, mod-mod-pow, field, pow_mono}
use Rattle.stores.specs.Lists.{each, all_below}
use Rattle.stores.proofs.Tests.{and_left, and_right, and_true, same_test}
use Rattle.stores.proofs.Lists.{mem_each, each_mem, all_at}
use Rattle.index_rules.specs.Keys.{folded, bucket, directory_bits, bit_of, first_bits, bit, index, width, block_bits, block_start, live, window_bucket, slots_of, window}
use Rattle.index_laws.specs.Full.{Different}

-- ---- The folded key

pub folded_xor : (key : ℕ) → folded key ≡ bit_xor key (key / 1024)
unfolding folded
folded_xor key = refl

-- Bit by bit: bit i of the folded key is 1 where just one of the bits i and i + 10 of the key is.
pub folded_bit : (key i : ℕ) → folded key / 2 ^ i % 2 ≡ (key / 2 ^ i % 2 + key / 2 ^ (10 + i) % 2) % 2
folded_bit key i =
    let high : key / 1024 / 2 ^ i ≡ key / 2 ^ (10 + i) = div-div-eq-div-mul key 1024 (2 ^ i) ∙ ap (λ (n : ℕ). key / n) (sym (pow-add 2 10 i)) in
    rw (folded_xor, xor_shr key (key / 1024) i, high) (omega (arith, xor_add_and (key / 2 ^ i) (key / 2 ^ (10 + i))))

-- The folded key of a key of 64 bits has 64 bits.
pub folded_lt : (key : ℕ) → key < 2 ^ 64 → folded key < 2 ^ 64
folded_lt key h = rw folded_xor (xor_lt 64 key (key / 1024) h (omega arith))

-- A key below 1,024 is its own folded key.
pub folded_small : (key : ℕ) → key < 1024 → folded key ≡ key
folded_small key h =
    let none : key / 1024 ≡ 0 = omega arith in
    rw (folded_xor, none) (xor_zero_r key)

-- The exclusive or with one number keeps two numbers apart.
xor_cancel : (c a b : ℕ) → bit_xor a c ≡ bit_xor b c → a ≡ b
xor_cancel =
    bin_ind (λ (c : ℕ). (a b : ℕ) → bit_xor a c ≡ bit_xor b c → a ≡ b) (λ a b e. sym (xor_zero_r a) ∙ e ∙ xor_zero_r b)
    (λ c ih a b e.
    let halves : a / 2 ≡ b / 2 = ih (a / 2) (b / 2) (sym (xor_shr a c 1) ∙ ap (λ (n : ℕ). n / 2) e ∙ xor_shr b c 1) in
    omega (arith, e, halves, xor_add_and a c, xor_add_and b c))

-- Above its ten low bits, the folded key is that of what the key is there.
folded_high : (key : ℕ) → folded key / 1024 ≡ folded (key / 1024)
unfolding folded
folded_high key = xor_shr key (key / 1024) 10

-- The parts above the ten low bits are the same, by induction on a bound of the keys; then so is what they are folded with.
folded_apart : (n k o : ℕ) → k ≤ n → o ≤ n → folded k ≡ folded o → k ≡ o
folded_apart zero k o hk ho e = omega arith
folded_apart (suc n) k o hk ho e =
    let high : k / 1024 ≡ o / 1024 =
    folded_apart n (k / 1024) (o / 1024) (omega arith) (omega arith) (sym (folded_high k) ∙ ap (λ (f : ℕ). f / 1024) e ∙ folded_high o)
    in
    xor_cancel (o / 1024) k o (ap (bit_xor k) (sym high) ∙ sym (folded_xor k) ∙ e ∙ folded_xor o)

-- No two keys have the same folded key; and 0, which has 0, is alone in that.
pub folded_injective : (k o : ℕ) → folded k ≡ folded o → k ≡ o
folded_injective k o = folded_apart (k + o) k o (omega arith) (omega arith)

pub folded_zero : (key : ℕ) → folded key ≡ 0 → key ≡ 0
folded_zero key e = folded_injective key 0 (e ∙ sym (folded_small 0 (omega arith)))

pub bucket_mod : (key : ℕ) → bucket key ≡ folded key % 16
unfolding bucket
bucket_mod key = refl

pub bits_div : (key : ℕ) → directory_bits key ≡ folded key / 16
unfolding directory_bits
bits_div key = refl

-- Of a key below 1,024 bucket and directory bits are those of document 01, so that its states b to h, which have no other keys, are
-- as they were before document 02's wish 4.
pub bucket_small : (key : ℕ) → key < 1024 → bucket key ≡ key % 16
bucket_small key h = rw (bucket_mod, folded_small key h)

pub bits_small : (key : ℕ) → key < 1024 → directory_bits key ≡ key / 16
bits_small key h = rw (bits_div, folded_small key h)

-- ---- Directory bits as an index

bit_of_lt : (bits i : ℕ) → bit_of bits i < 2
unfolding bit_of
bit_of_lt bits i = omega arith

pub first_zero : (bits : ℕ) → first_bits bits 0 ≡ 0
unfolding first_bits
first_zero bits = refl

first_suc : (bits g : ℕ) → first_bits bits (suc g) ≡ 2 * first_bits bits g + bit_of bits g
unfolding first_bits
first_suc bits g = refl

pub first_lt : (bits g : ℕ) → first_bits bits g < 2 ^ g
first_lt bits zero = rw first_zero (omega arith)
first_lt bits (suc g) =
    let below : first_bits bits g < 2 ^ g = first_lt bits g in
    let small : bit_of bits g < 2 = bit_of_lt bits g in
    rw first_suc (omega (arith, pow-succ' 2 g))

-- Without its last bit, an index is the index at the depth before; its last bit is the next directory bit.
first_half : (bits g : ℕ) → first_bits bits (suc g) / 2 ≡ first_bits bits g
first_half bits g =
    let small : bit_of bits g < 2 = bit_of_lt bits g in
    rw first_suc (omega arith)

first_mod : (bits g : ℕ) → first_bits bits (suc g) % 2 ≡ bit_of bits g
first_mod bits g =
    let small : bit_of bits g < 2 = bit_of_lt bits g in
    rw first_suc (omega arith)

-- ---- A key's bits and its index

pub bit_lt : (key i : ℕ) → bit key i < 2
unfolding bit
bit_lt key i = bit_of_lt (directory_bits key) i

pub index_first : (key g : ℕ) → index key g ≡ first_bits (directory_bits key) g
unfolding index
index_first key g = refl

pub index_zero : (key : ℕ) → index key 0 ≡ 0
unfolding index
index_zero key = first_zero (directory_bits key)

pub index_suc : (key g : ℕ) → index key (suc g) ≡ 2 * index key g + bit key g
unfolding index bit
index_suc key g = first_suc (directory_bits key) g

pub index_lt : (key g : ℕ) → index key g < 2 ^ g
unfolding index
index_lt key g = first_lt (directory_bits key) g

pub index_half : (key g : ℕ) → index key (suc g) / 2 ≡ index key g
unfolding index
index_half key g = first_half (directory_bits key) g

pub index_mod : (key g : ℕ) → index key (suc g) % 2 ≡ bit key g
unfolding index bit
index_mod key g = first_mod (directory_bits key) g

-- ---- The width of a block

pub width_pos : (g L : ℕ) → 0 < width g L
unfolding width
width_pos g L = pow_pos (g - L)

pub width_full : (g : ℕ) → width g g ≡ 1
unfolding width
width_full g = rw (sub_self g)

pub width_zero : (g : ℕ) → width g 0 ≡ 2 ^ g
unfolding width
width_zero g = rw (sub-zero g)

-- One more bit of local depth: half the width.
pub width_half : (g L : ℕ) → L < g → width g L ≡ 2 * width g (suc L)
unfolding width
width_half g L h = ap (λ (k : ℕ). 2 ^ k) more ∙ pow-succ' 2 (g - suc L)
  where
    more : g - L ≡ suc (g - suc L)
    more = omega arith

-- In the doubled directory, a block is twice as wide.
pub width_suc : (g L : ℕ) → L ≤ g → width (suc g) L ≡ 2 * width g L
unfolding width
width_suc g L h = ap (λ (k : ℕ). 2 ^ k) more ∙ pow-succ' 2 (g - L)
  where
    more : suc g - L ≡ suc (g - L)
    more = omega arith

-- There are 2^L blocks of local depth L.
pub width_split : (g L : ℕ) → L ≤ g → 2 ^ L * width g L ≡ 2 ^ g
unfolding width
width_split g L h = sym (pow-add 2 L (g - L)) ∙ ap (λ (k : ℕ). 2 ^ k) all
  where
    all : L + (g - L) ≡ g
    all = omega arith

-- ---- The blocks

-- An index of the doubled directory has the block bits of the index that it comes from.
pub bits_doubled : (g L e : ℕ) → L ≤ g → block_bits (suc g) L e ≡ block_bits g L (e / 2)
unfolding block_bits
bits_doubled g L e h = rw (width_suc g L h) (sym (div-div-eq-div-mul e 2 (width g L)))

pub bits_full : (g i : ℕ) → block_bits g g i ≡ i
unfolding block_bits
bits_full g i = rw (width_full g) (div-one i)

-- The first L bits of an index are the index at depth L.
pub first_shift : (bits g L : ℕ) → L ≤ g → block_bits g L (first_bits bits g) ≡ first_bits bits L
first_shift bits zero L h =
    let e : L ≡ 0 = omega arith in
    rw e (bits_full 0 (first_bits bits 0))
first_shift bits (suc g) L h =
    ⊎_elim
    (λ (e : L ≡ suc g). rw e (bits_full (suc g) (first_bits bits (suc g))))
    (λ (k : L < suc g). bits_doubled g L (first_bits bits (suc g)) (le_of_suc-le-suc k) ∙ rw first_half (first_shift bits g L (le_of_suc-le-suc k)))
    (eq-or-lt_of_le h)

pub index_shift : (key g L : ℕ) → L ≤ g → block_bits g L (index key g) ≡ index key L
unfolding index
index_shift key g L h = first_shift (directory_bits key) g L h

pub block_bits_lt : (g L i : ℕ) → L ≤ g → i < 2 ^ g → block_bits g L i < 2 ^ L
unfolding block_bits
block_bits_lt g L i h k = (div-lt_iff_lt-mul {x = i} {y = 2 ^ L} (width_pos g L)).1 (rw (width_split g L h) k)

-- A block's first index, from its bits.
pub block_start_bits : (g L i : ℕ) → block_start g L i ≡ width g L * block_bits g L i
unfolding block_start
block_start_bits g L i = refl

-- The bits at a multiple of the width.
pub bits_at : (g L q : ℕ) → block_bits g L (width g L * q) ≡ q
unfolding block_bits
bits_at g L q = mul-div_cancel_left q (width_pos g L)

pub block_start_le : (g L i : ℕ) → block_start g L i ≤ i
unfolding block_start block_bits
block_start_le g L i = mul-div-le i (width g L)

pub in_block : (g L i : ℕ) → i < block_start g L i + width g L
unfolding block_start block_bits
in_block g L i = omega (arith, div-add-mod i (width g L), mod-lt i (width_pos g L))

pub block_end : (g L i : ℕ) → L ≤ g → i < 2 ^ g → block_start g L i + width g L ≤ 2 ^ g
block_end g L i h k =
    let more : width g L * suc (block_bits g L i) ≤ width g L * 2 ^ L = mul-le-mul_left (width g L) (block_bits_lt g L i h k) in
    omega (arith, block_start_bits g L i, mul-suc (width g L) (block_bits g L i), mul_comm (width g L) (2 ^ L), width_split g L h)

pub block_start_aligned : (g L i : ℕ) → block_start g L i % width g L ≡ 0
unfolding block_start
block_start_aligned g L i = mul-mod_right (width g L) (block_bits g L i)

-- All indices of a block have the same block bits, and so the same first index.
pub block_same : (g L i j : ℕ) → block_start g L i ≤ j → j < block_start g L i + width g L → block_bits g L j ≡ block_bits g L i
unfolding block_start block_bits
block_same g L i j low high =
    div-eq_of_lt-le (width g L)
    (omega (arith, mul_comm (width g L) (i / width g L)))
    (omega (arith, mul_comm (width g L) (i / width g L), add-mul (i / width g L) 1 (width g L)))

pub block_same_start : (g L i j : ℕ) → block_start g L i ≤ j → j < block_start g L i + width g L → block_start g L j ≡ block_start g L i
block_same_start g L i j low high =
    block_start_bits g L j ∙ rw (block_same g L i j low high) (sym (block_start_bits g L i))

-- An index that is a multiple of the width is the first of its block.
pub block_start_self : (g L i : ℕ) → i % width g L ≡ 0 → block_start g L i ≡ i
unfolding block_start block_bits
block_start_self g L i e = omega (arith, div-add-mod i (width g L))

-- A block of local depth L is two of local depth L + 1, told apart by the last block bit.
pub bits_half : (g L i : ℕ) → L < g → block_bits g (suc L) i / 2 ≡ block_bits g L i
unfolding block_bits
bits_half g L i h =
    div-div-eq-div-mul i (width g (suc L)) 2 ∙ ap (λ (w : ℕ). i / w) (mul_comm (width g (suc L)) 2 ∙ sym (width_half g L h))

-- ---- Live keys

pub live_nonzero : (L bits key : ℕ) → live L bits key ≡ true → key ≡ 0 → ⊥
unfolding live
live_nonzero L bits key e = eqb-false key 0 (not-true (eqb key 0) (and_left (not (eqb key 0)) (eqb (index key L) bits) e))

pub live_index : (L bits key : ℕ) → live L bits key ≡ true → index key L ≡ bits
unfolding live
live_index L bits key e = eqb-true (index key L) bits (and_right (not (eqb key 0)) (eqb (index key L) bits) e)

pub live_true : (L bits key : ℕ) → (key ≡ 0 → ⊥) → index key L ≡ bits → live L bits key ≡ true
unfolding live
live_true L bits key h e = and_true (ap not (ne_eqb key 0 h)) (eq-eqb (index key L) bits e)

pub live_empty : (L bits : ℕ) → live L bits 0 ≡ false
unfolding live
live_empty L bits = refl

pub live_stale : (L bits key : ℕ) → (index key L ≡ bits → ⊥) → live L bits key ≡ false
unfolding live
live_stale L bits key h = rw (ne_eqb (index key L) bits h) (and-false (not (eqb key 0)))

-- Live in the half with last bit b of a block: live in the block, and the next directory bit is b.
pub live_whole : (L bits b key : ℕ) → b < 2 → live (suc L) (2 * bits + b) key ≡ true → live L bits key ≡ true
live_whole L bits b key h e =
    live_true L bits key (live_nonzero (suc L) (2 * bits + b) key e)
    (omega (arith, live_index (suc L) (2 * bits + b) key e, index_suc key L, bit_lt key L))

pub live_bit : (L bits b key : ℕ) → b < 2 → live (suc L) (2 * bits + b) key ≡ true → bit key L ≡ b
live_bit L bits b key h e = omega (arith, live_index (suc L) (2 * bits + b) key e, index_suc key L, bit_lt key L)

pub live_half : (L bits b key : ℕ) → live L bits key ≡ true → bit key L ≡ b → live (suc L) (2 * bits + b) key ≡ true
live_half L bits b key e q =
    live_true (suc L) (2 * bits + b) key (live_nonzero L bits key e) (omega (arith, live_index L bits key e, index_suc key L))

pub live_split : (L bits b key : ℕ) → b < 2 → live (suc L) (2 * bits + b) key ≡ live L bits key && eqb (bit key L) b
live_split L bits b key h =
    same_test (live (suc L) (2 * bits + b) key) (live L bits key && eqb (bit key L) b)
    (λ e. and_true (live_whole L bits b key h e) (eq-eqb (bit key L) b (live_bit L bits b key h e)))
    (λ e.
    live_half L bits b key (and_left (live L bits key) (eqb (bit key L) b) e)
    (eqb-true (bit key L) b (and_right (live L bits key) (eqb (bit key L) b) e)))

-- ---- The probe window

pub window_bucket_lt : (key b : ℕ) → window_bucket key b < 16
unfolding window_bucket
window_bucket_lt key b = omega arith

slot_lt : (b j : ℕ) → b < 16 → Memᴰ j (slots_of b) → j < 64
unfolding slots_of
slot_lt b j h m =
    let r = mem_each j (λ i. (4 * b + i) ∷ []) 4 m in
    let e : j ≡ 4 * b + r.0 = Memᴰ.eq_of_singleton r.2 in
    omega arith

pub window_lt : (key j : ℕ) → Memᴰ j (window key) → j < 64
unfolding window
window_lt key j m =
    let r = mem_each j (λ b. slots_of (window_bucket key b)) 4 m in
    slot_lt (window_bucket key r.0) j (window_bucket_lt key r.0) r.2

-- The slots of the four buckets are in the window.
pub window_slot : (key b j : ℕ) → b < 4 → j < 4 → Memᴰ (4 * window_bucket key b + j) (window key)
unfolding window slots_of
window_slot key b j h k =
    each_mem (4 * window_bucket key b + j) (λ b. slots_of (window_bucket key b)) 4 b h
    (each_mem (4 * window_bucket key b + j) (λ i. (4 * window_bucket key b + i) ∷ []) 4 j k (Memᴰ.head refl))

-- It has sixteen, and none twice.
pub window_count : (key : ℕ) → length (window key) ≡ 16
unfolding window slots_of each
window_count key = refl

different_append : (xs ys : List ℕ) → Different xs → Different ys → ((x : ℕ) → Memᴰ x xs → Memᴰ x ys → ⊥) → Different (xs ++ ys)
different_append [] ys d e apart = e
different_append (x ∷ xs) ys d e apart = (
  λ m. ⊎_elim d.0 (apart x (Memᴰ.head refl)) (Memᴰ.append_cases xs m),
  different_append xs ys d.1 e (λ z m. apart z (Memᴰ.tail m)),
)

-- Lists of different numbers, of which no two have one in common, joined.
different_each : (f : ℕ → List ℕ) (n : ℕ) → ((i : ℕ) → i < n → Different (f i))
    → ((i j x : ℕ) → i < j → j < n → Memᴰ x (f i) → Memᴰ x (f j) → ⊥) → Different (each f n)
unfolding each
different_each f zero own apart = Prim.tt
different_each f (suc n) own apart =
    different_append (each f n) (f n) (different_each f n (λ i h. own i (omega arith)) (λ i j x h k. apart i j x h (omega arith))) (own n (omega arith))
    (λ x m k. let r = mem_each x f n m in apart r.0 n x r.1 (omega arith) r.2 k)

-- A slot is of the bucket number that a fourth of it is.
slot_bucket : (b j : ℕ) → Memᴰ j (slots_of b) → j / 4 ≡ b
unfolding slots_of
slot_bucket b j m =
    let r = mem_each j (λ i. (4 * b + i) ∷ []) 4 m in
    let e : j ≡ 4 * b + r.0 = Memᴰ.eq_of_singleton r.2 in
    omega arith

slots_different : (b : ℕ) → Different (slots_of b)
unfolding slots_of
slots_different b =
    different_each (λ j. (4 * b + j) ∷ []) 4 (λ i h. (Memᴰ.not-nil, Prim.tt))
    (λ i j x h k m n.
    let p : x ≡ 4 * b + i = Memᴰ.eq_of_singleton m in
    let q : x ≡ 4 * b + j = Memᴰ.eq_of_singleton n in
    omega arith)

pub window_different : (key : ℕ) → Different (window key)
unfolding window window_bucket
window_different key =
    different_each (λ b. slots_of (window_bucket key b)) 4 (λ b h. slots_different (window_bucket key b))
    (λ i j x h k m n. omega (arith, slot_bucket (window_bucket key i) x m, slot_bucket (window_bucket key j) x n))

-- ---- For the code

pub window_bucket_mod : (key b : ℕ) → window_bucket key b ≡ (bucket key + b) % 16
unfolding window_bucket
window_bucket_mod key b = refl

pub slots_each : (b : ℕ) → slots_of b ≡ each (λ j. (4 * b + j) ∷ []) 4
unfolding slots_of
slots_each b = refl

pub window_each : (key : ℕ) → window key ≡ each (λ b. slots_of (window_bucket key b)) 4
unfolding window
window_each key = refl

-- Directory bit number i of a key by a shift.
pub bit_shift : (key i : ℕ) → bit key i ≡ directory_bits key / 2 ^ i % 2
unfolding bit bit_of
bit_shift key i = refl

-- The first L bits of a number are its low L bits: one step from the first L to the first L + 1.
low_bits : (n L : ℕ) → n % 2 ^ suc L ≡ n / 2 ^ L % 2 * 2 ^ L + n % 2 ^ L
low_bits n L = ap (λ (k : ℕ). n % 2 ^ k) (sym (one-add L)) ∙ mod-pow-add n 1 L

low_fewer : (n L : ℕ) → n % 2 ^ suc L % 2 ^ L ≡ n % 2 ^ L
low_fewer n L = ap (λ (k : ℕ). n % 2 ^ k % 2 ^ L) (sym (one-add L)) ∙ mod-mod-pow n 1 L

low_last : (n L : ℕ) → n % 2 ^ suc L / 2 ^ L ≡ bit_of n L
unfolding bit_of
low_last n L = ap (λ (k : ℕ). n % 2 ^ k / 2 ^ L) (sym (one-add L)) ∙ field n 1 L

-- Two numbers have the same index at depth L exactly where their low L bits are the same.
first_same : (k o L : ℕ) → k % 2 ^ L ≡ o % 2 ^ L → first_bits k L ≡ first_bits o L
first_same k o zero e = first_zero k ∙ sym (first_zero o)
first_same k o (suc L) e =
    let fewer : k % 2 ^ L ≡ o % 2 ^ L = sym (low_fewer k L) ∙ ap (λ (n : ℕ). n % 2 ^ L) e ∙ low_fewer o L in
    let last : bit_of k L ≡ bit_of o L = sym (low_last k L) ∙ ap (λ (n : ℕ). n / 2 ^ L) e ∙ low_last o L in
    rw (first_suc k L, first_same k o L fewer, last) (sym (first_suc o L))

same_low : (k o L : ℕ) → first_bits k L ≡ first_bits o L → k % 2 ^ L ≡ o % 2 ^ L
unfolding bit_of
same_low k o zero e = omega arith
same_low k o (suc L) e =
    let fewer : first_bits k L ≡ first_bits o L = sym (first_half k L) ∙ ap (λ (n : ℕ). n / 2) e ∙ first_half o L in
    let last : k / 2 ^ L % 2 ≡ o / 2 ^ L % 2 = sym (first_mod k L) ∙ ap (λ (n : ℕ). n % 2) e ∙ first_mod o L in
    low_bits k L ∙ rw (last, same_low k o L fewer) (sym (low_bits o L))

-- Whether a key is live in a block with these bits: by the low L bits of its own and of the block's.
pub live_bits : (L bits key : ℕ) → live L (first_bits bits L) key ≡ not (eqb key 0) && eqb (directory_bits key % 2 ^ L) (bits % 2 ^ L)
unfolding live index
live_bits L bits key =
    ap (λ (t : Bool). not (eqb key 0) && t)
    (same_test (eqb (first_bits (directory_bits key) L) (first_bits bits L)) (eqb (directory_bits key % 2 ^ L) (bits % 2 ^ L))
    (λ t. eq-eqb _ _ (same_low (directory_bits key) bits L (eqb-true _ _ t)))
    (λ t. eq-eqb _ _ (first_same (directory_bits key) bits L (eqb-true _ _ t))))

-- The width of a block as a power, and the bits of a block by a shift.
pub width_pow : (g L : ℕ) → width g L ≡ 2 ^ (g - L)
unfolding width
width_pow g L = refl

-- In a directory of depth at most 12 no block is wider than 4,096.
pub width_le : (g L : ℕ) → g ≤ 12 → width g L ≤ 4096
unfolding width
width_le g L h = pow_mono {i = g - L} {j = 12} (omega arith)

pub block_bits_shift : (g L i : ℕ) → block_bits g L i ≡ i / 2 ^ (g - L)
unfolding block_bits width
block_bits_shift g L i = refl

-- A further bit x in front of a number's bits is the heaviest of the index.
bit_behind : (n x i : ℕ) → x < 2 → bit_of (2 * n + x) (suc i) ≡ bit_of n i
unfolding bit_of
bit_behind n x i h =
    let half : (2 * n + x) / 2 ≡ n = omega arith in
    rw (pow-succ' 2 i, ← div-div-eq-div-mul (2 * n + x) 2 (2 ^ i), half)

pub first_in_front : (n x t : ℕ) → x < 2 → first_bits (2 * n + x) (suc t) ≡ x * 2 ^ t + first_bits n t
unfolding bit_of
first_in_front n x zero h = rw (first_suc, first_zero (2 * n + x), first_zero n) (omega arith)
first_in_front n x (suc t) h =
    let before : first_bits (2 * n + x) (suc t) ≡ x * 2 ^ t + first_bits n t = first_in_front n x t h in
    let last : bit_of (2 * n + x) (suc t) ≡ bit_of n t = bit_behind n x t h in
    let twice : x * 2 ^ suc t ≡ 2 * (x * 2 ^ t) = rw pow-succ' (mul_left_comm x 2 (2 ^ t)) in
    omega (arith, first_suc (2 * n + x) (suc t), first_suc n t)

-- The bits behind the first m are those of the number without them.
bit_beyond : (bits m n : ℕ) → bit_of bits (m + n) ≡ bit_of (bits / 2 ^ m) n
unfolding bit_of
bit_beyond bits m n = rw (pow-add 2 m n, ← div-div-eq-div-mul bits (2 ^ m) (2 ^ n))

pub first_joined : (bits m n : ℕ) → first_bits bits (m + n) ≡ 2 ^ n * first_bits bits m + first_bits (bits / 2 ^ m) n
first_joined bits m zero = rw (first_zero (bits / 2 ^ m), add-zero m) (omega arith)
first_joined bits m (suc n) =
    let before : first_bits bits (m + n) ≡ 2 ^ n * first_bits bits m + first_bits (bits / 2 ^ m) n = first_joined bits m n in
    let twice : 2 ^ suc n * first_bits bits m ≡ 2 * (2 ^ n * first_bits bits m) = rw pow-succ' (mul_assoc 2 (2 ^ n) (first_bits bits m)) in
    rw (add-suc, first_suc bits (m + n), bit_beyond bits m n, first_suc (bits / 2 ^ m) n, twice) (omega (arith, before))

-- The numbers below 16 with their bits in reverse order, the number of b at the 16th power b: the index at depth 4 by the
-- four lowest bits.
abbrev pub reversed : ℕ
reversed = 0xF7B3D591E6A2C480

four_reversed : all_below (λ b. eqb (reversed / 2 ^ (4 * b) % 16) (first_bits b 4)) 16 ≡ true
unfolding all_below first_bits bit_of
four_reversed = refl

pub first_four : (bits : ℕ) → reversed / 2 ^ (4 * (bits % 16)) % 16 ≡ first_bits bits 4
first_four bits =
    eqb-true _ _ (all_at (λ b. eqb (reversed / 2 ^ (4 * b) % 16) (first_bits b 4)) 16 four_reversed (bits % 16) (omega arith))
    ∙ first_same (bits % 16) bits 4 (omega arith)
