-- Document 01, 'The calls and their stores': get, which makes no store.
use Rattle.std.specs.Prelude.{ℕ, ◌≡◌, not, List, [], ◌∷◌, eqb}
use Rattle.std.proofs.Math.Option.{Option, none, some}
use Rattle.stores.specs.Store.{word}
use Rattle.replies.specs.declared.Refusal.{Refusal}
use Rattle.replies.specs.declared.Refusal.TheVariants.{NoStore, NoKey, Broken}
use Rattle.index_rules.specs.Layout.{valid_header, depth, max_depth, segments, entry_at, segment_of, segment_address, value_at}
use Rattle.index_rules.specs.Keys.{index}
use Rattle.index_rules.specs.Scan.{in_range}
use Rattle.index_rules.specs.Slots.{hit}
use Rattle.replies.specs.Replies.{Said, done, absent, refused, unless, replied}

-- The entry of the key, in the present directory.
unfoldable pub key_entry : List ℕ → (key : ℕ) → ℕ
key_entry a key = entry_at a (depth a) (index key (depth a))

-- The address of the segment that the key's entry names.
unfoldable pub key_segment : List ℕ → (key : ℕ) → ℕ
key_segment a key = segment_address (max_depth a) (segment_of (key_entry a key))

-- The tests of the calls with a key begin so: 1, then 2.
unfoldable pub key_tests : List ℕ → (key : ℕ) → Option Refusal → Option Refusal
key_tests a key later = unless (valid_header a) NoStore (unless (not (eqb key 0)) NoKey later)

-- The test of the key's entry: 3 where it is out of range.
unfoldable pub entry_tests : List ℕ → (key : ℕ) → Option Refusal
entry_tests a key = unless (in_range (depth a) (segments a) (key_entry a key)) Broken none

-- Get's tests: 1, 2, 3.
unfoldable pub get_tests : List ℕ → (key : ℕ) → Option Refusal
get_tests a key = key_tests a key (entry_tests a key)

-- The value at a hit in the segment at `base`, or absent.
unfoldable pub value_at_hit : List ℕ → (base : ℕ) → Option ℕ → Said
value_at_hit a base none = absent
value_at_hit a base (some j) = done (value_at a base j ∷ [])

-- What a get of the key says.
unfoldable pub get : List ℕ → (key : ℕ) → Said
get a key = replied (get_tests a key) (value_at_hit a (key_segment a key) (hit a (key_segment a key) key))

-- What a get of any key says is one of these: done with one word of the array, absent, or 1, 2 or 3.
pub data GetSays (a : List ℕ) (s : Said) : Type 0 where
  finds : (i : ℕ) → s ≡ done (word a i ∷ []) → GetSays a s
  misses : s ≡ absent → GetSays a s
  no_store : s ≡ refused 1 → GetSays a s
  no_key : s ≡ refused 2 → GetSays a s
  broken : s ≡ refused 3 → GetSays a s
