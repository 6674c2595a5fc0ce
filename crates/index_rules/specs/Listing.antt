-- Document 01, 'The calls and their stores': list, which makes no store in the index; and its order, document 02, wish 3.
use Rattle.std.specs.Prelude.{ℕ, ◌*◌, ◌^◌, List, [], ◌∷◌, leb, eqb, length}
use Rattle.std.proofs.Math.Option.{Option, none}
use Rattle.stores.specs.Lists.{pick, each}
use Rattle.replies.specs.declared.Refusal.{Refusal}
use Rattle.replies.specs.declared.Refusal.TheVariants.{NoStore, ShortList}
use Rattle.index_rules.specs.Layout.{valid_header, depth, max_depth, entry_at, segment_of, local_depth, segment_address, key_at, value_at}
use Rattle.index_rules.specs.Keys.{block_bits, live}
use Rattle.index_rules.specs.Scan.{leader}
use Rattle.replies.specs.Replies.{done, unless}
use Rattle.replies.specs.Writing.{Writing, behind_tests}
use Rattle.index_rules.specs.Put.{directory_tests}

-- A record: a key and its value.
pub record Record : Type 0 where
  pub key : ℕ
  pub value : ℕ

-- The record in slot j of the segment at `base`, where its key is live there.
unfoldable pub live_record : List ℕ → (base L bits j : ℕ) → List Record
live_record a base L bits j =
    pick (live L bits (key_at a base j)) (record { key = key_at a base j; value = value_at a base j } ∷ []) []

-- The live records of the block at index i whose entry is e, slots rising.
unfoldable pub block_records : List ℕ → (i e : ℕ) → List Record
block_records a i e =
    each (live_record a (segment_address (max_depth a) (segment_of e)) (local_depth e) (block_bits (depth a) (local_depth e) i)) 64

-- Every live record: block by block from the left of the directory, and within a block's segment by rising slot number.
unfoldable pub records : List ℕ → List Record
records a =
    each (λ i. pick (eqb (leader a (depth a) i) i) (block_records a i (entry_at a (depth a) i)) []) (2 ^ depth a)

-- Records as words: each as key, then value.
unfoldable pub words_of : List Record → List ℕ
words_of [] = []
words_of (r ∷ rs) = r.key ∷ r.value ∷ words_of rs

-- The tests in front of a listing: 1, 3, 4, and those after them.
unfoldable pub listing_tests : List ℕ → Option Refusal → Option Refusal
listing_tests a later = unless (valid_header a) NoStore (directory_tests a later)

-- The test for 10: the records have room in a list array of `room` words.
unfoldable pub room_test : List Record → (room : ℕ) → Option Refusal
room_test rs room = unless (leb (2 * length rs) room) ShortList none

-- The tests of list, with a list array of `room` words: 1, 3, 4, then 10.
unfoldable pub list_tests : List ℕ → (room : ℕ) → Option Refusal
list_tests a room = listing_tests a (room_test (records a) room)

-- What a list says and writes: the number of records, and the records, in their order.
unfoldable pub list : List ℕ → (room : ℕ) → Writing
list a room = behind_tests (list_tests a room) (record { reply = done (length (records a) ∷ []); words = words_of (records a) })
