-- Document 02, wish 7: the listing of one block, by the directory index of its leader.
use Rattle.std.specs.Prelude.{ℕ, ◌+◌, ◌^◌, Bool, ◌&&◌, List, ltb, eqb, length}
use Rattle.std.proofs.Math.Option.{Option, none, some}
use Rattle.stores.specs.Lists.{pick}
use Rattle.replies.specs.declared.Refusal.{Refusal}
use Rattle.replies.specs.declared.Refusal.TheVariants.{NoLeader}
use Rattle.replies.specs.Replies.{listed, unless}
use Rattle.replies.specs.Writing.{Writing, behind_tests}
use Rattle.index_rules.specs.Layout.{depth, entry_at, local_depth}
use Rattle.index_rules.specs.Keys.{width}
use Rattle.index_rules.specs.Scan.{leader}
use Rattle.index_rules.specs.Listing.{Record, block_records, words_of, listing_tests, room_test}

-- The scan (document 01: the walk) has a leader at index i. Any number can be asked for; none behind the directory's end leads.
unfoldable pub leads : List ℕ → (i : ℕ) → Bool
leads a i = ltb i (2 ^ depth a) && eqb (leader a (depth a) i) i

-- The records of the block that index i leads.
abbrev pub records_led : List ℕ → (i : ℕ) → List Record
records_led a i = block_records a i (entry_at a (depth a) i)

-- The index behind the block that index i leads.
abbrev pub behind_led : List ℕ → (i : ℕ) → ℕ
behind_led a i = i + width (depth a) (local_depth (entry_at a (depth a) i))

-- What follows a block: the block at the index behind it, or none where the directory ends there.
unfoldable pub following : (behind end : ℕ) → Option ℕ
following behind end = pick (ltb behind end) (some behind) none

-- What follows the block that index i leads.
abbrev pub following_led : List ℕ → (i : ℕ) → Option ℕ
following_led a i = following (behind_led a i) (2 ^ depth a)

-- The tests, with a list array of `room` words: 1, 3, 4 as for list, then 16, then 10 by the block's records alone.
unfoldable pub list_block_tests : List ℕ → (i room : ℕ) → Option Refusal
list_block_tests a i room = listing_tests a (unless (leads a i) NoLeader (room_test (records_led a i) room))

-- What the call says and writes: the number of the block's records and what follows it, and the records, in their order.
unfoldable pub list_block : List ℕ → (i room : ℕ) → Writing
list_block a i room =
    behind_tests (list_block_tests a i room)
    (record { reply = listed (length (records_led a i)) (following_led a i); words = words_of (records_led a i) })
