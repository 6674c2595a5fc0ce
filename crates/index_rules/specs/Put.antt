-- Document 01, 'The calls and their stores': put.
use Rattle.std.specs.Prelude.{ℕ, zero, suc, ◌-◌, List, [], ◌∷◌}
use Rattle.std.proofs.Math.Option.{Option, none, some}
use Rattle.stores.specs.Store.{store, apply}
use Rattle.stores.specs.Plan.{Plan, reply_only, ◌then◌}
use Rattle.replies.specs.declared.Refusal.{Refusal}
use Rattle.replies.specs.declared.Refusal.TheVariants.{Broken, Unmended, TooDeep, NoSegment}
use Rattle.index_rules.specs.Layout.{depth, max_depth, segments, local_depth, key_address, value_address}
use Rattle.index_rules.specs.Keys.{index, block_bits}
use Rattle.index_rules.specs.Scan.{leaders_valid, entries_agree}
use Rattle.index_rules.specs.Slots.{Choice, found, into, full, choose, free_segment}
use Rattle.replies.specs.Replies.{Said, done, refuse, unless, tested}
use Rattle.index_rules.specs.Get.{key_entry, key_segment, key_tests}
use Rattle.index_rules.specs.Split.{splitting}

-- The tests of the directory: 3 where a leader is not valid, then 4 where an entry differs from its leader.
unfoldable pub directory_tests : List ℕ → Option Refusal → Option Refusal
directory_tests a later =
    unless (leaders_valid a (depth a) (segments a)) Broken (unless (entries_agree a (depth a)) Unmended later)

-- The tests of put: 1, 2, 3, 4.
unfoldable pub put_tests : List ℕ → (key : ℕ) → Option Refusal
put_tests a key = key_tests a key (directory_tests a none)

-- The slot for a put of the key, in the segment that its entry names.
unfoldable pub key_choice : List ℕ → (key : ℕ) → Choice
key_choice a key =
    choose a (key_segment a key) (local_depth (key_entry a key))
    (block_bits (depth a) (local_depth (key_entry a key)) (index key (depth a)))
    key

-- A put by the choice of a slot in the segment at `base`: the value alone, or value, then key; where the window is full, the plan p.
unfoldable pub placed : (base key value : ℕ) → Choice → Plan Said → Plan Said
placed base key value (found j) p = record { due = store (value_address base j) value ∷ []; reply = done [] }
placed base key value (into j) p =
    record { due = store (value_address base j) value ∷ store (key_address base j) key ∷ []; reply = done [] }
placed base key value full p = p

-- Step 1 of a split, behind the test for 5: 6 where no segment is free, else the split into the free segment.
unfoldable pub into_free : Option ℕ → (ℕ → Plan Said) → Plan Said
into_free none split = reply_only (refuse NoSegment)
into_free (some n) split = split n

-- The plan of a put where the key's segment can be split u times more.
unfoldable pub put_unused : (u : ℕ) → List ℕ → (key value : ℕ) → Plan Said
put_unused zero a key value =
    tested (put_tests a key) (placed (key_segment a key) key value (key_choice a key) (reply_only (refuse TooDeep)))
put_unused (suc u) a key value =
    let split : ℕ → Plan Said = λ n. splitting a key n then put_unused u (apply (splitting a key n) a) key value in
    tested (put_tests a key) (placed (key_segment a key) key value (key_choice a key) (into_free (free_segment a) split))

-- The depth still unused: D minus the local depth of the key's entry.
unfoldable pub unused : List ℕ → (key : ℕ) → ℕ
unused a key = max_depth a - local_depth (key_entry a key)

-- The plan of a put.
unfoldable pub put : List ℕ → (key value : ℕ) → Plan Said
put a key value = put_unused (unused a key) a key value
