-- Document 01, 'The calls and their stores': remove.
use Rattle.std.specs.Prelude.{ℕ, List, [], ◌∷◌}
use Rattle.std.proofs.Math.Option.{Option, none, some}
use Rattle.stores.specs.Store.{store}
use Rattle.stores.specs.Plan.{Plan, reply_only}
use Rattle.replies.specs.declared.Refusal.{Refusal}
use Rattle.index_rules.specs.Layout.{key_address}
use Rattle.index_rules.specs.Slots.{hit}
use Rattle.replies.specs.Replies.{Said, done, absent, tested}
use Rattle.index_rules.specs.Get.{key_segment, key_tests}
use Rattle.index_rules.specs.Put.{directory_tests}

-- The tests of remove: 1, 2, 3, 4.
unfoldable pub remove_tests : List ℕ → (key : ℕ) → Option Refusal
remove_tests a key = key_tests a key (directory_tests a none)

-- The key word at a hit in the segment at `base` := 0; or absent, with no store.
unfoldable pub cleared_at : (base : ℕ) → Option ℕ → Plan Said
cleared_at base none = reply_only absent
cleared_at base (some j) = record { due = store (key_address base j) 0 ∷ []; reply = done [] }

-- The plan of a remove.
unfoldable pub remove : List ℕ → (key : ℕ) → Plan Said
remove a key = tested (remove_tests a key) (cleared_at (key_segment a key) (hit a (key_segment a key) key))
