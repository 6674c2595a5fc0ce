-- Document 01, 'The calls and their stores': mend.
use Rattle.std.specs.Prelude.{ℕ, ◌^◌, List, [], ◌∷◌, eqb}
use Rattle.std.proofs.Math.Option.{Option, none}
use Rattle.stores.specs.Lists.{pick, each}
use Rattle.stores.specs.Store.{Store, store}
use Rattle.stores.specs.Plan.{Plan}
use Rattle.replies.specs.declared.Refusal.{Refusal}
use Rattle.replies.specs.declared.Refusal.TheVariants.{NoStore, Broken}
use Rattle.index_rules.specs.Layout.{valid_header, depth, segments, entry_address, entry_at}
use Rattle.index_rules.specs.Scan.{leading_entry, leaders_valid}
use Rattle.replies.specs.Replies.{Said, done, unless, tested}

-- The tests of mend: 1, 3.
unfoldable pub mend_tests : List ℕ → Option Refusal
mend_tests a = unless (valid_header a) NoStore (unless (leaders_valid a (depth a) (segments a)) Broken none)

-- The store for entry i of depth g: its leader's word, where it differs from that.
unfoldable pub mend_entry : List ℕ → (g i : ℕ) → List Store
mend_entry a g i =
    pick (eqb (entry_at a g i) (leading_entry a g i)) [] (store (entry_address g i) (leading_entry a g i) ∷ [])

-- Mend's stores, from left to right.
unfoldable pub mending : List ℕ → List Store
mending a = each (mend_entry a (depth a)) (2 ^ depth a)

-- The plan of a mend.
unfoldable pub mend : List ℕ → Plan Said
mend a = tested (mend_tests a) (record { due = mending a; reply = done [] })
