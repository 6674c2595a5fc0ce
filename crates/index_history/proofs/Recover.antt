-- Under the invariant the scan of the directory finds the blocks of f: every leader is valid and stands for f's entry. So the
-- tests of the calls pass.
use mathlib.Core.Path.{◌≡◌, ◌∙◌}
use mathlib.Core.Bool.{true}
use mathlib.Core.List.{List}
use mathlib.Core.Option.{Option, none}
use Prim.Native.Nat.{ℕ, ◌^◌, ◌<◌}
use borrow.Author.Tests.{ne_eqb}
use Rattle.replies.specs.declared.Refusal.{Refusal}
use Rattle.index_rules.specs.Layout.{depth, entry_at, segment_of, local_depth, segment_address}
use Rattle.index_rules.specs.Keys.{index, block_start}
use Rattle.index_rules.specs.Scan.{leader, leading_entry, leaders_valid, entries_agree}
use Rattle.replies.specs.Replies.{unless}
use Rattle.index_rules.specs.Get.{key_entry, key_segment, key_tests, entry_tests, get_tests}
use Rattle.index_rules.specs.Put.{directory_tests, put_tests}
use Rattle.index_rules.specs.Remove.{remove_tests}
use Rattle.index_rules.specs.Mend.{mend_tests}
use Rattle.index_laws.proofs.Words.{header_valid}
use Rattle.index_laws.proofs.Keys.{index_lt}
use Rattle.index_laws.proofs.Blocks.{blocks_leader, blocks_leading, blocks_valid, blocks_agree}
use Rattle.index_laws.proofs.Scan.{in_range_holds, agree_at}
use Rattle.runs.specs.Map.{Map}
use Rattle.index_history.proofs.Invariant.{Inv, Recovered, shape_depth, shape_max_depth, shape_segments, shape_valid}

module _ {m : Map} {g d S : ℕ} {f : ℕ → ℕ} {a : List ℕ} (inv : Inv m g d S f a) where
  -- ---- The scan

  -- The scan's leader of index i is the first index of its block in f, and stands for f's entry.
  pub inv_leader : (i : ℕ) → i < 2 ^ g → leader a g i ≡ block_start g (local_depth (f i)) i
  inv_leader = blocks_leader a g S f inv.directory.entries inv.leaders_agree

  pub inv_leading : (i : ℕ) → i < 2 ^ g → leading_entry a g i ≡ f i
  inv_leading = blocks_leading a g S f inv.directory.entries inv.leaders_agree

  pub inv_leaders_valid : leaders_valid a g S ≡ true
  inv_leaders_valid = blocks_valid a g S f inv.directory.entries inv.leaders_agree

  pub recovered_agree : Recovered g f a → entries_agree a g ≡ true
  recovered_agree = blocks_agree a g S f inv.directory.entries inv.leaders_agree

  -- Where each entry equals its leader, all are f's.
  pub entries_recovered : entries_agree a (depth a) ≡ true → Recovered g f a
  entries_recovered agree i h =
      agree_at a g i (rw (shape_depth inv.shape) at agree) h ∙ inv_leading i h

  -- ---- The key's own entry, and the tests

  pub inv_key_entry : (key : ℕ) → key_entry a key ≡ entry_at a g (index key g)
  unfolding key_entry
  inv_key_entry key = rw (shape_depth inv.shape)

  pub inv_key_segment : (key : ℕ) → key_segment a key ≡ segment_address d (segment_of (entry_at a g (index key g)))
  unfolding key_segment
  inv_key_segment key = rw (shape_max_depth inv.shape, inv_key_entry key)

  pub inv_key_tests : (key : ℕ) (later : Option Refusal) → (key ≡ 0 → ⊥) → key_tests a key later ≡ later
  unfolding key_tests unless
  inv_key_tests key later nonzero = rw (header_valid (shape_valid inv.shape), ne_eqb key 0 nonzero)

  pub inv_get_tests : (key : ℕ) → (key ≡ 0 → ⊥) → get_tests a key ≡ none
  unfolding entry_tests get_tests unless
  inv_get_tests key nonzero =
      let l = inv.lookups_agree (index key g) (index_lt key g) in
      rw (
        inv_key_tests key _ nonzero,
        inv_key_entry key,
        shape_depth inv.shape,
        shape_segments inv.shape,
        in_range_holds g S (entry_at a g (index key g)) l.depth_fits l.segment_fits,
      )

  pub inv_directory_tests : (later : Option Refusal) → Recovered g f a → directory_tests a later ≡ later
  unfolding directory_tests unless
  inv_directory_tests later same =
      rw (shape_depth inv.shape, shape_segments inv.shape, inv_leaders_valid, recovered_agree same)

  pub inv_put_tests : (key : ℕ) → (key ≡ 0 → ⊥) → Recovered g f a → put_tests a key ≡ none
  unfolding put_tests
  inv_put_tests key nonzero same = inv_key_tests key _ nonzero ∙ inv_directory_tests none same

  pub inv_remove_tests : (key : ℕ) → (key ≡ 0 → ⊥) → Recovered g f a → remove_tests a key ≡ none
  unfolding remove_tests
  inv_remove_tests key nonzero same = inv_key_tests key _ nonzero ∙ inv_directory_tests none same

  pub inv_mend_tests : mend_tests a ≡ none
  unfolding mend_tests unless
  inv_mend_tests =
      rw (header_valid (shape_valid inv.shape), shape_depth inv.shape, shape_segments inv.shape, inv_leaders_valid)
