-- A pass over the directory, index by index: the block that it is in, and the leader of each index.
use mathlib.Core.Path.{◌≡◌, refl, sym, ◌∙◌}
use mathlib.Core.Bool.{Bool, true, false, ◌&&◌, true≢false}
use mathlib.Core.List.{List}
use mathlib.Core.Option.{none, some}
use Rattle.std.specs.Prelude.{Ok, Err}
use Prim.Native.Nat.{ℕ, ◌+◌, ◌-◌, ◌*◌, ◌%◌, ◌^◌, ◌≤◌, ◌<◌}
use native.Mathlib.Numerals.{add-one}
use native.Mathlib.Omega.{arith}
use borrow.Author.Tests.{ltb-true, ltb-false, eq-eqb}
use lib.Dec.{ltb, eqb}
use lib.ListN.{take, drop, get_or}
use lib.Seq.{get_or-take, get_or-drop}
use Rattle.stores.specs.Lists.{pick, all_below}
use Rattle.stores.proofs.Tests.{by_test, and_true}
use Rattle.replies.specs.declared.Refusal.{Refusal}
use Rattle.replies.specs.declared.Refusal.TheVariants.{Broken, Unmended}
use Rattle.index_rules.specs.Layout.{depth, segments, entry_at, local_depth}
use Rattle.index_rules.specs.Keys.{width}
use Rattle.index_rules.specs.Scan.{valid_leader, leader, leading_entry, leaders_valid, entries_agree}
use Rattle.replies.specs.Replies.{unless}
use Rattle.index_rules.specs.Put.{directory_tests}
use Rattle.index_laws.proofs.Keys.{width_pos}
use Rattle.index_laws.proofs.Scan.{leader_zero, led, next_leads, valid_aligned, valid_at}
use Rattle.index_layout.specs.declared.header.Header.{Header}
use Rattle.index_layout.specs.Headers.{Describes}
use Rattle.index_layout.proofs.Entries.{entry_word}
use Rattle.index_directory.specs.declared.scan.LedBlock.{LedBlock}
use Rattle.index_directory.specs.declared.scan.ScanStep.{ScanStep}
use Rattle.index_directory.specs.Scans.{block_led_by, scan_at}

-- An entry of the present directory, lent as a part of the array.
pub part_entry : {h : Header} {a : List ℕ} (d : Describes h a) (count i : ℕ) → count ≡ 2 ^ h.depth → i < count
    → get_or (take (2 * count - count) (drop count a)) i 0 ≡ entry_at a (depth a) i
part_entry {h} {a} d count i e k =
    get_or-take (2 * count - count) (drop count a) i 0 (omega arith) ∙ get_or-drop count a i 0 ∙ entry_word count i d e

-- A pass has come to index i. The block b of the index before, if there was one, begins at `start`, and ends at i or behind it.
pub record Passing (a : List ℕ) (g S i : ℕ) (b : LedBlock) : Type 0 where
  pub start : ℕ
  pub from : start ≤ i
  pub to : i ≤ b.end
  pub leads : start < b.end → entry_at a g start ≡ b.leading
  pub valid : start < b.end → valid_leader g S start (entry_at a g start) ≡ true
  pub leader_in : (j : ℕ) → start ≤ j → j < b.end → leader a g j ≡ start
  pub leader_behind : leader a g b.end ≡ b.end

-- The pass has found the block b of index i: its leader is valid and its leading entry known.
pub record Found (a : List ℕ) (g S i : ℕ) (b : LedBlock) : Type 0 where
  pub passing : Passing a g S (i + 1) b
  pub leading_is : leading_entry a g i ≡ b.leading
  pub leader_valid : valid_leader g S (leader a g i) (leading_entry a g i) ≡ true

and_unit : (b : Bool) → b && true ≡ b
and_unit true = refl
and_unit false = refl

pub at_start : (a : List ℕ) (g S : ℕ) → Passing a g S 0 (record { leading = 0; end = 0 })
at_start a g S =
    record {
      start = 0;
      from = omega arith;
      to = omega arith;
      leads = λ h. absurd (omega arith);
      valid = λ h. absurd (omega arith);
      leader_in = λ j l h. absurd (omega arith);
      leader_behind = leader_zero a g;
    }

module _ (a : List ℕ) (g S i : ℕ) (b : LedBlock) (p : Passing a g S i b) where
  -- In the block of the index before.
  pub same_block : i < b.end → Found a g S i b
  same_block h =
      let s : ℕ = p.start in
      let f : s ≤ i = p.from in
      let own : leader a g i ≡ s = p.leader_in i f h in
      record {
        passing = record {
          start = s;
          from = omega arith;
          to = omega arith;
          leads = p.leads;
          valid = p.valid;
          leader_in = p.leader_in;
          leader_behind = p.leader_behind;
        };
        leading_is = rw own (p.leads (omega arith));
        leader_valid = rw own (p.valid (omega arith));
      }

  -- Behind that block stands a leader.
  pub leads_itself : b.end ≤ i → leader a g i ≡ i
  leads_itself h =
      let t : i ≤ b.end = p.to in
      let e : b.end ≡ i = omega arith in
      rw e at p.leader_behind

  pub new_block : b.end ≤ i → valid_leader g S i (entry_at a g i) ≡ true → Found a g S i (block_led_by g i (entry_at a g i))
  new_block h v =
      let own : leader a g i ≡ i = leads_itself h in
      let aligned : i % width g (local_depth (entry_at a g i)) ≡ 0 = valid_aligned g S i (entry_at a g i) v in
      record {
        passing = record {
          start = i;
          from = omega arith;
          to = omega (arith, width_pos g (local_depth (entry_at a g i)));
          leads = λ k. refl;
          valid = λ k. v;
          leader_in = λ j l k.
              let here : i + (j - i) ≡ j = omega arith in
              rw here at (led a g i (j - i) own aligned (omega arith));
          leader_behind = next_leads a g i own aligned;
        };
        leading_is = rw own;
        leader_valid = rw own v;
      }

  -- Where a leader is known to be valid, the block that the pass goes on with is that of index i.
  pub block_found : (b.end ≤ i → valid_leader g S i (entry_at a g i) ≡ true)
      → Found a g S i (pick (ltb i b.end) b (block_led_by g i (entry_at a g i)))
  block_found v =
      by_test (ltb i b.end)
      (λ t. rw t (same_block (ltb-true i b.end t)))
      (λ t. let h : b.end ≤ i = ltb-false i b.end t in rw t (new_block h (v h)))

-- A step of the scan goes on in the block of index i. It stops only where that index has a leader that is not valid.
module _ (a : List ℕ) (g S i : ℕ) (s : ScanStep) (p : Passing a g S i s.block) where
  pub step_in : (n : ScanStep) → Ok n ≡ scan_at g S i (entry_at a g i) s
      → Found a g S i n.block × (n.agree ≡ s.agree && eqb (entry_at a g i) n.block.leading)
  unfolding scan_at
  step_in n e =
      by_test (ltb i s.block.end)
      (λ t.
      let q : n ≡ record { block = s.block; agree = s.agree && eqb (entry_at a g i) s.block.leading } = cc (rw t at e) in
      rw q (same_block a g S i s.block p (ltb-true i s.block.end t), refl))
      (λ t.
      by_test (valid_leader g S i (entry_at a g i))
      (λ v.
      let q : n ≡ record { block = block_led_by g i (entry_at a g i); agree = s.agree } = cc (rw (t, v) at e) in
      rw q (
        new_block a g S i s.block p (ltb-false i s.block.end t) v,
        rw (eq-eqb (entry_at a g i) (entry_at a g i) refl) (sym (and_unit s.agree)),
      ))
      (λ v.
      cc (rw (t, v) at e)))

  pub step_stop : (r : Refusal) → Err r ≡ scan_at g S i (entry_at a g i) s
      → (r ≡ Broken) × (valid_leader g S (leader a g i) (leading_entry a g i) ≡ false)
  unfolding scan_at
  step_stop r e =
      by_test (ltb i s.block.end)
      (λ t.
      cc (rw t at e))
      (λ t.
      by_test (valid_leader g S i (entry_at a g i))
      (λ v.
      cc (rw (t, v) at e))
      (λ v. (cc (rw (t, v) at e), rw (leads_itself a g S i s.block p (ltb-false i s.block.end t)) v)))

-- ---- The scan's verdict

-- Of the indices below i every leader is valid, and the flag says whether every entry equals its leader's.
pub record Scanned (a : List ℕ) (g S i : ℕ) (s : ScanStep) : Type 0 where
  pub passing : Passing a g S i s.block
  pub leaders_valid_holds : all_below (λ j. valid_leader g S (leader a g j) (leading_entry a g j)) i ≡ true
  pub agreeing : s.agree ≡ all_below (λ j. eqb (entry_at a g j) (leading_entry a g j)) i

pub scan_start : (a : List ℕ) (g S : ℕ) → Scanned a g S 0 (record { block = record { leading = 0; end = 0 }; agree = true })
unfolding all_below
scan_start a g S = record { passing = at_start a g S; leaders_valid_holds = refl; agreeing = refl }

pub scan_goes_on : (a : List ℕ) (g S i : ℕ) (s n : ScanStep) → Scanned a g S i s
    → Ok n ≡ scan_at g S i (entry_at a g i) s → Scanned a g S (i + 1) n
unfolding all_below
scan_goes_on a g S i s n k e =
    let f = step_in a g S i s k.passing n e in
    record {
      passing = f.0.passing;
      leaders_valid_holds = rw add-one (and_true k.leaders_valid_holds f.0.leader_valid);
      agreeing = f.1 ∙ rw (add-one, k.agreeing, f.0.leading_is);
    }

-- What a step answers at the entry that it reads in the directory.
pub scan_read : {h : Header} {a : List ℕ} (d : Describes h a) (count i : ℕ) → count ≡ 2 ^ h.depth → (s : ScanStep)
    → scan_at h.depth h.segments i (get_or a (count + i) 0) s ≡ scan_at (depth a) (segments a) i (entry_at a (depth a) i) s
scan_read d count i e s = rw (entry_word count i d e, d.depth_read, d.segments_read)

module _ (a : List ℕ) (i : ℕ) (s : ScanStep) (k : Scanned a (depth a) (segments a) i s) where
  -- A leader that is not valid decides.
  pub scan_stops : (r : Refusal) → i < 2 ^ depth a → Err r ≡ scan_at (depth a) (segments a) i (entry_at a (depth a) i) s
      → some r ≡ directory_tests a none
  unfolding directory_tests unless
  scan_stops r h e =
      let p = step_stop a (depth a) (segments a) i s k.passing r e in
      by_test (leaders_valid a (depth a) (segments a))
      (λ t. absurd (true≢false (sym (valid_at a (depth a) (segments a) i t h) ∙ p.1)))
      (λ t. rw (t, p.0))

  module _ (end : i ≡ 2 ^ depth a) where
    pub all_valid : leaders_valid a (depth a) (segments a) ≡ true
    unfolding leaders_valid
    all_valid = rw end at k.leaders_valid_holds

    all_agree_holds : s.agree ≡ entries_agree a (depth a)
    unfolding entries_agree
    all_agree_holds = rw end at k.agreeing

    pub ends_consistent : s.agree ≡ true → none ≡ directory_tests a none
    unfolding directory_tests unless
    ends_consistent e = rw (all_valid, sym all_agree_holds ∙ e)

    pub ends_unmended : s.agree ≡ false → some Unmended ≡ directory_tests a none
    unfolding directory_tests unless
    ends_unmended e = rw (all_valid, sym all_agree_holds ∙ e)
