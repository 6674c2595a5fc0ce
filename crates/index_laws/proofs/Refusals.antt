-- Refusals 1 to 4, 8 to 10 and 14 to 16 make no store and change no word, on every array. For put: where its tests pass, they pass again
-- after a split, so that 1 to 4 are given before the first store or not at all.
use mathlib.Core.Path.{◌≡◌, refl, sym, ap, ◌∙◌}
use mathlib.Core.Bool.{true}
use mathlib.Core.List.{List, []}
use mathlib.Core.Option.{Option, none, some}
use mathlib.Core.Logic.{◌⊎◌, inl, inr, ⊎_elim}
use Prim.Native.Nat.{ℕ, suc, ◌^◌, ◌≤◌, ◌<◌}
use native.Mathlib.Omega.{arith}
use borrow.Author.Tests.{eqb-true, ne_eqb}
use lib.Dec.{eqb}
use lib.ListN.{length}
use Rattle.stores.specs.Store.{apply}
use Rattle.stores.specs.Plan.{Plan}
use Rattle.stores.proofs.Lists.{some_none}
use Rattle.stores.proofs.Tests.{by_test}
use Rattle.stores.proofs.Stores.{apply_append}
use Rattle.index_rules.specs.Layout.{depth_in, depth, max_depth, segments, entry_address, entry_at, local_depth}
use Rattle.index_rules.specs.Keys.{index}
use Rattle.index_rules.specs.Scan.{leaders_valid, entries_agree}
use Rattle.index_rules.specs.Get.{key_entry, key_segment, key_tests}
use Rattle.index_rules.specs.Split.{doubling, halving, doubling_for, splitting}
use Rattle.index_rules.specs.Put.{directory_tests, put_tests, put}
use Rattle.replies.specs.Replies.{Said, refused, number_of, unless, tested, changed}
use Rattle.replies.specs.declared.Refusal.{Refusal}
use Rattle.index_rules.specs.declared.Call.{Call}
use Rattle.index_rules.specs.declared.Call.TheVariants.{Format, Get, Put, Remove, Merge, Mend, List as ListCall, ListBlock}
use Rattle.index_rules.specs.Format.{format_tests, format}
use Rattle.index_rules.specs.Slots.{hit}
use Rattle.index_rules.specs.Remove.{remove_tests, cleared_at, remove}
use Rattle.index_rules.specs.Merge.{merge_tests, merge}
use Rattle.index_rules.specs.Mend.{mend_tests, mend}
use Rattle.index_rules.specs.Step.{Effect, changes, answers, effect, carried_out, step}
use Rattle.index_laws.specs.Limits.{due_by, Unchanged}
use Rattle.replies.proofs.Outcomes.{Complete, CutShort, changed_cases, refused_not_done, refused_inj}
use Rattle.index_laws.proofs.Words.{ValidHeader, header_valid, small, entry_inside}
use Rattle.index_laws.proofs.Keys.{index_lt}
use Rattle.index_laws.proofs.Blocks.{Blocks, consistent_blocks, blocks_valid, blocks_agree, doubled_blocks, halved_directory, place, halved_blocks}
use Rattle.index_laws.proofs.Doubling.{Doubled, after_doubling, entry_of_key}
use Rattle.index_laws.proofs.Updating.{all_made}
use Rattle.index_laws.proofs.Halving.{key_copies, key_updates, halving_parts, copies_elsewhere, copies_room, after_halving}
use Rattle.index_laws.proofs.Split.{Splittable, Ready, ready, AfterSplit, after_split}
use Rattle.index_laws.proofs.Put.{Passed, tests_consistent, tests_number, put_refused, Cases, put_induction}

-- ---- A directory after a split is consistent

-- Only the entries below 2^g count.
blocks_same : {g S : ℕ} {f : ℕ → ℕ} (h : ℕ → ℕ) → Blocks g S f → ((i : ℕ) → i < 2 ^ g → h i ≡ f i) → Blocks g S h
blocks_same {g} {S} {f} h dir same =
    record {
      depths = λ i k. rw (same i k) (dir.depths i k);
      below = λ i k. rw (same i k) (dir.below i k);
      blocks = λ i j k l e. same j l ∙ dir.blocks i j k l (rw (same i k) at e) ∙ sym (same i k);
    }

-- Steps 3 and 4 leave the directory halved at the key's index.
module _ (c : List ℕ) (key n : ℕ) (v : ValidHeader c) (new : n < segments c) (dir : Blocks (depth c) (segments c) (entry_at c (depth c)))
    (room : local_depth (key_entry c key) < depth c) where
  abbrev g : ℕ
  g = depth c

  abbrev f : ℕ → ℕ
  f = entry_at c (depth c)

  abbrev i : ℕ
  i = index key (depth c)

  own : key_entry c key ≡ f i
  own = entry_of_key c key (depth c) refl

  abbrev b : List ℕ
  b = apply (halving c key n) c

  own_room : local_depth (f i) < g
  own_room = rw own at room

  fits : segments c < 2 ^ 32
  fits = (small v).segments_32

  halved_entries : (j : ℕ) → j < 2 ^ g → entry_at b g j ≡ halved_directory g f i n j
  halved_entries j h =
      let made =
      all_made g f i n own_room (apply (key_copies c key n) c) j (copies_room c key n v new j h)
      (copies_elsewhere c key n v new (entry_address g j) (entry_inside (max_depth c) g j v.present h))
      (place dir fits i (index_lt key g) own_room n new j) in
      rw (halving_parts c key n, apply_append (key_copies c key n) (key_updates c key n) c) (rw (← own) at made)

  after_halving_blocks : Blocks g (segments c) (entry_at b g)
  after_halving_blocks =
      blocks_same (entry_at b g) (halved_blocks dir fits i (index_lt key g) own_room n new) halved_entries

-- ---- The tests of put pass again

module _ (a : List ℕ) (key n : ℕ) (ok : Passed a key) (s : Splittable a key n) where
  dir_before : Blocks (depth a) (segments a) (entry_at a (depth a))
  dir_before = let c = tests_consistent a key ok.tests in consistent_blocks a (depth a) (segments a) c.0 c.1

  at_hand : Ready a key (apply (doubling_for a key) a)
  at_hand = ready a key s.valid s.local_low s.local_room

  -- After any doubling the directory is consistent.
  pub dir_ready : Blocks (depth (apply (doubling_for a key) a)) (segments a) (entry_at (apply (doubling_for a key) a) (depth (apply (doubling_for a key) a)))
  unfolding doubling_for apply
  dir_ready =
      by_test (eqb (local_depth (key_entry a key)) (depth a))
      (λ t.
      let room : depth a < max_depth a = rw (eqb-true (local_depth (key_entry a key)) (depth a) t) at s.local_room in
      let d : Doubled a (apply (doubling a) a) = after_doubling a s.valid room in
      rw (t, d.depth_rises)
      (blocks_same (entry_at (apply (doubling a) a) (suc (depth a))) (doubled_blocks dir_before) d.entries))
      (λ t. rw t dir_before)

  -- After the whole split too.
  dir_after : Blocks (depth (apply (splitting a key n) a)) (segments a) (entry_at (apply (splitting a key n) a) (depth (apply (splitting a key n) a)))
  unfolding splitting
  dir_after =
      let c : List ℕ = apply (doubling_for a key) a in
      let r = at_hand in
      let new : n < segments c = rw r.segments_kept s.new_below in
      let room : local_depth (key_entry c key) < depth c = rw r.key_entry_holds r.local_room in
      let whole = apply_append (doubling_for a key) (halving (apply (doubling_for a key) a) key n) a in
      let here : Blocks (depth c) (segments c) (entry_at c (depth c)) = rw r.segments_kept dir_ready in
      let same_depth : depth (apply (halving c key n) c) ≡ depth c = ap depth_in (after_halving c key n r.valid new room).word_0 in
      rw (whole, same_depth, ← r.segments_kept) (after_halving_blocks c key n r.valid new here room)

  pub tests_again : put_tests (apply (splitting a key n) a) key ≡ none
  unfolding put_tests key_tests directory_tests unless
  tests_again =
      let b : List ℕ = apply (splitting a key n) a in
      let k : AfterSplit a key n b = after_split a key n s in
      let valid : leaders_valid b (depth b) (segments b) ≡ true =
      rw k.segments_kept (blocks_valid b (depth b) (segments a) (entry_at b (depth b)) dir_after (λ i h e. refl))
      in
      let agree : entries_agree b (depth b) ≡ true =
      blocks_agree b (depth b) (segments a) (entry_at b (depth b)) dir_after (λ i h e. refl) (λ i h. refl)
      in
      rw (header_valid k.valid, ne_eqb key 0 ok.nonzero, valid, agree)

-- ---- What a put says where its tests pass

-- Where the tests pass, a put does not say 1 to 4.
abbrev NotEarly : ℕ → List ℕ → Plan Said → Type 0
NotEarly key a p = put_tests a key ≡ none → (n : ℕ) → p.reply ≡ refused n → 4 < n

not_early : (key value : ℕ) → Cases key value (NotEarly key)
not_early key value =
    record {
      when_refused = λ a r e ok n says. absurd (some_none r (sym e ∙ ok));
      when_found = λ a j ok c t n says. absurd (refused_not_done n [] (sym says));
      when_into = λ a j ok c t n says. absurd (refused_not_done n [] (sym says));
      when_deep = λ a ok c d t n says. let e : 5 ≡ n = refused_inj says in omega arith;
      when_none = λ a ok c d f t n says. let e : 6 ≡ n = refused_inj says in omega arith;
      when_split = λ a n ok c f s again t k says. again (tests_again a key n ok s) k says;
    }

-- A put that says 1 to 4 stores nothing.
pub put_early : (a : List ℕ) (key value n : ℕ) → (put a key value).reply ≡ refused n → n ≤ 4 → (put a key value).due ≡ []
put_early a key value n says early = go (put_tests a key) refl
  where
    go : (t : Option Refusal) → put_tests a key ≡ t → (put a key value).due ≡ []
    go none e = let late : 4 < n = put_induction key value (NotEarly key) (not_early key value) a e n says in absurd (omega arith)
    go (some r) e = ap (λ (p : Plan Said). p.due) (put_refused a key value r e)

-- ---- Every call

-- A call whose plan has no store where it says n.
unchanged_by : (allowance : ℕ) (p : Plan Said) (a : List ℕ) (n : ℕ) → (changed allowance p a).reply ≡ refused n → (n ≡ 7 → ⊥)
    → (p.reply ≡ refused n → p.due ≡ []) → Unchanged a (changed allowance p a)
unfolding apply
unchanged_by allowance p a n says not_cut empty =
    ⊎_elim
    (λ (c : Complete p a (changed allowance p a)).
    let nothing : p.due ≡ [] = empty (sym c.reply ∙ says) in
    record { after = c.after ∙ rw nothing; made = c.made ∙ rw nothing })
    (λ (c : CutShort allowance p a (changed allowance p a)). absurd (not_cut (refused_inj (sym says ∙ c.reply))))
    (changed_cases allowance p a)

-- A plan behind tests that says no refusal of its own.
tested_empty : (t : Option Refusal) (p : Plan Said) (n : ℕ) → (p.reply ≡ refused n → ⊥) → (tested t p).reply ≡ refused n → (tested t p).due ≡ []
unfolding tested
tested_empty none p n other says = absurd (other says)
tested_empty (some r) p n other says = refl

cleared_no_refusal : (base : ℕ) (h : Option ℕ) (n : ℕ) → (cleared_at base h).reply ≡ refused n → ⊥
unfolding cleared_at
cleared_no_refusal base none n e = let z : ◌≡◌ {A = ℕ} 0 1 = cc in omega arith
cleared_no_refusal base (some j) n e = refused_not_done n [] (sym e)

not_seven : (n : ℕ) → (n ≤ 4) ⊎ (8 ≤ n) → n ≡ 7 → ⊥
not_seven n (inl h) e = omega arith
not_seven n (inr h) e = omega arith

-- A put says nothing above 6.
put_says : (a : List ℕ) (key value n : ℕ) → (put a key value).reply ≡ refused n → n ≤ 6
put_says a key value n says = put_induction key value (λ a p. (n : ℕ) → p.reply ≡ refused n → n ≤ 6) late a n says
  where
    late : Cases key value (λ a p. (n : ℕ) → p.reply ≡ refused n → n ≤ 6)
    late =
        record {
          when_refused = λ a r e n says. let q : number_of r ≡ n = refused_inj says in omega (arith, tests_number a key r e);
          when_found = λ a j ok c n says. absurd (refused_not_done n [] (sym says));
          when_into = λ a j ok c n says. absurd (refused_not_done n [] (sym says));
          when_deep = λ a ok c d n says. let e : 5 ≡ n = refused_inj says in omega arith;
          when_none = λ a ok c d f n says. let e : 6 ≡ n = refused_inj says in omega arith;
          when_split = λ a m ok c f s again n says. again n says;
        }

put_empty : (a : List ℕ) (key value n : ℕ) → (n ≤ 4) ⊎ (8 ≤ n) → (put a key value).reply ≡ refused n → (put a key value).due ≡ []
put_empty a key value n (inl h) says = put_early a key value n says h
put_empty a key value n (inr h) says = absurd (omega (arith, put_says a key value n says))

-- What a call says where none of its stores are made.
abbrev pub reply_by : Effect → Said
reply_by (changes allowance p) = p.reply
reply_by (answers w) = w.reply

-- An effect that stores nothing where it says n.
unchanged_carried : (e : Effect) (a : List ℕ) (n : ℕ) → (carried_out e a).reply ≡ refused n → (n ≡ 7 → ⊥)
    → (reply_by e ≡ refused n → due_by e ≡ []) → Unchanged a (carried_out e a)
unchanged_carried (changes allowance p) a n says not_cut empty = unchanged_by allowance p a n says not_cut empty
unchanged_carried (answers w) a n e not_cut empty = record { after = refl; made = refl }

-- A call that is refused by another refusal than 5, 6 and 7 has no store due.
pub refusal_empty : (a : List ℕ) (room : ℕ) (c : Call) (n : ℕ) → (n ≤ 4) ⊎ (8 ≤ n) → reply_by (effect a room c) ≡ refused n
    → due_by (effect a room c) ≡ []
unfolding effect format remove merge mend
refusal_empty a room (Format D S allowance) n which = tested_empty (format_tests a D S) _ n (λ e. refused_not_done n [] (sym e))
refusal_empty a room (Get key) n which = λ e. refl
refusal_empty a room (Put key value allowance) n which = put_empty a key value n which
refusal_empty a room (Remove key allowance) n which =
    tested_empty (remove_tests a key) _ n (cleared_no_refusal (key_segment a key) (hit a (key_segment a key) key) n)
refusal_empty a room (Merge key allowance) n which = tested_empty (merge_tests a key) _ n (λ e. refused_not_done n [] (sym e))
refusal_empty a room (Mend allowance) n which = tested_empty (mend_tests a) _ n (λ e. refused_not_done n [] (sym e))
refusal_empty a room ListCall n which = λ e. refl
refusal_empty a room (ListBlock i) n which = λ e. refl

-- A refusal other than 5, 6 and 7 makes no store and changes no word.
pub refusal_unchanged : (a l : List ℕ) (c : Call) (n : ℕ) → (step a l c).outcome.reply ≡ refused n → (n ≤ 4) ⊎ (8 ≤ n)
    → Unchanged a (step a l c).outcome
unfolding step
refusal_unchanged a l c n says which =
    unchanged_carried (effect a (length l) c) a n says (not_seven n which) (refusal_empty a (length l) c n which)
