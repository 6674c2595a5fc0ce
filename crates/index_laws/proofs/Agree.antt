-- Two arrays that agree in the words that D and S take: what is read of them is the same.
use mathlib.Core.Path.{◌≡◌, refl, sym, ap, ap₂, ◌∙◌}
use mathlib.Core.Bool.{Bool, true, false}
use mathlib.Core.List.{List}
use mathlib.Core.Option.{Option, none, some}
use Prim.Native.Nat.{ℕ, zero, suc, ◌+◌, ◌^◌, ◌≤◌, ◌<◌}
use native.Mathlib.Omega.{arith}
use lib.Dec.{eqb}
use lib.ListN.{set}
use lib.Pow.{pow_pos}
use Rattle.stores.specs.Lists.{pick, each}
use Rattle.stores.specs.Store.{Store, word, apply}
use Rattle.stores.specs.Plan.{Plan}
use Rattle.stores.proofs.Tests.{by_test}
use Rattle.stores.proofs.Lists.{each_same, all_same}
use Rattle.stores.proofs.Stores.{length_apply, word_set_other, apply_same}
use Rattle.replies.specs.declared.Refusal.{Refusal}
use Rattle.index_rules.specs.Layout.{depth, max_depth, segments, words_for, valid_header, entry_address, entry_at, segment_address, key_address, value_address, key_at, value_at}
use Rattle.index_rules.specs.Keys.{index}
use Rattle.index_rules.specs.Scan.{valid_leader, next_leader, leader, leading_entry, leaders_valid, entries_agree}
use Rattle.index_rules.specs.Slots.{hit, choose}
use Rattle.replies.specs.Replies.{Said, unless, tested, replied}
use Rattle.replies.specs.Writing.{Writing, behind_tests}
use Rattle.index_rules.specs.Get.{key_entry, key_segment, value_at_hit}
use Rattle.index_rules.specs.Split.{moves, copy_slot, copying}
use Rattle.index_rules.specs.Mend.{mend_entry}
use Rattle.index_rules.specs.Listing.{live_record}
use Rattle.index_laws.specs.Limits.{Agree}
use Rattle.index_laws.proofs.Words.{entry_inside, directories_below}
use Rattle.index_laws.proofs.Keys.{index_lt}
use Rattle.index_laws.proofs.Slots.{hit_same, choose_same}
use Rattle.index_laws.proofs.Scan.{leader_le}
use Rattle.index_laws.proofs.Range.{hit_slot}

-- ---- Tests and picks

-- Tests are the same where each is the same once those before it have passed.
pub unless_same : {t u : Bool} (r : Refusal) {o p : Option Refusal} → t ≡ u → (t ≡ true → o ≡ p) → unless t r o ≡ unless u r p
unfolding unless
unless_same {t} {u} r {o} {p} e h =
    rw (← e)
    (by_test t (λ k. rw (k, h k)) (λ k. rw k))

-- What stands behind tests is the same where the tests are, and where it is the same once they have passed.
pub behind_same : {X : Type 0} (f : Option Refusal → X → X) → ((r : Refusal) (x y : X) → f (some r) x ≡ f (some r) y)
    → {o p : Option Refusal} {x y : X} → o ≡ p → (o ≡ none → x ≡ y) → f o x ≡ f p y
behind_same {X} f c {o} {p} {x} {y} e h = rw (← e) (go o refl)
  where
    go : (q : Option Refusal) → o ≡ q → f q x ≡ f q y
    go none k = ap (f none) (h k)
    go (some r) k = c r x y

pub tested_same : {o p : Option Refusal} {x y : Plan Said} → o ≡ p → (o ≡ none → x ≡ y) → tested o x ≡ tested p y
unfolding tested
tested_same = behind_same tested (λ r x y. refl)

pub replied_same : {o p : Option Refusal} {x y : Said} → o ≡ p → (o ≡ none → x ≡ y) → replied o x ≡ replied p y
unfolding replied
replied_same = behind_same replied (λ r x y. refl)

pub writing_same : {o p : Option Refusal} {x y : Writing} → o ≡ p → (o ≡ none → x ≡ y) → behind_tests o x ≡ behind_tests p y
unfolding behind_tests
writing_same = behind_same behind_tests (λ r x y. refl)

pub pick_same : {A : Type 0} (t : Bool) (x y z : A) → (t ≡ true → x ≡ y) → pick t x z ≡ pick t y z
pick_same true x y z h = h refl
pick_same false x y z h = refl

-- ---- Arrays that agree

-- After the same stores they agree again, where the stores keep D and S.
pub agree_after : (a b : List ℕ) (ss : List Store) → Agree a b
    → max_depth (apply ss a) ≡ max_depth a → segments (apply ss a) ≡ segments a → Agree (apply ss a) (apply ss b)
agree_after a b ss s d n =
    record {
      length_same = length_apply ss a ∙ s.length_same ∙ sym (length_apply ss b);
      words_same = λ i h. apply_same ss a b i s.length_same (s.words_same i (rw (d, n) at h));
    }

-- Two arrays have the same word 0 and the same entries, in every directory of a depth up to D of the first.
pub record SameFront (a b : List ℕ) : Type 0 where
  pub words_same : (i : ℕ) → i < 2 ^ suc (max_depth a) → word a i ≡ word b i

pub front_itself : (a : List ℕ) → SameFront a a
front_itself a = record { words_same = λ i h. refl }

module _ {a b : List ℕ} (s : SameFront a b) where
  pub front_word_0 : word a 0 ≡ word b 0
  front_word_0 = s.words_same 0 (pow_pos (suc (max_depth a)))

  pub front_entry : (g : ℕ) → g ≤ max_depth a → (i : ℕ) → i < 2 ^ g → entry_at a g i ≡ entry_at b g i
  front_entry g low i h = s.words_same (entry_address g i) (entry_inside (max_depth a) g i low h)

  pub front_key_entry : depth a ≤ max_depth a → (key : ℕ) → key_entry a key ≡ key_entry b key
  unfolding key_entry
  front_key_entry low key = front_entry (depth a) low (index key (depth a)) (index_lt key (depth a)) ∙ rw front_word_0

  pub front_key_segment : depth a ≤ max_depth a → (key : ℕ) → key_segment a key ≡ key_segment b key
  unfolding key_segment
  front_key_segment low key = rw (front_key_entry low key, front_word_0)

  -- A store behind the directories leaves them as they are.
  pub front_store : (i v : ℕ) → 2 ^ suc (max_depth a) ≤ i → SameFront a (set b i v)
  front_store i v h =
      record { words_same = λ j k. s.words_same j k ∙ sym (word_set_other b i j v (λ e. omega arith)) }

pub agree_front : {a b : List ℕ} → Agree a b → SameFront a b
agree_front {a} {b} s = record { words_same = λ i h. s.words_same i (omega (arith, directories_below (max_depth a) (segments a))) }

-- A segment below S ends within the words that D and S take.
pub segment_ends : (D S n : ℕ) → n < S → segment_address D n + 128 ≤ words_for D S
unfolding segment_address words_for
segment_ends D S n h = omega arith

module _ {a b : List ℕ} (s : Agree a b) where
  -- Word 0 agrees, and with it G, D and S.
  pub word_0_same : word a 0 ≡ word b 0
  word_0_same = front_word_0 (agree_front s)

  pub header_same : valid_header a ≡ valid_header b
  unfolding valid_header
  header_same = rw (word_0_same, s.length_same)

  -- The records of a segment below S agree.
  module _ (base : ℕ) (fits : base + 128 ≤ words_for (max_depth a) (segments a)) where
    pub key_same : (j : ℕ) → j < 64 → key_at a base j ≡ key_at b base j
    key_same j h = s.words_same (key_address base j) (omega arith)

    pub value_same : (j : ℕ) → j < 64 → value_at a base j ≡ value_at b base j
    value_same j h = s.words_same (value_address base j) (omega arith)

    pub hit_local : (key : ℕ) → hit a base key ≡ hit b base key
    hit_local key = hit_same a b base base key_same key

    pub choose_local : (L bits key : ℕ) → choose a base L bits key ≡ choose b base L bits key
    choose_local L bits key = choose_same a b base base key_same key L bits

    pub value_hit_same : (key : ℕ) → value_at_hit a base (hit a base key) ≡ value_at_hit b base (hit b base key)
    unfolding value_at_hit
    value_hit_same key = rw (← hit_local key) (go (hit a base key) refl)
      where
        go : (o : Option ℕ) → hit a base key ≡ o → value_at_hit a base o ≡ value_at_hit b base o
        go none e = refl
        go (some j) e = rw (value_same j (hit_slot a base key j e))

    pub copying_same : (to L bits : ℕ) → copying a base to L bits ≡ copying b base to L bits
    unfolding copying copy_slot moves
    copying_same to L bits =
        each_same (copy_slot a base to L bits) (copy_slot b base to L bits) 64
        (λ j h. rw (key_same j h, value_same j h))

    pub live_records_same : (L bits : ℕ) → each (live_record a base L bits) 64 ≡ each (live_record b base L bits) 64
    unfolding live_record
    live_records_same L bits =
        each_same (live_record a base L bits) (live_record b base L bits) 64
        (λ j h. rw (key_same j h, value_same j h))

  -- A directory of a depth of at most D agrees.
  module _ (g : ℕ) (low : g ≤ max_depth a) where
    pub entry_same : (i : ℕ) → i < 2 ^ g → entry_at a g i ≡ entry_at b g i
    entry_same = front_entry (agree_front s) g low

    pub leader_local : (i : ℕ) → i < 2 ^ g → leader a g i ≡ leader b g i
    unfolding leader next_leader
    leader_local zero h = refl
    leader_local (suc i) h =
        let before : leader a g i ≡ leader b g i = leader_local i (omega arith) in
        let there : entry_at a g (leader b g i) ≡ entry_at b g (leader b g i) =
        entry_same (leader b g i) (omega (arith, leader_le b g i)) in
        rw (before, there)

    pub leading_same : (i : ℕ) → i < 2 ^ g → leading_entry a g i ≡ leading_entry b g i
    leading_same i h =
        rw (← leader_local i h) (entry_same (leader a g i) (omega (arith, leader_le a g i)))

    pub leaders_same : (S : ℕ) → leaders_valid a g S ≡ leaders_valid b g S
    unfolding leaders_valid
    leaders_same S =
        all_same (λ i. valid_leader g S (leader a g i) (leading_entry a g i)) (λ i. valid_leader g S (leader b g i) (leading_entry b g i)) (2 ^ g)
        (λ i h. ap₂ (valid_leader g S) (leader_local i h) (leading_same i h))

    pub entries_same : entries_agree a g ≡ entries_agree b g
    unfolding entries_agree
    entries_same =
        all_same (λ i. eqb (entry_at a g i) (leading_entry a g i)) (λ i. eqb (entry_at b g i) (leading_entry b g i)) (2 ^ g)
        (λ i h. ap₂ eqb (entry_same i h) (leading_same i h))

    pub mend_entry_same : (i : ℕ) → i < 2 ^ g → mend_entry a g i ≡ mend_entry b g i
    unfolding mend_entry
    mend_entry_same i h = rw (entry_same i h, leading_same i h)
