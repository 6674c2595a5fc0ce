-- Mending to completion, on an array that has all words of another one but for entries, and where blocks begin its entries too: it leaves
-- that other array, whose directory is consistent.
use mathlib.Core.Path.{◌≡◌, refl, sym, ap, ◌∙◌}
use mathlib.Core.List.{List, [], ◌∷◌, ◌++◌}
use mathlib.Core.Option.{Option, none, some}
use mathlib.Core.Logic.{⊎_elim}
use Prim.Native.Nat.{ℕ, suc, ◌+◌, ◌-◌, ◌^◌, ◌≤◌, ◌<◌}
use native.Mathlib.Nat.{le_refl}
use native.Mathlib.Omega.{arith}
use lib.ListN.{length}
use lib.Seq.{ext_get_or, take-nil}
use lib.Pow.{pow_pos}
use Rattle.stores.specs.Store.{Store, word, apply, exec}
use Rattle.stores.proofs.Tests.{by_less, by_at_most}
use Rattle.stores.proofs.Stores.{exec_all, exec_append, exec_not_made}
use Rattle.replies.specs.declared.Refusal.{Refusal}
use Rattle.replies.specs.Replies.{done, tested, changed}
use Rattle.replies.proofs.Outcomes.{Complete, CutShort, changed_cases, refused_not_done, changed_after, tested_none, tests_passed}
use Rattle.index_rules.specs.declared.Call.TheVariants.{Mend}
use Rattle.index_rules.specs.Layout.{depth_in, segments_in, valid_header, depth, segments, entry_address, entry_at, local_depth}
use Rattle.index_rules.specs.Keys.{block_start}
use Rattle.index_rules.specs.Mend.{mend_tests, mending, mend}
use Rattle.index_rules.specs.Step.{effect, step, outcome_of}
use Rattle.index_laws.specs.Finished.{mended_by, MendedTo}
use Rattle.index_laws.proofs.Words.{ValidHeader, header_valid}
use Rattle.index_laws.proofs.Blocks.{Blocks}
use Rattle.index_laws.proofs.Doubling.{DirectoryWord}
use Rattle.index_laws.proofs.Mending.{Mendable, mending_partly, mended_entries, mend_is_done}

-- ---- Some of the stores of a list in two parts: of the first part alone, or all of it and of the second

pub exec_front : (ss tt : List Store) (n : ℕ) (a : List ℕ) → n ≤ length ss → exec (ss ++ tt) n a ≡ exec ss n a
exec_front ss tt n a h = exec_append ss tt n a ∙ exec_not_made tt (n - length ss) (exec ss n a) (omega arith)

pub exec_behind : (ss tt : List Store) (n : ℕ) (a : List ℕ) → length ss ≤ n → exec (ss ++ tt) n a ≡ exec tt (n - length ss) (apply ss a)
exec_behind ss tt n a h = exec_append ss tt n a ∙ ap (exec tt (n - length ss)) (exec_all ss n a h)

-- ---- One mend

-- What holds of an array and of what any number of a mend's stores leave of it, holds behind the mend, refused or not.
mend_leaves : (P : List ℕ → Type 0) (a : List ℕ) (n : ℕ) → P a → P (exec (mending a) n a) → P (outcome_of a (Mend n)).after
unfolding effect step mend tested exec apply
mend_leaves P a n h k = rw (changed_after n (mend a) a) (go (mend_tests a))
  where
    go : (t : Option Refusal) → P (exec (tested t (record { due = mending a; reply = done [] })).due n a)
    go none = k
    go (some r) = rw (take-nil {A = Store} n) h

-- A done mend has made all its stores.
mend_done : (a : List ℕ) (n : ℕ) → (outcome_of a (Mend n)).reply ≡ done [] → (outcome_of a (Mend n)).after ≡ apply (mending a) a
unfolding effect step mend
mend_done a n says =
    ⊎_elim
    (λ (c : Complete (mend a) a (changed n (mend a) a)).
    let passed : mend_tests a ≡ none = tests_passed (mend_tests a) _ [] (sym c.reply ∙ says) in
    c.after ∙ rw (passed, tested_none))
    (λ (c : CutShort n (mend a) a (changed n (mend a) a)). absurd (refused_not_done 7 [] (sym c.reply ∙ says)))
    (changed_cases n (mend a) a)

-- What every mend keeps, mends one after another keep.
mends_keep : (P : List ℕ → Type 0) → ((x : ℕ) (a : List ℕ) → P a → P (outcome_of a (Mend x)).after) → (ns a : List ℕ) → P a → P (mended_by ns a)
unfolding mended_by
mends_keep P keep [] a h = h
mends_keep P keep (n ∷ ns) a h = mends_keep P keep ns (outcome_of a (Mend n)).after (keep n a h)

-- ---- Words by their place

-- A word is an entry of the directory of depth g, or none.
by_word : (g x : ℕ) (P : ℕ → Type 0) → ((DirectoryWord g x → ⊥) → P x) → ((i : ℕ) → i < 2 ^ g → P (entry_address g i)) → P x
unfolding entry_address
by_word g x P outside inside =
    by_at_most (2 ^ g) x
    (λ from.
    by_less x (2 ^ suc g)
    (λ to.
    let place : 2 ^ g + (x - 2 ^ g) ≡ x = omega arith in
    rw place at (inside (x - 2 ^ g) (omega arith)))
    (λ u. outside (λ w. omega (arith, w.to, u))))
    (λ l. outside (λ w. omega (arith, w.from, l)))

-- Word 0 is no entry.
pub not_word_0 : (g : ℕ) → DirectoryWord g 0 → ⊥
not_word_0 g w = omega (arith, w.from, pow_pos g)

-- ---- Towards an array with a consistent directory

-- All entries of c are those of the consistent directory f, of depth g.
pub record Settled (g S : ℕ) (f : ℕ → ℕ) (c : List ℕ) : Type 0 where
  pub dir : Blocks g S f
  pub entries : (j : ℕ) → j < 2 ^ g → entry_at c g j ≡ f j
  pub deep : depth c ≡ g
  pub room : 2 ^ suc g ≤ length c

-- The array x has c's words but for entries, and where f's blocks begin these too.
pub record Toward (g : ℕ) (f : ℕ → ℕ) (c x : List ℕ) : Type 0 where
  pub length_same : length x ≡ length c
  pub begins : (j : ℕ) → j < 2 ^ g → block_start g (local_depth (f j)) j ≡ j → entry_at x g j ≡ f j
  pub elsewhere : (y : ℕ) → (DirectoryWord g y → ⊥) → word x y ≡ word c y

module _ {g S : ℕ} {f : ℕ → ℕ} {c : List ℕ} (s : Settled g S f c) where
  pub toward_itself : Toward g f c c
  toward_itself = record { length_same = refl; begins = λ j h b. s.entries j h; elsewhere = λ y other. refl }

  module _ {x : List ℕ} (t : Toward g f c x) where
    toward_word_0 : word x 0 ≡ word c 0
    toward_word_0 = t.elsewhere 0 (not_word_0 g)

    toward_mendable : Mendable g S f x
    toward_mendable =
        record { dir = s.dir; begins = t.begins; deep = ap depth_in toward_word_0 ∙ s.deep; room = rw t.length_same s.room }

    -- A mend keeps that, under every allowance.
    toward_kept : (n : ℕ) → Toward g f c (outcome_of x (Mend n)).after
    toward_kept n =
        let q = mending_partly toward_mendable n in
        mend_leaves (Toward g f c) x n t
        (record {
          length_same = q.length_same ∙ t.length_same;
          begins = λ j h b. ⊎_elim (λ r. r ∙ t.begins j h b) (λ r. r) (q.entries j h);
          elsewhere = λ y other. q.elsewhere y other ∙ t.elsewhere y other;
        })

    -- A done mend leaves c.
    toward_done : (n : ℕ) → (outcome_of x (Mend n)).reply ≡ done [] → (outcome_of x (Mend n)).after ≡ c
    toward_done n says =
        let q =
        rw (exec_all (mending x) (length (mending x)) x (le_refl (length (mending x)))) at (mending_partly toward_mendable (length (mending x))) in
        mend_done x n says
        ∙ ext_get_or 0 (apply (mending x) x) c (q.length_same ∙ t.length_same)
        (λ y h.
        by_word g y (λ z. word (apply (mending x) x) z ≡ word c z)
        (λ other. q.elsewhere y other ∙ t.elsewhere y other)
        (λ j k. mended_entries toward_mendable j k ∙ sym (s.entries j k)))

    -- A mend with enough stores is done.
    pub enough_mends : ValidHeader c → segments c ≡ S → (n : ℕ) → 2 ^ g ≤ n → (outcome_of x (Mend n)).reply ≡ done []
    unfolding valid_header
    enough_mends v number n enough =
        mend_is_done toward_mendable (rw (t.length_same, toward_word_0) (header_valid v)) (ap segments_in toward_word_0 ∙ number) n enough

  -- Mending to completion leaves c.
  pub mended_to : {x b : List ℕ} → Toward g f c x → MendedTo x b → b ≡ c
  mended_to {x} t m =
      let last = mends_keep (Toward g f c) (λ n y u. toward_kept u n) m.before x t in
      m.left ∙ toward_done last m.last m.reply
