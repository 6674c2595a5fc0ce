-- The next line of a script: it begins behind the line feeds that stand first, and goes up to the next one.
use Rattle.std.proofs.Common.{◌≡◌, ℕ, suc, ◌+◌, ◌-◌, ◌<◌, ◌≤◌, List, [], ◌∷◌, cond, eqb, ltb, length, take, drop, refl, sym, ap, ◌∙◌, arith, length-drop, Option, Some, None}
use mathlib.Core.Bool.{not}
use borrow.Author.Tests.{lt-ltb, le-ltb}
use lib.ListN.{drop_of_length-le}
use lib.Seq.{take_all, drop-drop}
use Rattle.std.specs.List.{position_or_len}
use Rattle.stores.specs.Lists.{pick}
use Rattle.stores.proofs.Tests.{by_test}
use Rattle.text.specs.Parts.{line_feed, started_by, parts, nonempty, lines_of}
use Rattle.text.specs.Script.{NextLine}
use Rattle.text.proofs.FirstPart.{first_at, found_none, found_some}
use Rattle.text.proofs.Lines.{lines_none}

-- ---- The first part, and those behind it

-- The parts behind the first.
unfoldable pub behind : (b : ℕ) → List ℕ → List (List ℕ)
behind b [] = []
behind b (x ∷ xs) =
    let later : List (List ℕ) = behind b xs in
    pick (eqb x b) (parts b xs) later

-- The first part goes up to the first separator.
pub parts_first : (b : ℕ) (xs : List ℕ) → parts b xs ≡ take (first_at b xs) xs ∷ behind b xs
unfolding parts started_by behind
parts_first b [] = refl
parts_first b (x ∷ xs) =
    by_test (eqb x b)
    (λ t. rw t)
    (λ t.
    let one : 1 + first_at b xs ≡ suc (first_at b xs) = omega arith in
    rw (t, one) (ap (started_by x) (parts_first b xs)))

-- From the separator on, an empty part comes first.
pub parts_from : (b : ℕ) (xs : List ℕ) → parts b (drop (first_at b xs) xs) ≡ [] ∷ behind b xs
unfolding parts behind
parts_from b [] = refl
parts_from b (x ∷ xs) =
    by_test (eqb x b)
    (λ t. rw (t, t))
    (λ t.
    let one : 1 + first_at b xs ≡ suc (first_at b xs) = omega arith in
    rw (t, one) (parts_from b xs))

pub first_within : (b : ℕ) (xs : List ℕ) → first_at b xs ≤ length xs
first_within b [] = omega arith
first_within b (x ∷ xs) =
    by_test (eqb x b)
    (λ t. rw t (omega arith))
    (λ t. rw t (omega (arith, first_within b xs)))

-- ---- The line feeds that stand first

-- How many line feeds stand first.
abbrev pub feeds : List ℕ → ℕ
feeds xs = position_or_len (λ x. not (eqb x line_feed)) xs

-- They are empty lines, and are skipped.
pub lines_skipped : (xs : List ℕ) → lines_of xs ≡ lines_of (drop (feeds xs) xs)
unfolding lines_of parts nonempty
lines_skipped [] = refl
lines_skipped (x ∷ xs) =
    by_test (eqb x line_feed)
    (λ t.
    let one : 1 + feeds xs ≡ suc (feeds xs) = omega arith in
    rw (t, one) (lines_skipped xs))
    (λ t. rw (t, t) refl)

-- Behind them stands another byte, if there is one.
pub feeds_end : (xs : List ℕ) → feeds xs < length xs → 0 < first_at line_feed (drop (feeds xs) xs)
feeds_end [] h = absurd (omega arith)
feeds_end (x ∷ xs) h =
    by_test (eqb x line_feed)
    (λ t.
    let one : 1 + feeds xs ≡ suc (feeds xs) = omega arith in
    let fewer : 1 + feeds xs < suc (length xs) = rw t at h in
    rw (t, one) (feeds_end xs (omega arith)))
    (λ t. rw (t, t) (omega arith))

-- ---- The line

-- A line in front goes up to the first line feed.
pub lines_first : (xs : List ℕ) → 0 < first_at line_feed xs
    → lines_of xs ≡ take (first_at line_feed xs) xs ∷ lines_of (drop (first_at line_feed xs) xs)
unfolding lines_of nonempty
lines_first [] h = absurd (omega arith)
lines_first (x ∷ xs) h =
    by_test (eqb x line_feed)
    (λ t. let none : 0 < 0 = rw t at h in absurd (omega arith))
    (λ t.
    let one : 1 + first_at line_feed xs ≡ suc (first_at line_feed xs) = omega arith in
    rw (parts_first line_feed (x ∷ xs), parts_from line_feed (x ∷ xs), t, one))

-- The line that has been found.
line_found : (script : List ℕ) (from start end : ℕ) → from ≤ start → end ≤ length script
    → end ≡ start + first_at line_feed (drop start script) → 0 < first_at line_feed (drop start script)
    → lines_of (drop from script) ≡ lines_of (drop start script) → NextLine script from start end
line_found script from start end forward within e some_byte skipped =
    let k : ℕ = first_at line_feed (drop start script) in
    let size : end - start ≡ first_at line_feed (drop start script) = omega arith in
    let rest : drop k (drop start script) ≡ drop end script = drop-drop k start script ∙ ap (λ (j : ℕ). drop j script) (sym e) in
    record {
      forward = λ near. forward;
      ordered = omega arith;
      within = within;
      none_left = λ same. absurd (omega arith);
      lines = skipped
          ∙ rw (lt-ltb start end (omega arith), size)
          (lines_first (drop start script) some_byte ∙ ap (λ (l : List ℕ). take k (drop start script) ∷ lines_of l) rest);
    }

-- No line is left.
line_none : (script : List ℕ) (from : ℕ) → lines_of (drop from script) ≡ [] → NextLine script from (length script) (length script)
line_none script from none =
    record {
      forward = λ near. near;
      ordered = omega arith;
      within = omega arith;
      none_left = λ same. refl;
      lines = none ∙ rw (le-ltb (length script) (length script) (omega arith)) refl;
    }

pub none_behind : (script : List ℕ) (from : ℕ) → length script < from → NextLine script from (length script) (length script)
none_behind script from h =
    let behind_all : length script ≤ from = omega arith in
    line_none script from (rw (drop_of_length-le script behind_all) lines_none)

-- What the library's search over the script from a position on answers, for a test of its own.
abbrev pub FoundFrom : (count : List ℕ → ℕ) (script : List ℕ) (from : ℕ) → Option ℕ → Type 0
FoundFrom count script from r =
    let xs : List ℕ = take (length script - from) (drop from script) in
    r ≡ cond (ltb (count xs) (length xs)) (Some (count xs)) None

rest_whole : (script : List ℕ) (from : ℕ) → take (length script - from) (drop from script) ≡ drop from script
rest_whole script from =
    let fits : length (drop from script) ≤ length script - from = rw length-drop (omega arith) in
    take_all (length script - from) (drop from script) fits

module _ (script : List ℕ) (from : ℕ) (h : from ≤ length script) where
  pub only_feeds : FoundFrom feeds script from None → NextLine script from (length script) (length script)
  only_feeds f =
      let all : length (drop from script) ≤ feeds (drop from script) = found_none _ _ (rw (rest_whole script from) at f) in
      line_none script from (lines_skipped (drop from script) ∙ rw (drop_of_length-le (drop from script) all) lines_none)

  module _ (skipped : ℕ) (f : FoundFrom feeds script from (Some skipped)) where
    -- The line stands behind the line feeds.
    began : (skipped ≡ feeds (drop from script)) × (feeds (drop from script) < length (drop from script))
    began = found_some _ _ skipped (rw (rest_whole script from) at f)

    moved : drop (feeds (drop from script)) (drop from script) ≡ drop (from + skipped) script
    moved =
        let same : from + feeds (drop from script) ≡ from + skipped = omega (arith, began.0) in
        drop-drop (feeds (drop from script)) from script ∙ ap (λ (j : ℕ). drop j script) same

    some_byte : 0 < first_at line_feed (drop (from + skipped) script)
    some_byte = rw (← moved) (feeds_end (drop from script) began.1)

    lines_from : lines_of (drop from script) ≡ lines_of (drop (from + skipped) script)
    lines_from = lines_skipped (drop from script) ∙ ap lines_of moved

    pub starts_within : from + skipped ≤ length script
    starts_within =
        let size : length (drop from script) ≡ length script - from = length-drop _ _ in
        omega (arith, began.0, began.1)

    -- It is the last one, without a line feed.
    pub last_line : FoundFrom (first_at line_feed) script (from + skipped) None → NextLine script from (from + skipped) (length script)
    last_line g =
        let all = found_none _ _ (rw (rest_whole script (from + skipped)) at g) in
        let most = first_within line_feed (drop (from + skipped) script) in
        let size : length (drop (from + skipped) script) ≡ length script - (from + skipped) = length-drop _ _ in
        let inside = starts_within in
        line_found script from (from + skipped) (length script) (omega arith) (omega arith) (omega arith) some_byte lines_from

    -- A line feed ends it.
    pub ended_line : (size : ℕ) → FoundFrom (first_at line_feed) script (from + skipped) (Some size)
        → NextLine script from (from + skipped) (from + skipped + size)
    ended_line size g =
        let found = found_some _ _ size (rw (rest_whole script (from + skipped)) at g) in
        let rest : length (drop (from + skipped) script) ≡ length script - (from + skipped) = length-drop _ _ in
        line_found script from (from + skipped) (from + skipped + size) (omega arith) (omega (arith, found.0, found.1)) (omega (arith, found.0)) some_byte lines_from
