-- `index_layout::header::read_header` meets its contract.
use borrow.Author.Tests.{eq-eqb, ne_eqb, le-leb, lt-leb}
use mathlib.Core.Path.{sym, ◌∙◌}
use lib.ListN.{length}
use Rattle.index_rules.specs.Layout.{mark_in, depth_in, max_depth_in, segments_in, valid_header}
use Rattle.index_layout.proofs.Shapes.{says_valid, says_not_valid, empty_not_valid}
use Rattle.index_layout.proofs.header.read_header.Goals as goal

pub returns-then-words-eq0 : goal.returns-then-words-eq0
returns-then-words-eq0 c = says_not_valid _ (empty_not_valid _ c.if-words-eq0.true)

pub returns-then-word-ne-MARK : goal.returns-then-word-ne-MARK
unfolding valid_header mark_in
returns-then-word-ne-MARK c = says_not_valid _ (rw (ne_eqb _ _ c.if-word-ne-MARK.true))

pub returns-then-not-valid_shape : goal.returns-then-not-valid_shape
unfolding valid_header mark_in max_depth_in segments_in
returns-then-not-valid_shape c = says_not_valid _ (rw (eq-eqb _ _ c.if-word-ne-MARK.false, sym c.valid_shape.ensures ∙ c.if-not-valid_shape.true))

pub returns-then-max_depth-depth : goal.returns-then-max_depth-depth
unfolding valid_header mark_in depth_in max_depth_in segments_in
returns-then-max_depth-depth c =
    says_not_valid _
    (rw (
      eq-eqb _ _ c.if-word-ne-MARK.false,
      sym c.valid_shape.ensures ∙ c.if-not-valid_shape.false,
      lt-leb _ _ c.if-max_depth-depth.true,
    ))

pub words_for-requires : goal.words_for-requires
words_for-requires c = sym c.valid_shape.ensures ∙ c.if-not-valid_shape.false

pub returns-then-words-words_for : goal.returns-then-words-words_for
unfolding valid_header mark_in depth_in max_depth_in segments_in
returns-then-words-words_for c =
    says_not_valid _
    (rw (
      eq-eqb _ _ c.if-word-ne-MARK.false,
      sym c.valid_shape.ensures ∙ c.if-not-valid_shape.false,
      le-leb _ _ c.if-max_depth-depth.false,
      ← c.words_for.ensures,
      lt-leb _ _ c.if-words-words_for.true,
    ))

pub returns : goal.returns
unfolding valid_header mark_in depth_in max_depth_in segments_in
returns c =
    says_valid _
    (rw (
      eq-eqb _ _ c.if-word-ne-MARK.false,
      sym c.valid_shape.ensures ∙ c.if-not-valid_shape.false,
      le-leb _ _ c.if-max_depth-depth.false,
      ← c.words_for.ensures,
      le-leb c.words_for.result (length c.args.words.now) c.if-words-words_for.false,
    ))
