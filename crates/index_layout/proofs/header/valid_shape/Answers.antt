-- `index_layout::header::valid_shape` meets its contract.
use borrow.Author.Tests.{le-leb, lt-leb}
use Rattle.index_rules.specs.Layout.{valid_shape}
use Rattle.index_layout.proofs.header.valid_shape.Goals as goal

pub returns-then-max_depth-lt-MIN_MAX_DEPTH : goal.returns-then-max_depth-lt-MIN_MAX_DEPTH
unfolding valid_shape
returns-then-max_depth-lt-MIN_MAX_DEPTH c = rw (lt-leb 2 _ c.if-max_depth-lt-MIN_MAX_DEPTH.true)

pub returns-then-max_depth : goal.returns-then-max_depth
unfolding valid_shape
returns-then-max_depth c = rw (le-leb 2 _ c.if-max_depth-lt-MIN_MAX_DEPTH.false, lt-leb _ 12 c.if-max_depth.true)

pub returns-then-segments-lt1 : goal.returns-then-segments-lt1
unfolding valid_shape
returns-then-segments-lt1 c = rw (le-leb 2 _ c.if-max_depth-lt-MIN_MAX_DEPTH.false, le-leb _ 12 c.if-max_depth.false, lt-leb 1 _ c.if-segments-lt1.true)

pub returns : goal.returns
unfolding valid_shape
returns c =
    rw (
      le-leb 2 _ c.if-max_depth-lt-MIN_MAX_DEPTH.false,
      le-leb _ 12 c.if-max_depth.false,
      le-leb 1 _ c.if-segments-lt1.false,
      c.pow2.ensures,
    )
