-- `index::slot::choose_at` meets its contract.
use native.Mathlib.Omega.{arith}
use mathlib.Core.Path.{◌∙◌}
use Rattle.index_layout.proofs.Places.{place_bounds}
use Rattle.index_segment.proofs.Parts.{span, part_choose}
use Rattle.index.proofs.Places.{place_choice}
use borrow.Author.Rules.{rules}
use Rattle.index.proofs.slot.choose_at.Goals as goal

pub choose-requires : goal.choose-requires
choose-requires c = let p = place_bounds c.requires in search rules

pub returns : goal.returns
returns c =
    let a = c.args in
    let k = c.requires in
    c.choose.ensures ∙ rw (span a.place.base) (part_choose a.words.now a.place.base (place_bounds k).whole _ _ _) ∙ place_choice k

pub overflow_add-base : goal.overflow_add-base
overflow_add-base c = let p = place_bounds c.requires in omega arith

pub offset_bounds-words-base : goal.offset_bounds-words-base
offset_bounds-words-base c = let p = place_bounds c.requires in omega arith

pub slice_bounds-choose-end : goal.slice_bounds-choose-end
slice_bounds-choose-end c = let p = place_bounds c.requires in omega arith

pub invariant_of-block : goal.invariant_of-block
invariant_of-block c = record { shallow = (place_bounds c.requires).local_small }
