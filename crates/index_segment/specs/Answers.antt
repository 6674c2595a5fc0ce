-- What a choice of a slot answers, by cases.
use Rattle.index_rules.specs.Slots.{found, into, full}
use Rattle.index_segment.specs.declared.choice.Choice.{Choice}
use Rattle.index_segment.specs.declared.choice.Choice.TheVariants.{Found, Into, Full}

-- The choice of the rules that the code's choice stands for.
abbrev pub choice_of : Choice → Rattle.index_rules.specs.Slots.Choice
choice_of (Found slot) = found slot
choice_of (Into slot) = into slot
choice_of Full = full
