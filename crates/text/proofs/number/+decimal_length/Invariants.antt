-- The measure is the number itself.
use Rattle.text.proofs.number.+decimal_length.Given as goal

abbrev pub decreases-decimal_length : goal.decreases-decimal_length
decreases-decimal_length l = l.n
