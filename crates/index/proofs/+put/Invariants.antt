-- The measure is the depth still unused: D minus the local depth of the key's entry.
use Rattle.index_rules.specs.Put.{unused}
use Rattle.index.proofs.+put.Given as goal

abbrev pub decreases-put : goal.decreases-put
decreases-put l = unused l.words.now l.key
