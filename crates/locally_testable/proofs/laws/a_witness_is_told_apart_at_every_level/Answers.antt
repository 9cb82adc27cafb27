use Rattle.locally_testable.proofs.LeastWitnesses.{witness_shows, witness_no_level}
use Rattle.local_submonoids.proofs.LeastWitnesses.{witness_fails}
use Rattle.locally_testable.proofs.laws.a_witness_is_told_apart_at_every_level.Goals as goal

pub returns-clause-shows : goal.returns-clause-shows
returns-clause-shows g c k words w r = witness_shows k g.L.Language.has words r w

pub returns-clause-none : goal.returns-clause-none
returns-clause-none g c k n words w r h pos =
    witness_no_level k g.L.Language.has words r w h n pos

pub returns-clause-fails : goal.returns-clause-fails
returns-clause-fails g c k words w r = witness_fails k g.L.Language.has words r w
