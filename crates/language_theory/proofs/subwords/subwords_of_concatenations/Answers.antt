use Rattle.language_theory.proofs.Deleting.{subword_append, subword_split}
use Rattle.language_theory.proofs.subwords.subwords_of_concatenations.Goals as goal

pub returns-clause-joined : goal.returns-clause-joined
returns-clause-joined c u v x y h g = subword_append h g

pub returns-clause-split : goal.returns-clause-split
returns-clause-split c = subword_split
