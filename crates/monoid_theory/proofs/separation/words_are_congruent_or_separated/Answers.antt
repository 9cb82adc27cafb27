use Rattle.monoid_theory.proofs.Contexts.{separated_apart, congruent_or_separated}
use Rattle.monoid_theory.proofs.separation.words_are_congruent_or_separated.Goals as goal

pub returns-clause-apart : goal.returns-clause-apart
returns-clause-apart g c k = separated_apart k g.L.Language.has

pub returns-clause-exists : goal.returns-clause-exists
returns-clause-exists g c k d m = congruent_or_separated k g.L.Language.has d m
