use Rattle.language_theory.proofs.Automata.{path_append, accepts_append, accepts_behind, accepts_reached}
use Rattle.language_theory.proofs.paths.paths_are_joined.Goals as goal

pub returns-clause-leads : goal.returns-clause-leads
returns-clause-leads c = path_append

pub returns-clause-accepts : goal.returns-clause-accepts
returns-clause-accepts c = accepts_append

pub returns-clause-behind : goal.returns-clause-behind
returns-clause-behind c = accepts_behind

pub returns-clause-reached : goal.returns-clause-reached
returns-clause-reached c = accepts_reached
