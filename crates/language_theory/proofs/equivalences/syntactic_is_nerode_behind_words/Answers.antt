use Rattle.language_theory.proofs.Congruences.{syntactic_nerode, syntactic_by_nerode}
use Rattle.language_theory.proofs.equivalences.syntactic_is_nerode_behind_words.Goals as goal

pub returns-clause-nerode : goal.returns-clause-nerode
returns-clause-nerode g c k = syntactic_nerode k g.L.Language.has

pub returns-clause-behind : goal.returns-clause-behind
returns-clause-behind g c k = syntactic_by_nerode k g.L.Language.has
