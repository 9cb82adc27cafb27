use Rattle.language_theory.proofs.Shortlex.{shortlex_induction}
use Rattle.language_theory.proofs.words.shortlex_allows_induction.Goals as goal

pub returns : goal.returns
returns g c k step = shortlex_induction k g.L.Language.has step
