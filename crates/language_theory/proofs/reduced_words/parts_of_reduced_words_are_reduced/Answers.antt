use Rattle.std.proofs.Common.{sym, subst}
use Rattle.language_theory.specs.Representatives.{IsReduced}
use Rattle.language_theory.proofs.Representatives.{reduced_prefix, reduced_factor}
use Rattle.language_theory.proofs.reduced_words.parts_of_reduced_words_are_reduced.Goals as goal

pub returns-clause-prefixes : goal.returns-clause-prefixes
returns-clause-prefixes g c k u w q r (v, e) =
    reduced_prefix k g.R.Relation.same u v q (subst (IsReduced k g.R.Relation.same) (sym e) r)

pub returns-clause-factors : goal.returns-clause-factors
returns-clause-factors g c k = reduced_factor k g.R.Relation.same
