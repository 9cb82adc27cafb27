use Rattle.language_theory.proofs.Deleting.{prefix_factor, factor_subword}
use Rattle.language_theory.proofs.subwords.prefixes_and_factors_are_subwords.Goals as goal

pub returns-clause-prefix : goal.returns-clause-prefix
returns-clause-prefix c = prefix_factor

pub returns-clause-factor : goal.returns-clause-factor
returns-clause-factor c = factor_subword
