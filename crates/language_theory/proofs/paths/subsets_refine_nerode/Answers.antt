use Rattle.language_theory.proofs.Automata.{same_subset_right, same_subset_nerode}
use Rattle.language_theory.proofs.paths.subsets_refine_nerode.Goals as goal

pub returns-clause-right : goal.returns-clause-right
returns-clause-right c = same_subset_right

pub returns-clause-finer : goal.returns-clause-finer
returns-clause-finer c = same_subset_nerode
