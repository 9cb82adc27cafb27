use Rattle.language_theory.proofs.ShortlexCriterion.{shortlex_by_letters}
use Rattle.language_theory.proofs.shortlex_graphs.letters_show_a_shortlex_graph.Goals as goal

pub returns : goal.returns
returns c = shortlex_by_letters
