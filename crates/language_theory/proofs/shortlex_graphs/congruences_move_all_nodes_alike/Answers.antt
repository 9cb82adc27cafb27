use Rattle.language_theory.proofs.Graphs.{congruence_by_nodes}
use Rattle.language_theory.proofs.shortlex_graphs.congruences_move_all_nodes_alike.Goals as goal

pub returns : goal.returns
returns c = congruence_by_nodes
