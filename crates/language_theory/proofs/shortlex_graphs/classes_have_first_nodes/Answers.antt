use Rattle.language_theory.proofs.Quotients.{first_node, first_node_only}
use Rattle.language_theory.proofs.shortlex_graphs.classes_have_first_nodes.Goals as goal

pub returns-clause-first : goal.returns-clause-first
returns-clause-first c = first_node

pub returns-clause-one : goal.returns-clause-one
returns-clause-one c = first_node_only
