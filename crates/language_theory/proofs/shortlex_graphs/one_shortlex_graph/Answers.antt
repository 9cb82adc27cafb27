use Rattle.language_theory.proofs.Graphs.{one_graph, one_graph_of_agreeing}
use Rattle.language_theory.proofs.shortlex_graphs.one_shortlex_graph.Goals as goal

pub returns-clause-one : goal.returns-clause-one
returns-clause-one g c k = one_graph k g.R.Relation.same

pub returns-clause-agreeing : goal.returns-clause-agreeing
returns-clause-agreeing g c k = one_graph_of_agreeing k g.R.Relation.same g.S.Relation.same
