use Rattle.cayley_tables.proofs.AgreeingGraphs.{graphs_agree, graphs_are_cayley}
use Rattle.cayley_tables.proofs.laws.graphs_of_a_congruence_lead_to_its_classes.Goals as goal

pub returns-clause-agree : goal.returns-clause-agree
returns-clause-agree g c k v q = graphs_agree k g.R.Relation.same q v

pub returns-clause-graphs : goal.returns-clause-graphs
returns-clause-graphs g c k v q = graphs_are_cayley k g.R.Relation.same q v
