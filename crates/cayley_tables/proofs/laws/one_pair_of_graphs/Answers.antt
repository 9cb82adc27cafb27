use Rattle.cayley_tables.proofs.AgreeingGraphs.{graphs_are_one}
use Rattle.cayley_tables.proofs.laws.one_pair_of_graphs.Goals as goal

pub returns : goal.returns
returns g c k = graphs_are_one k g.R.Relation.same
