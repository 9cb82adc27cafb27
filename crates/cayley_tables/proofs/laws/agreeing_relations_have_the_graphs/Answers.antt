use Rattle.language_theory.specs.ShortlexGraph.{SameNode}
use Rattle.cayley_tables.proofs.AgreeingGraphs.{agreeing_graphs, agreeing_product}
use Rattle.cayley_tables.proofs.laws.agreeing_relations_have_the_graphs.Goals as goal

pub returns-clause-graphs : goal.returns-clause-graphs
returns-clause-graphs g c = agreeing_graphs g.R.Relation.same

pub returns-clause-products : goal.returns-clause-products
returns-clause-products g c v i j r h a p =
    agreeing_product v.right.letters
    (SameNode v.right) g.R.Relation.same v.words a h.shortlex.least i j r p
