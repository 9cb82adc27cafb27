use Rattle.monoid_theory.proofs.Places.{right_of_word, left_of_word}
use Rattle.monoid_theory.proofs.Cayley.{graph_is_right, node_is_place}
use Rattle.monoid_theory.proofs.RightGraphs.{right_is_graph}
use Rattle.monoid_theory.proofs.products.letters_act_on_places.Goals as goal

pub returns-clause-right : goal.returns-clause-right
returns-clause-right g c k words q l = right_of_word k g.R.Relation.same words q l

pub returns-clause-left : goal.returns-clause-left
returns-clause-left g c k words q l = left_of_word k g.R.Relation.same words q l

pub returns-clause-graph : goal.returns-clause-graph
returns-clause-graph g c k d words = graph_is_right k g.R.Relation.same d words

pub returns-clause-node : goal.returns-clause-node
returns-clause-node g c k d words = node_is_place k g.R.Relation.same d words

pub returns-clause-only : goal.returns-clause-only
returns-clause-only g c k d words q l = right_is_graph k g.R.Relation.same words q l d
