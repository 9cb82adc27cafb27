use Rattle.language_theory.proofs.Graphs.{first_node_least}
use Rattle.language_theory.proofs.shortlex_graphs.first_node_has_the_least_word.Goals as goal

pub returns : goal.returns
returns g c graph words s = first_node_least graph words s g.P.Property.holds
