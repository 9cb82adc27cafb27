use Rattle.language_theory.proofs.Graphs.{prefix_link_edge}
use Rattle.language_theory.proofs.shortlex_graphs.prefix_links_are_edges.Goals as goal

pub returns : goal.returns
returns c = prefix_link_edge
