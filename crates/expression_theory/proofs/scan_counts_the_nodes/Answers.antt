use Rattle.expression_theory.proofs.Texts.{text_nodes}
use Rattle.expression_theory.proofs.scan_counts_the_nodes.Goals as goal

pub returns : goal.returns
returns c = text_nodes
