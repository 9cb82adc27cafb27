use Rattle.expression_theory.proofs.Texts.{one_tree}
use Rattle.expression_theory.proofs.one_tree.Goals as goal

pub returns : goal.returns
returns c text s t h k = one_tree text s t h k
