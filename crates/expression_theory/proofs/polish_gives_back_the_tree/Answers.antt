use Rattle.expression_theory.proofs.Polish.{trees_of_polish}
use Rattle.expression_theory.proofs.polish_gives_back_the_tree.Goals as goal

pub returns : goal.returns
returns c = trees_of_polish
