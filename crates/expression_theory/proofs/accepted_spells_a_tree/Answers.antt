use Rattle.expression_theory.proofs.Texts.{accepted_tree}
use Rattle.expression_theory.proofs.accepted_spells_a_tree.Goals as goal

pub returns : goal.returns
returns c text h = accepted_tree text h
