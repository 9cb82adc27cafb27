use Rattle.expression_theory.proofs.Faults.{fault_spells_nothing}
use Rattle.expression_theory.proofs.only_limits_refuse_a_tree.Goals as goal

pub returns : goal.returns
returns c text kind at t h s = fault_spells_nothing text kind at t h s
