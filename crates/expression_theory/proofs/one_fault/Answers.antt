use Rattle.expression_theory.proofs.Faults.{one_fault}
use Rattle.expression_theory.proofs.one_fault.Goals as goal

pub returns : goal.returns
returns c text k l i j h g = one_fault text k l i j h g
