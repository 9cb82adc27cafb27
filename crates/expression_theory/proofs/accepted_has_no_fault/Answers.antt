use Rattle.expression_theory.proofs.Faults.{accepted_or_fault}
use Rattle.expression_theory.proofs.accepted_has_no_fault.Goals as goal

pub returns : goal.returns
returns c text kind at a h = accepted_or_fault text kind at a h
