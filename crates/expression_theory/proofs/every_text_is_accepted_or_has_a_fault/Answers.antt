use Rattle.expression_theory.proofs.EachText.{accepted_or_fault}
use Rattle.expression_theory.proofs.every_text_is_accepted_or_has_a_fault.Goals as goal

pub returns : goal.returns
returns c = accepted_or_fault
