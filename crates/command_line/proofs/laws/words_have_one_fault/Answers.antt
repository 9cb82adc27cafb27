use Rattle.command_line.proofs.Lines.{one_fault}
use Rattle.command_line.proofs.laws.words_have_one_fault.Goals as goal

pub returns : goal.returns
returns c = one_fault
