use Rattle.command_line.proofs.Lines.{line_without_fault}
use Rattle.command_line.proofs.laws.a_line_has_no_fault.Goals as goal

pub returns : goal.returns
returns c = line_without_fault
