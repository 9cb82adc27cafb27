use Rattle.command_line.proofs.Lines.{one_request, line_in_range}
use Rattle.command_line.proofs.laws.a_line_asks_for_one_request.Goals as goal

pub returns : goal.returns
returns c = record { one = one_request; range = line_in_range }
