use Rattle.syn_outside.proofs.Counting.{below_zero}
use Rattle.syn_outside.proofs.failing_calls.FailingCalls.new.Goals as goal

-- no failing number is below the first call's
pub returns-clause-count : goal.returns-clause-count
returns-clause-count c = below_zero c.in_ok-failing.failing.items
