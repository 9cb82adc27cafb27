use Rattle.std.proofs.Common.{◌≡◌, length}
use Rattle.automata_tests.proofs.number_sets.having.Given as goal

abbrev pub invariant-loop-number : goal.invariant-loop-number
invariant-loop-number l = length l.set ≡ l.size
