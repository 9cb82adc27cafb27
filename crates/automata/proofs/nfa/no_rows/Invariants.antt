-- so many rows without a place
use Rattle.std.proofs.Common.{◌≡◌, [], replicate}
use Rattle.automata.proofs.nfa.no_rows.Given as goal

abbrev pub invariant-loop : goal.invariant-loop
invariant-loop l = l.rows.items ≡ replicate l.counter []
