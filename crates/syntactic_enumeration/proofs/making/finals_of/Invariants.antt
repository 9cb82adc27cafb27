use Rattle.std.proofs.Common.{◌≡◌, take}
use Rattle.syntactic_enumeration.proofs.making.finals_of.Given as goal

abbrev pub invariant-loop-state : goal.invariant-loop-state
invariant-loop-state l = l.finals.items ≡ take l.state l.dfa.finals
