use Rattle.std.proofs.Common.{take}
use Rattle.expression_theory.specs.FirstLast.{has}
use Rattle.regex_reader.specs.Growth.{HasFinals}
use Rattle.regex_reader.proofs.glushkov.set_finals.Given as goal

abbrev pub invariant-loop-state : goal.invariant-loop-state
invariant-loop-state l = HasFinals l.fn.nfa l.nfa (has (take l.state-index l.states))
