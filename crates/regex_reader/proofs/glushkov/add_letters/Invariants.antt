use Rattle.regex_reader.specs.Growth.{HasGrown, IsEarlyStep}
use Rattle.regex_reader.proofs.glushkov.add_letters.Given as goal

abbrev pub invariant-loop-letter : goal.invariant-loop-letter
invariant-loop-letter l = HasGrown l.fn.nfa l.nfa (IsEarlyStep l.marks l.positions l.letter)
