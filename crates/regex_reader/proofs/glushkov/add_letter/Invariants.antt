use Rattle.regex_reader.specs.Growth.{HasGrown, IsLetterStep}
use Rattle.regex_reader.proofs.glushkov.add_letter.Given as goal

abbrev pub invariant-loop-state : goal.invariant-loop-state
invariant-loop-state l = HasGrown l.fn.nfa l.nfa (IsLetterStep l.marks l.found l.letter l.state)
