-- the marked states accept the rest of the word
use Rattle.std.proofs.Common.{drop}
use Rattle.automata.specs.StepsBack.{AreAccepting}
use Rattle.automata.proofs.accepting.accepting.Given as goal

abbrev pub invariant-loop-place : goal.invariant-loop-place
invariant-loop-place l = AreAccepting l.nfa (drop l.place l.word) l.marks
