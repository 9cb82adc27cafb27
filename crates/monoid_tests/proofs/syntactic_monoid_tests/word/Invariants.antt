use Rattle.language_theory.specs.Words.{Over}
use Rattle.monoid_tests.proofs.syntactic_monoid_tests.word.Given as goal

abbrev pub invariant-loop-sign : goal.invariant-loop-sign
invariant-loop-sign l = Over l.monoid.graphs.right.letters l.word
