use Rattle.std.proofs.Common.{◌≡◌, ◌<◌, ◌++◌, length}
use Rattle.language_theory.specs.Words.{word_at}
use Rattle.cayley_tables.proofs.cayley.Cayley.word.Given as goal

abbrev pub invariant-loop-rest : goal.invariant-loop-rest
invariant-loop-rest l =
    (l.rest < length l.self.words)
    × (l.word ++ word_at l.self.words l.rest ≡ word_at l.self.words l.i)

abbrev pub decreases-loop-rest : goal.decreases-loop-rest
decreases-loop-rest l = l.rest
