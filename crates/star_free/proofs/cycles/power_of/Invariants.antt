use Rattle.std.proofs.Common.{◌≡◌, ◌<◌, length}
use Rattle.language_theory.specs.Words.{power, word_at}
use Rattle.language_theory.specs.ShortlexGraph.{node}
use Rattle.star_free.proofs.cycles.power_of.Given as goal

abbrev pub invariant-loop : goal.invariant-loop
invariant-loop l = (l.last < length l.cayley.words)
    × (l.last ≡ node l.cayley.right (power l.counter (word_at l.cayley.words l.element)))
