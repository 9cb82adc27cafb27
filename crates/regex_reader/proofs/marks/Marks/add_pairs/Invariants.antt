use Rattle.std.proofs.Common.{◌&&◌, take}
use Rattle.expression_theory.specs.FirstLast.{has}
use Rattle.language_theory.specs.Automaton as automaton
use Rattle.regex_reader.specs.Marks.{IsAdded}
use Rattle.regex_reader.proofs.marks.Marks.add_pairs.Given as goal

abbrev pub invariant-loop-p : goal.invariant-loop-p
invariant-loop-p l =
    IsAdded l.fn.self l.self
    (λ i j. has (take l.p-index l.from) i && automaton.is_marked l.set j)
