use Rattle.std.proofs.Common.{◌≡◌, ◌<◌, drop}
use Rattle.language_theory.specs.Words.{Over}
use Rattle.language_theory.specs.ShortlexGraph.{IsGraph, walk}
use Rattle.exploration.proofs.graph.ShortlexGraph.walk.Given as goal

abbrev pub invariant-loop-letter : goal.invariant-loop-letter
invariant-loop-letter l =
    IsGraph l.self
    × (l.node < l.self.size)
    × Over l.self.letters (drop l.letter-index l.letter-items)
    × (walk l.self l.node (drop l.letter-index l.letter-items) ≡ walk l.self l.from l.word)
