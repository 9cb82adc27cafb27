use Rattle.std.proofs.Common.{◌≡◌, ◌<◌}
use Rattle.language_theory.specs.ShortlexGraph.{IsGraph}
use Rattle.refinement.specs.Splitting.{IsInverse}
use Rattle.refinement.proofs.inverse.Inverse.of.Given as goal

abbrev pub invariant-loop-node : goal.invariant-loop-node
invariant-loop-node l = IsGraph l.graph × (l.node-end ≡ l.graph.size) × (l.letter < l.graph.letters)
    × IsInverse l.graph l.letter l.node l.heads.items l.nexts.items
