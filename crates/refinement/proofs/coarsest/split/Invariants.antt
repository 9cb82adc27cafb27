use Rattle.std.proofs.Common.{◌≡◌}
use Rattle.language_theory.specs.ShortlexGraph.{IsGraph}
use Rattle.refinement.specs.Refinement.{signature}
use Rattle.refinement.proofs.Rounds.{AreInterned}
use Rattle.refinement.proofs.coarsest.split.Given as goal

abbrev pub invariant-loop-node : goal.invariant-loop-node
invariant-loop-node l = IsGraph l.graph × (l.node-end ≡ l.graph.size)
    × AreInterned (signature l.graph l.marks l.classes) l.node l.seen.keys l.finer.items
