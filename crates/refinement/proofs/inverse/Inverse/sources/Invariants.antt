use Rattle.std.proofs.Common.{◌<◌, take}
use Rattle.std.specs.Prelude.{All}
use Rattle.refinement.specs.Splitting.{IsInverseOf, AreSources}
use Rattle.refinement.proofs.inverse.Inverse.sources.Given as goal

abbrev pub invariant-loop-node : goal.invariant-loop-node
invariant-loop-node l = IsInverseOf l.graph l.self × All (λ i. i < l.graph.size) l.nodes
    × AreSources l.graph l.self.letter (take l.node-index l.nodes) l.sources.items
