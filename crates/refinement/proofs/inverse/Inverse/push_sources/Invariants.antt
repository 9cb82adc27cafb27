use Rattle.std.proofs.Common.{◌≡◌, ◌<◌}
use Rattle.std.specs.Prelude.{All}
use Rattle.refinement.specs.Splitting.{IsInverseOf}
use Rattle.refinement.proofs.Chains.{IsChain}
use Rattle.refinement.proofs.inverse.Inverse.push_sources.Given as goal

abbrev pub invariant-loop-rest : goal.invariant-loop-rest
invariant-loop-rest l = IsInverseOf l.graph l.self × (l.self.letter ≡ l.fn.self.letter)
    × All (λ i. i < l.graph.size) l.into.items
    × IsChain l.graph l.self.letter l.node l.rest l.fn.into.items l.into.items

abbrev pub decreases-loop-rest : goal.decreases-loop-rest
decreases-loop-rest l = l.rest
