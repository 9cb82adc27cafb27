use Rattle.language_theory.specs.ShortlexGraph.{IsGraph}
use Rattle.refinement.specs.Refinement.{KeepsAlike}
use Rattle.refinement.proofs.Refining.{unsplit}
use Rattle.refinement.proofs.coarsest.refine.Given as goal

abbrev pub invariant-loop-coarse : goal.invariant-loop-coarse
invariant-loop-coarse l = IsGraph l.graph × KeepsAlike l.graph l.marks l.coarse

abbrev pub decreases-loop-coarse : goal.decreases-loop-coarse
decreases-loop-coarse l = unsplit l.graph l.coarse
