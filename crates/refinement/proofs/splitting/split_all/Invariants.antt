use Rattle.std.specs.Prelude.{All}
use Rattle.language_theory.specs.ShortlexGraph.{IsGraph}
use Rattle.refinement.specs.Splitting.{IsInverseOf, Respects}
use Rattle.refinement.specs.SplittingState.{IsState}
use Rattle.refinement.proofs.splitting.split_all.Given as goal

abbrev pub invariant-loop-round : goal.invariant-loop-round
invariant-loop-round l = IsGraph l.graph × IsState l.graph.size l.splitting
    × All (IsInverseOf l.graph) l.inverses.items
    × Respects l.graph l.marks l.splitting.class_of.items
