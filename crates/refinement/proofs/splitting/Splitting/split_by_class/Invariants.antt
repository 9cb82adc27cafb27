use Rattle.std.proofs.Common.{◌<◌}
use Rattle.std.specs.Prelude.{All}
use Rattle.refinement.specs.Splitting.{KeepsTogether}
use Rattle.refinement.specs.SplittingState.{IsState}
use Rattle.refinement.proofs.splitting.Splitting.split_by_class.Given as goal

abbrev pub invariant-loop-inverse : goal.invariant-loop-inverse
invariant-loop-inverse l = IsState l.graph.size l.self
    × KeepsTogether l.graph l.splitter.items l.fn.self.class_of.items l.self.class_of.items
    × All (λ i. i < l.graph.size) l.splitter.items
