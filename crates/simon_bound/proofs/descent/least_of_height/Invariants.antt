use Rattle.std.proofs.Common.{length}
use Rattle.simon_bound.proofs.LeastOfHeight.{IsLeastSoFar}
use Rattle.simon_bound.proofs.descent.least_of_height.Given as goal

abbrev pub invariant-loop-class : goal.invariant-loop-class
invariant-loop-class l =
    IsLeastSoFar l.heights l.row (length l.heights) l.height l.class-index l.least
