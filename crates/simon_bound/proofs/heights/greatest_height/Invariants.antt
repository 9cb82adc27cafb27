use Rattle.simon_bound.specs.Heights.{IsGreatest}
use Rattle.simon_bound.proofs.heights.greatest_height.Given as goal

abbrev pub invariant-loop-class : goal.invariant-loop-class
invariant-loop-class l = IsGreatest l.heights l.row l.class-index l.greatest
