use Rattle.star_free_lists.specs.Pruning.{IsMarking}
use Rattle.star_free_lists.proofs.pruning.needed.Given as goal

abbrev pub invariant-loop-n : goal.invariant-loop-n
invariant-loop-n l = IsMarking l.nodes l.root l.n l.marks.items
