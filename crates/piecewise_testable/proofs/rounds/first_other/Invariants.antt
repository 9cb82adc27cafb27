use Rattle.std.proofs.Common.{length}
use Rattle.piecewise_testable.specs.Rounds.{labels_on}
use Rattle.piecewise_testable.proofs.Others.{IsFirstShared}
use Rattle.piecewise_testable.proofs.rounds.first_other.Given as goal

abbrev pub invariant-loop-element : goal.invariant-loop-element
invariant-loop-element l =
    IsFirstShared (labels_on l.side l.green) (length l.cayley.words) l.element l.first
