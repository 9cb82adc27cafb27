use Rattle.std.proofs.Common.{◌-◌, length}
use Rattle.syntactic_monoid.specs.Action.{TellApart}
use Rattle.syntactic_monoid.proofs.Searches.{IsNoneBelow}
use Rattle.syntactic_monoid.proofs.action.Action.first_telling_apart.Given as goal

abbrev pub invariant-loop-element : goal.invariant-loop-element
invariant-loop-element l =
    IsNoneBelow (TellApart l.self.rows l.self.finals.items l.p l.q) l.element

abbrev pub decreases-loop-element : goal.decreases-loop-element
decreases-loop-element l = length l.self.rows - l.element
