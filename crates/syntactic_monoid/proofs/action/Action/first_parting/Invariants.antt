use Rattle.std.proofs.Common.{◌-◌, length}
use Rattle.syntactic_monoid.specs.Action.{Part}
use Rattle.syntactic_monoid.proofs.Searches.{IsNoneBelow}
use Rattle.syntactic_monoid.proofs.action.Action.first_parting.Given as goal

abbrev pub invariant-loop-element : goal.invariant-loop-element
invariant-loop-element l = IsNoneBelow (Part l.self.rows l.i l.j) l.element

abbrev pub decreases-loop-element : goal.decreases-loop-element
decreases-loop-element l = length l.self.rows - l.element
