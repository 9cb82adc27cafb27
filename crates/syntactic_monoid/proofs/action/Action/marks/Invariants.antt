use Rattle.syntactic_monoid.proofs.Searches.{AreMarksTo}
use Rattle.syntactic_monoid.proofs.action.Action.marks.Given as goal

abbrev pub invariant-loop-element : goal.invariant-loop-element
invariant-loop-element l = AreMarksTo l.self.rows l.self.finals.items l.element l.marks.items
