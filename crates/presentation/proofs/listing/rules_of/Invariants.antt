use Rattle.presentation.specs.RuleLists.{AreRulesBefore}
use Rattle.presentation.proofs.listing.rules_of.Given as goal

abbrev pub invariant-loop-element : goal.invariant-loop-element
invariant-loop-element l = AreRulesBefore l.cayley l.element 0 l.rules
