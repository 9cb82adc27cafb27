use Rattle.presentation.specs.RuleLists.{AreRulesBefore}
use Rattle.presentation.proofs.listing.push_rules_of.Given as goal

abbrev pub invariant-loop-letter : goal.invariant-loop-letter
invariant-loop-letter l = AreRulesBefore l.cayley l.element l.letter l.rules
