use Rattle.monoid_theory.proofs.RulePlaces.{rule_is_at_place, rule_by_places, letter_rule, left_sides_rise}
use Rattle.monoid_theory.proofs.presentation.rules_by_places.Goals as goal

pub returns-clause-at : goal.returns-clause-at
returns-clause-at g c k words = rule_is_at_place k g.R.Relation.same words

pub returns-clause-longer : goal.returns-clause-longer
returns-clause-longer g c k words q l = rule_by_places k g.R.Relation.same words q l

pub returns-clause-letter : goal.returns-clause-letter
returns-clause-letter g c k words q l = letter_rule k g.R.Relation.same words q l

pub returns-clause-rise : goal.returns-clause-rise
returns-clause-rise g c k words = left_sides_rise k g.R.Relation.same words
