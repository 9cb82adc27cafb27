use Rattle.language_theory.proofs.Shortlex.{shortlex_total, shortlex_irrefl, shortlex_asymm, shortlex_equal, shortlex_trichotomy, shortlex_nil}
use Rattle.language_theory.proofs.words.shortlex_is_a_total_order.Goals as goal

pub returns-clause-total : goal.returns-clause-total
returns-clause-total c = shortlex_total

pub returns-clause-strict : goal.returns-clause-strict
returns-clause-strict c = shortlex_irrefl

pub returns-clause-asymmetric : goal.returns-clause-asymmetric
returns-clause-asymmetric c = shortlex_asymm

pub returns-clause-equal : goal.returns-clause-equal
returns-clause-equal c = shortlex_equal

pub returns-clause-one_of_three : goal.returns-clause-one_of_three
returns-clause-one_of_three c = shortlex_trichotomy

pub returns-clause-first : goal.returns-clause-first
returns-clause-first c = shortlex_nil
