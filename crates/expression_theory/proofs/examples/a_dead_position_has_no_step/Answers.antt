use Rattle.expression_theory.proofs.Ab.{dead_firsts, dead_lasts}
use Rattle.expression_theory.proofs.Spelled.{a_zero_or_b}
use Rattle.expression_theory.proofs.SomeWords.{none_follows}
use Rattle.expression_theory.proofs.examples.a_dead_position_has_no_step.Goals as goal

pub returns-clause-text : goal.returns-clause-text
returns-clause-text c = a_zero_or_b

pub returns-clause-follows : goal.returns-clause-follows
returns-clause-follows c p = none_follows p 1

pub returns-clause-followed : goal.returns-clause-followed
returns-clause-followed c q = none_follows 1 q

pub returns-clause-firsts : goal.returns-clause-firsts
returns-clause-firsts c = dead_firsts

pub returns-clause-lasts : goal.returns-clause-lasts
returns-clause-lasts c = dead_lasts
