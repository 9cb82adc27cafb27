use Rattle.monoid_theory.proofs.AbStarClasses.{a_r_ab, b_r_ba, a_l_ba, b_l_ab, a_j_b, a_not_j_aa, one_not_j_a, one_not_j_aa, ab_idempotent, a_not_h_ab}
use Rattle.monoid_theory.proofs.examples.ab_star_has_three_boxes.Goals as goal

pub returns-clause-a_ab : goal.returns-clause-a_ab
returns-clause-a_ab c = a_r_ab

pub returns-clause-b_ba : goal.returns-clause-b_ba
returns-clause-b_ba c = b_r_ba

pub returns-clause-a_ba : goal.returns-clause-a_ba
returns-clause-a_ba c = a_l_ba

pub returns-clause-b_ab : goal.returns-clause-b_ab
returns-clause-b_ab c = b_l_ab

pub returns-clause-a_b : goal.returns-clause-a_b
returns-clause-a_b c = a_j_b

pub returns-clause-a_aa : goal.returns-clause-a_aa
returns-clause-a_aa c = a_not_j_aa

pub returns-clause-one_a : goal.returns-clause-one_a
returns-clause-one_a c = one_not_j_a

pub returns-clause-idempotent : goal.returns-clause-idempotent
returns-clause-idempotent c = ab_idempotent

pub returns-clause-one_aa : goal.returns-clause-one_aa
returns-clause-one_aa c = one_not_j_aa

pub returns-clause-cells : goal.returns-clause-cells
returns-clause-cells c = a_not_h_ab
