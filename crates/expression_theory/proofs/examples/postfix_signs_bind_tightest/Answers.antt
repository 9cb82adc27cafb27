use Rattle.expression_theory.proofs.Ab.{abb_read}
use Rattle.expression_theory.proofs.Spelled.{ab_star_or_b, a_space_b, a_tab_b, abb, a_or_b_or_a, a_plus_opt, zero_or_one}
use Rattle.expression_theory.proofs.examples.postfix_signs_bind_tightest.Goals as goal

pub returns-clause-levels : goal.returns-clause-levels
returns-clause-levels c = ab_star_or_b

pub returns-clause-space : goal.returns-clause-space
returns-clause-space c = a_space_b

pub returns-clause-tab : goal.returns-clause-tab
returns-clause-tab c = a_tab_b

pub returns-clause-products : goal.returns-clause-products
returns-clause-products c = abb

pub returns-clause-unions : goal.returns-clause-unions
returns-clause-unions c = a_or_b_or_a

pub returns-clause-postfixes : goal.returns-clause-postfixes
returns-clause-postfixes c = a_plus_opt

pub returns-clause-constants : goal.returns-clause-constants
returns-clause-constants c = zero_or_one

pub returns-clause-read : goal.returns-clause-read
returns-clause-read c = abb_read
