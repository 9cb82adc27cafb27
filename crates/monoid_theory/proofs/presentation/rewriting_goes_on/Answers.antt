use Rattle.monoid_theory.proofs.Rewriting.{rewrites_further, rewrites_between}
use Rattle.monoid_theory.proofs.presentation.rewriting_goes_on.Goals as goal

pub returns-clause-further : goal.returns-clause-further
returns-clause-further c words rules u v w g h = rewrites_further g h

pub returns-clause-between : goal.returns-clause-between
returns-clause-between c words rules u v p q h = rewrites_between p q h
