use Rattle.expression_theory.proofs.Ab.{star_empty}
use Rattle.expression_theory.specs.Expression.{nothing}
use Rattle.expression_theory.proofs.SomeWords.{abab, a_once}
use Rattle.expression_theory.proofs.examples.words_of_expressions.Goals as goal

pub returns-clause-empty : goal.returns-clause-empty
returns-clause-empty c = nothing

pub returns-clause-twice : goal.returns-clause-twice
returns-clause-twice c = abab

pub returns-clause-once : goal.returns-clause-once
returns-clause-once c = a_once

pub returns-clause-computed : goal.returns-clause-computed
returns-clause-computed c = star_empty
