use Rattle.language_theory.proofs.Deleting.{subword_itself, subword_trans, subword_antisym, subword_nil, subword_length, subword_over}
use Rattle.language_theory.proofs.subwords.subwords_are_ordered.Goals as goal

pub returns-clause-itself : goal.returns-clause-itself
returns-clause-itself c = subword_itself

pub returns-clause-through : goal.returns-clause-through
returns-clause-through c u v w h g = subword_trans h g

pub returns-clause-one : goal.returns-clause-one
returns-clause-one c u v h g = subword_antisym h g

pub returns-clause-empty : goal.returns-clause-empty
returns-clause-empty c = subword_nil

pub returns-clause-short : goal.returns-clause-short
returns-clause-short c u v h = subword_length h

pub returns-clause-over : goal.returns-clause-over
returns-clause-over c k u v h = subword_over k h
