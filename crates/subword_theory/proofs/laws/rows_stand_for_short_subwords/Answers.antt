use Rattle.subword_theory.proofs.Rows.{row_is, one_row, same_rows, next_row_of}
use Rattle.subword_theory.proofs.laws.rows_stand_for_short_subwords.Goals as goal

pub returns-clause-row : goal.returns-clause-row
returns-clause-row c k n w o = row_is k n w o

pub returns-clause-one : goal.returns-clause-one
returns-clause-one c k n w one other _ h g = one_row k n w one other h g

pub returns-clause-same : goal.returns-clause-same
returns-clause-same c = same_rows

pub returns-clause-next : goal.returns-clause-next
returns-clause-next c k n a w marks _ l h = next_row_of k n a w marks l h
