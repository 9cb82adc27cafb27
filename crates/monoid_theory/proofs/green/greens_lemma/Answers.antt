use Rattle.monoid_theory.proofs.Cells.{stays_in_row, comes_to_column, comes_back_right}
use Rattle.monoid_theory.proofs.green.greens_lemma.Goals as goal

pub returns-clause-row : goal.returns-clause-row
returns-clause-row g c k q = stays_in_row k g.R.Relation.same q

pub returns-clause-column : goal.returns-clause-column
returns-clause-column g c k q = comes_to_column k g.R.Relation.same q

pub returns-clause-undone : goal.returns-clause-undone
returns-clause-undone g c k q = comes_back_right k g.R.Relation.same q
