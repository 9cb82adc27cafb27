use Rattle.monoid_theory.proofs.Cells.{cells_have_one_size}
use Rattle.monoid_theory.proofs.green.cells_of_one_box_have_one_size.Goals as goal

pub returns : goal.returns
returns g c k words q l = cells_have_one_size k g.R.Relation.same words q l
