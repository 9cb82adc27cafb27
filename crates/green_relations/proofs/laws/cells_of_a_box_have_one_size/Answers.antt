use Rattle.green_relations.proofs.CellSizes.{egg_boxes_have_one_size}
use Rattle.green_relations.proofs.laws.cells_of_a_box_have_one_size.Goals as goal

pub returns : goal.returns
returns g c k words boxes q l h b y x v u =
    egg_boxes_have_one_size k g.R.Relation.same words q l boxes h b y x v u
