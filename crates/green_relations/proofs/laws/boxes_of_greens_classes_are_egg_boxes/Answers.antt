use Rattle.green_relations.proofs.EggBoxLaws.{egg_boxes}
use Rattle.green_relations.proofs.laws.boxes_of_greens_classes_are_egg_boxes.Goals as goal

pub returns : goal.returns
returns g c k words classes boxes q l a h =
    egg_boxes k g.R.Relation.same words classes boxes q l a h
