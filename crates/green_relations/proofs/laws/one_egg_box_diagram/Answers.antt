use Rattle.green_relations.proofs.OneDiagram.{one_egg_box_list}
use Rattle.green_relations.proofs.laws.one_egg_box_diagram.Goals as goal

pub returns : goal.returns
returns g c k words xs ys = one_egg_box_list k g.R.Relation.same words xs ys
