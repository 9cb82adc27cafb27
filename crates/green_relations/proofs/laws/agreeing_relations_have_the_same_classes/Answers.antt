use Rattle.green_relations.proofs.AgreeingClasses.{greens_agree}
use Rattle.green_relations.proofs.laws.agreeing_relations_have_the_same_classes.Goals as goal

pub returns : goal.returns
returns g c k words classes a o h =
    greens_agree k words o g.R.Relation.same g.S.Relation.same classes a h
