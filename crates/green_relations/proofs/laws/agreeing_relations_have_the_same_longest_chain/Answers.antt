use Rattle.green_relations.proofs.ChainLaws.{longest_chain_agrees}
use Rattle.green_relations.proofs.laws.agreeing_relations_have_the_same_longest_chain.Goals as goal

pub returns : goal.returns
returns g c k words chain a o h =
    longest_chain_agrees k words o g.R.Relation.same g.S.Relation.same chain a h
