use Rattle.green_relations.proofs.ChainLaws.{one_longest_chain}
use Rattle.green_relations.proofs.laws.longest_chains_are_one.Goals as goal

pub returns : goal.returns
returns g c k words xs ys = one_longest_chain k g.R.Relation.same words xs ys
