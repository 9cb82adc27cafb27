use Rattle.green_relations.proofs.ChainLaws.{chain_is_short}
use Rattle.green_relations.proofs.laws.chains_are_short.Goals as goal

pub returns : goal.returns
returns g c k words chain q l h = chain_is_short k g.R.Relation.same q words l chain h
