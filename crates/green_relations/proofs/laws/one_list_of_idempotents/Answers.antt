use Rattle.monoid_theory.specs.Green.{IsIdempotent}
use Rattle.green_relations.proofs.OneDiagram.{one_mark_list}
use Rattle.green_relations.proofs.laws.one_list_of_idempotents.Goals as goal

pub returns : goal.returns
returns g c words = one_mark_list words (IsIdempotent g.R.Relation.same)
