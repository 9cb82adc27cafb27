use Rattle.star_free_theory.proofs.Places.{are_algebras, value_place}
use Rattle.star_free_theory.proofs.construction.aperiodic_congruences_have_algebras.Goals as goal

pub returns-clause-algebra : goal.returns-clause-algebra
returns-clause-algebra g c k words product image q l p i a = are_algebras k g.R.Relation.same words
    q l product p image i a

pub returns-clause-value : goal.returns-clause-value
returns-clause-value g c k words product image q l p i = value_place k g.R.Relation.same words q l
    product p image i
