use Rattle.monoid_theory.specs.Green.{IsR, IsL, IsJ}
use Rattle.monoid_theory.proofs.Ideals.{r_equivalence, l_equivalence, j_equivalence, h_of_related, l_in_j}
use Rattle.monoid_theory.proofs.Trivial.{trivial_by_listed}
use Rattle.monoid_theory.proofs.green.listed_words_tell_trivial_monoids.Goals as goal

pub returns-clause-right : goal.returns-clause-right
returns-clause-right g c k words q l =
    trivial_by_listed k g.R.Relation.same (IsR k g.R.Relation.same) words q.equivalence l
    (r_equivalence k g.R.Relation.same q)
    (λ s t os ot h. (h_of_related k g.R.Relation.same q.equivalence s t os ot h).0)

pub returns-clause-left : goal.returns-clause-left
returns-clause-left g c k words q l =
    trivial_by_listed k g.R.Relation.same (IsL k g.R.Relation.same) words q.equivalence l
    (l_equivalence k g.R.Relation.same q)
    (λ s t os ot h. (h_of_related k g.R.Relation.same q.equivalence s t os ot h).1)

pub returns-clause-two_sided : goal.returns-clause-two_sided
returns-clause-two_sided g c k words q l =
    trivial_by_listed k g.R.Relation.same (IsJ k g.R.Relation.same) words q.equivalence l
    (j_equivalence k g.R.Relation.same q)
    (λ s t os ot h. l_in_j k g.R.Relation.same s t
    (h_of_related k g.R.Relation.same q.equivalence s t os ot h).1)
