use Rattle.monoid_theory.proofs.Groups.{identity_before, identity_behind, product_stays, has_inverse, one_idempotent}
use Rattle.monoid_theory.proofs.green.idempotent_classes_are_groups.Goals as goal

pub returns-clause-identity : goal.returns-clause-identity
returns-clause-identity g c k q e s oe os idempotent h = (
  identity_before k g.R.Relation.same q e oe idempotent s os h.0.0,
  identity_behind k g.R.Relation.same q e oe idempotent s os h.1.0,
)

pub returns-clause-product : goal.returns-clause-product
returns-clause-product g c k q e s t oe os ot idempotent =
    product_stays k g.R.Relation.same q e oe idempotent s t os ot

pub returns-clause-inverse : goal.returns-clause-inverse
returns-clause-inverse g c k q e s oe os idempotent =
    has_inverse k g.R.Relation.same q e oe idempotent s os

pub returns-clause-one : goal.returns-clause-one
returns-clause-one g c k q = one_idempotent k g.R.Relation.same q
