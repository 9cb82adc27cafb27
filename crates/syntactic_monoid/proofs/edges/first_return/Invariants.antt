use Rattle.syntactic_monoid.proofs.Semigroup.{IsNoReturn}
use Rattle.syntactic_monoid.proofs.edges.first_return.Given as goal

abbrev pub invariant-loop-place : goal.invariant-loop-place
invariant-loop-place l = IsNoReturn l.cayley.right l.place
