use Rattle.piecewise_testable.proofs.SwapWitness.{commutative_in, witness_of_swap}
use Rattle.piecewise_testable.proofs.commuting.commutative.Goals as goal

pub returns-in_default : goal.returns-in_default
returns-in_default c =
    commutative_in c.args.monoid.now c.cayley-cayley.ensures.syntactic
    c.cayley-cayley.result.now c.cayley-cayley.ensures.graphs c.in_default.ensures

pub returns : goal.returns
returns c =
    witness_of_swap c.args.monoid.now c.cayley-cayley.ensures.syntactic
    c.cayley-cayley.result.now c.cayley-cayley.ensures.graphs c.in-Some.a c.in-Some.b
    c.two_letters-first.result c.two_letters-second.result c.in_ok-parting.parting
    c.two_letters-first.ensures.within c.two_letters-second.ensures.within
    (record {
      first = c.in-Some.ensures.0;
      second = c.in-Some.ensures.1;
      one = c.two_letters-first.ensures.node;
      other = c.two_letters-second.ensures.node;
      parting = c.in_ok-parting.ensures;
    })
