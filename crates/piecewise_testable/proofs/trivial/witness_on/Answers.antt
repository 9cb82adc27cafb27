use Rattle.std.proofs.Common.{refl}
use Rattle.piecewise_testable.proofs.Between.{word_in}
use Rattle.piecewise_testable.proofs.RoundWitness.{trivial_in, round_in, witness_of_round}
use Rattle.piecewise_testable.proofs.trivial.witness_on.Goals as goal

pub returns-in_default : goal.returns-in_default
returns-in_default c =
    trivial_in c.args.monoid.now c.cayley-cayley.ensures.syntactic c.args.side
    c.cayley-cayley.result.now c.cayley-cayley.ensures.graphs c.in_default.ensures

pub returns : goal.returns
returns c =
    let m = c.args.monoid.now in
    let h = c.cayley-cayley.ensures.syntactic in
    let g = c.cayley-cayley.result.now in
    let e = c.cayley-cayley.ensures.graphs in
    let r = c.in-Some.round in (
      refl,
      witness_of_round m h c.args.side r (round_in m h c.args.side g e r c.in-Some.ensures)
          c.in_ok-parting.parting c.in_ok-parting.ensures c.in_ok-s.s c.in_ok-y.y
          (word_in m g e r.element c.in_ok-s.s c.in_ok-s.ensures.word)
          (word_in m g e r.back c.in_ok-y.y c.in_ok-y.ensures.word),
    )
