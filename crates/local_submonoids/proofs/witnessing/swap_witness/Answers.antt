use Rattle.local_submonoids.proofs.FirstFlaws.{listed_in, swap_words, swap_witness_is}
use Rattle.local_submonoids.proofs.witnessing.swap_witness.Goals as goal

pub part-requires-clause-one : goal.part-requires-clause-one
part-requires-clause-one c =
    (swap_words c.args.monoid.now c.cayley-elements.ensures.syntactic c.args.e c.in_ok-x.x
    c.in_ok-x.ensures c.args.s c.args.t c.requires c.in_ok-y.y c.in_ok-z.z c.in_ok-both.both.first
    c.in_ok-both.both.second
    (listed_in c.args.monoid.now c.cayley-elements.result.now c.args.s c.in_ok-y.y
    c.in_ok-y.ensures.word c.cayley-elements.ensures.graphs)
    (listed_in c.args.monoid.now c.cayley-elements.result.now c.args.t c.in_ok-z.z
    c.in_ok-z.ensures.word c.cayley-elements.ensures.graphs)
    c.in_ok-both.ensures.first c.in_ok-both.ensures.second).0

pub part-requires-clause-other : goal.part-requires-clause-other
part-requires-clause-other c =
    (swap_words c.args.monoid.now c.cayley-elements.ensures.syntactic c.args.e c.in_ok-x.x
    c.in_ok-x.ensures c.args.s c.args.t c.requires c.in_ok-y.y c.in_ok-z.z c.in_ok-both.both.first
    c.in_ok-both.both.second
    (listed_in c.args.monoid.now c.cayley-elements.result.now c.args.s c.in_ok-y.y
    c.in_ok-y.ensures.word c.cayley-elements.ensures.graphs)
    (listed_in c.args.monoid.now c.cayley-elements.result.now c.args.t c.in_ok-z.z
    c.in_ok-z.ensures.word c.cayley-elements.ensures.graphs)
    c.in_ok-both.ensures.first c.in_ok-both.ensures.second).1

pub part-requires-clause-apart : goal.part-requires-clause-apart
part-requires-clause-apart c =
    (swap_words c.args.monoid.now c.cayley-elements.ensures.syntactic c.args.e c.in_ok-x.x
    c.in_ok-x.ensures c.args.s c.args.t c.requires c.in_ok-y.y c.in_ok-z.z c.in_ok-both.both.first
    c.in_ok-both.both.second
    (listed_in c.args.monoid.now c.cayley-elements.result.now c.args.s c.in_ok-y.y
    c.in_ok-y.ensures.word c.cayley-elements.ensures.graphs)
    (listed_in c.args.monoid.now c.cayley-elements.result.now c.args.t c.in_ok-z.z
    c.in_ok-z.ensures.word c.cayley-elements.ensures.graphs)
    c.in_ok-both.ensures.first c.in_ok-both.ensures.second).2

pub returns : goal.returns
returns c =
    swap_witness_is c.args.monoid.now c.cayley-elements.ensures.syntactic c.args.e c.in_ok-x.x
    c.in_ok-x.ensures c.args.s c.args.t c.requires c.in_ok-y.y c.in_ok-z.z c.in_ok-both.both.first
    c.in_ok-both.both.second
    (listed_in c.args.monoid.now c.cayley-elements.result.now c.args.s c.in_ok-y.y
    c.in_ok-y.ensures.word c.cayley-elements.ensures.graphs)
    (listed_in c.args.monoid.now c.cayley-elements.result.now c.args.t c.in_ok-z.z
    c.in_ok-z.ensures.word c.cayley-elements.ensures.graphs)
    c.in_ok-both.ensures.first c.in_ok-both.ensures.second
    c.in_ok-parting.parting.u c.in_ok-parting.parting.v c.in_ok-parting.parting.first_in
    c.in_ok-parting.ensures.context c.in_ok-parting.ensures.first_in
