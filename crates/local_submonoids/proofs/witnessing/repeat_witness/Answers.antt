use Rattle.local_submonoids.proofs.FirstFlaws.{listed_in, repeat_words, repeat_witness_is}
use Rattle.local_submonoids.proofs.witnessing.repeat_witness.Goals as goal

pub part-requires-clause-one : goal.part-requires-clause-one
part-requires-clause-one c =
    (repeat_words c.args.monoid.now c.cayley-elements.ensures.syntactic c.args.e c.in_ok-x.x
    c.in_ok-x.ensures c.args.s c.requires c.in_ok-y.y c.in_ok-once.once c.in_ok-twice.twice
    (listed_in c.args.monoid.now c.cayley-elements.result.now c.args.s c.in_ok-y.y
    c.in_ok-y.ensures.word c.cayley-elements.ensures.graphs)
    c.in_ok-once.ensures c.in_ok-twice.ensures).0

pub part-requires-clause-other : goal.part-requires-clause-other
part-requires-clause-other c =
    (repeat_words c.args.monoid.now c.cayley-elements.ensures.syntactic c.args.e c.in_ok-x.x
    c.in_ok-x.ensures c.args.s c.requires c.in_ok-y.y c.in_ok-once.once c.in_ok-twice.twice
    (listed_in c.args.monoid.now c.cayley-elements.result.now c.args.s c.in_ok-y.y
    c.in_ok-y.ensures.word c.cayley-elements.ensures.graphs)
    c.in_ok-once.ensures c.in_ok-twice.ensures).1

pub part-requires-clause-apart : goal.part-requires-clause-apart
part-requires-clause-apart c =
    (repeat_words c.args.monoid.now c.cayley-elements.ensures.syntactic c.args.e c.in_ok-x.x
    c.in_ok-x.ensures c.args.s c.requires c.in_ok-y.y c.in_ok-once.once c.in_ok-twice.twice
    (listed_in c.args.monoid.now c.cayley-elements.result.now c.args.s c.in_ok-y.y
    c.in_ok-y.ensures.word c.cayley-elements.ensures.graphs)
    c.in_ok-once.ensures c.in_ok-twice.ensures).2

pub returns : goal.returns
returns c =
    repeat_witness_is c.args.monoid.now c.cayley-elements.ensures.syntactic c.args.e c.in_ok-x.x
    c.in_ok-x.ensures c.args.s c.requires c.in_ok-y.y c.in_ok-once.once c.in_ok-twice.twice
    (listed_in c.args.monoid.now c.cayley-elements.result.now c.args.s c.in_ok-y.y
    c.in_ok-y.ensures.word c.cayley-elements.ensures.graphs)
    c.in_ok-once.ensures c.in_ok-twice.ensures c.new.result c.in_ok-parting.parting.u
    c.in_ok-parting.parting.v c.in_ok-parting.parting.first_in c.new.ensures
    c.in_ok-parting.ensures.context c.in_ok-parting.ensures.first_in
