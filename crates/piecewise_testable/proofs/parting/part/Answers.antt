use Rattle.piecewise_testable.proofs.Between.{none_matches, word_in, congruent_elements_by_words}
use Rattle.piecewise_testable.proofs.parting.part.Goals as goal

pub unreachable-requires : goal.unreachable-requires
unreachable-requires c =
    let m = c.args.monoid.now in
    let g = c.cayley-cayley.result.now in
    let e = c.cayley-cayley.ensures.graphs in
    c.requires.apart
    (congruent_elements_by_words m c.cayley-cayley.ensures.syntactic c.args.i c.args.j
    c.in_ok-s.s c.in_ok-t.t c.requires.one c.requires.other
    (word_in m g e c.args.i c.in_ok-s.s c.in_ok-s.ensures.word)
    (word_in m g e c.args.j c.in_ok-t.t c.in_ok-t.ensures.word)
    (none_matches c.in_ok-pair.field-0 _ _ c.in_default.is c.in_ok-pair.ensures))
