use Rattle.language_theory.specs.Words.{word_at}
use Rattle.language_theory.specs.ShortlexGraph.{SameNode}
use Rattle.piecewise_testable.specs.Sides.{Leads}
use Rattle.piecewise_testable.proofs.Searches.{sought_at_first, sought_further}
use Rattle.piecewise_testable.proofs.RoundNumbers.{some_leads, first_leads, leads_by_place}
use Rattle.piecewise_testable.proofs.rounds.first_back.Goals as goal

pub loop-side-init : goal.loop-side-init
loop-side-init c =
    let g = c.args.cayley.now in
    let h = c.len-len.ensures.graphs in
    let from = word_at g.words c.args.from in
    let to = word_at g.words c.args.to in
    let l = h.shortlex.least in
    sought_at_first _
    (λ e. Leads c.args.side (SameNode g.right) from to (word_at g.words e))
    (some_leads c.args.side g.right.letters (SameNode g.right) g.words h.congruence l from to
    (l.over c.args.from c.requires.from) (l.over c.args.to c.requires.to) c.requires.some)

pub loop-side-preserved : goal.loop-side-preserved
loop-side-preserved c =
    let g = c.args.cayley.now in
    let h = c.len-len.ensures.graphs in
    let from = word_at g.words c.args.from in
    let to = word_at g.words c.args.to in
    let l = h.shortlex.least in
    let e = c.loop-side.element in
    sought_further _
    (λ e. Leads c.args.side (SameNode g.right) from to (word_at g.words e))
    (some_leads c.args.side g.right.letters (SameNode g.right) g.words h.congruence l from to
    (l.over c.args.from c.requires.from) (l.over c.args.to c.requires.to) c.requires.some)
    e c.loop-side.invariant
    (λ m. let f = c.loop-side-test.true in f
    ((leads_by_place c.args.side g.right.letters (SameNode g.right) g.words h.congruence l
    c.args.from c.args.to c.with_element.result (word_at g.words e) c.requires.from c.requires.to
    (l.over e c.loop-side.invariant.within) c.with_element.ensures.place).1 m))

pub returns-clause-least : goal.returns-clause-least
returns-clause-least c =
    let g = c.args.cayley.now in
    let h = c.len-len.ensures.graphs in
    let from = word_at g.words c.args.from in
    let to = word_at g.words c.args.to in
    let l = h.shortlex.least in
    let e = c.loop-side.element in
    first_leads c.args.side g.right.letters (SameNode g.right) g.words h.congruence l from to
    (l.over c.args.from c.requires.from) (l.over c.args.to c.requires.to) e
    c.loop-side.invariant.within
    ((leads_by_place c.args.side g.right.letters (SameNode g.right) g.words h.congruence l
    c.args.from c.args.to c.with_element.result (word_at g.words e) c.requires.from c.requires.to
    (l.over e c.loop-side.invariant.within) c.with_element.ensures.place).0
    c.loop-side-test.false)
    c.loop-side.invariant.before
