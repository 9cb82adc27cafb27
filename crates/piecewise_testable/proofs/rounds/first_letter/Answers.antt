use Rattle.language_theory.specs.Words.{word_at}
use Rattle.language_theory.specs.ShortlexGraph.{SameNode}
use Rattle.piecewise_testable.specs.Sides.{Moves}
use Rattle.piecewise_testable.proofs.Letters.{some_letter}
use Rattle.piecewise_testable.proofs.Searches.{sought_at_first, sought_further, least_letter}
use Rattle.piecewise_testable.proofs.rounds.first_letter.Goals as goal

pub loop-side-init : goal.loop-side-init
loop-side-init c =
    let g = c.args.cayley.now in
    let h = c.len-len.ensures.graphs in
    let s = word_at g.words c.args.element in
    sought_at_first g.right.letters (Moves c.args.side g.right.letters (SameNode g.right) s)
    (some_letter g.right.letters (SameNode g.right) h.congruence g.words h.shortlex.least
    c.args.side s (h.shortlex.least.over c.args.element c.requires.element) c.requires.other)

pub loop-side-preserved : goal.loop-side-preserved
loop-side-preserved c =
    let g = c.args.cayley.now in
    let h = c.len-len.ensures.graphs in
    let s = word_at g.words c.args.element in
    sought_further g.right.letters (Moves c.args.side g.right.letters (SameNode g.right) s)
    (some_letter g.right.letters (SameNode g.right) h.congruence g.words h.shortlex.least
    c.args.side s (h.shortlex.least.over c.args.element c.requires.element) c.requires.other)
    c.loop-side.letter c.loop-side.invariant
    (λ m. let t = c.moves.ensures.1 m in let f = c.loop-side-test.true in cc)

pub returns : goal.returns
returns c =
    let g = c.args.cayley.now in
    least_letter g.right.letters
    (Moves c.args.side g.right.letters (SameNode g.right) (word_at g.words c.args.element))
    c.loop-side.letter c.loop-side.invariant.within (c.moves.ensures.0 c.loop-side-test.false)
    c.loop-side.invariant.before
