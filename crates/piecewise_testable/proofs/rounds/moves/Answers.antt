use Rattle.std.proofs.Common.{[], ◌∷◌}
use Rattle.language_theory.specs.Words.{word_at}
use Rattle.language_theory.specs.ShortlexGraph.{SameNode}
use Rattle.piecewise_testable.specs.Sides.{beside}
use Rattle.piecewise_testable.specs.Rounds.{labels_on}
use Rattle.piecewise_testable.proofs.BothSides.{mates_on, over_beside}
use Rattle.piecewise_testable.proofs.Others.{other_by_labels}
use Rattle.piecewise_testable.proofs.rounds.moves.Goals as goal

pub returns-then-moved-element : goal.returns-then-moved-element
returns-then-moved-element c =
    let g = c.args.cayley.now in
    let h = c.len-len.ensures.graphs in
    let side = c.args.side in
    let s = word_at g.words c.args.element in
    let l = h.shortlex.least in
    other_by_labels side g.right.letters (SameNode g.right) g.words h.congruence l
    (labels_on side c.args.green.now)
    (mates_on side g.right.letters (SameNode g.right) g.words c.args.green.now c.requires.green)
    c.args.element c.with_letter-moved.result c.class_on.result
    c.class_on-then-moved-element.result (beside side s (c.args.letter ∷ []))
    c.requires.element
    (over_beside side g.right.letters s (c.args.letter ∷ [])
    (l.over c.args.element c.requires.element) (c.requires.letter, tt))
    c.with_letter-moved.ensures.place c.class_on.ensures c.class_on-then-moved-element.ensures
    c.if-moved-element.true
