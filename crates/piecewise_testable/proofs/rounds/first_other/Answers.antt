use Rattle.std.proofs.Common.{length, ◌∙◌, arith}
use Rattle.language_theory.specs.ShortlexGraph.{SameNode}
use Rattle.piecewise_testable.specs.Rounds.{labels_on}
use Rattle.piecewise_testable.proofs.BothSides.{mates_on}
use Rattle.piecewise_testable.proofs.Others.{shared_less, shared_more, first_is_least, none_is_trivial}
use Rattle.piecewise_testable.proofs.rounds.first_other.Goals as goal
use Rattle.piecewise_testable.proofs.rounds.first_other.Goals.{then-least-element, else-least-element}

pub loop-element-preserved : goal.loop-element-preserved
loop-element-preserved c =
    let labels = labels_on c.args.side c.args.green.now in
    let n = length c.args.cayley.now.words in
    let at = c.class_on-least.ensures in
    elim c.if-least-element.branch [
      | then-least-element w ↦ shared_less labels n c.loop-element.element c.loop-element.first
          c.class_on-least.result c.if-least-element.first c.loop-element.invariant at
          (w.first-is ∙ w.min-first.ensures) w.if-least-element.true
      | else-least-element w ↦ shared_more labels n c.loop-element.element c.loop-element.first
          c.class_on-least.result c.if-least-element.first c.loop-element.invariant at w.first-is
          w.if-least-element.false
    ]

pub returns-then-first-len-clause-other : goal.returns-then-first-len-clause-other
returns-then-first-len-clause-other c =
    let g = c.args.cayley.now in
    let h = c.len-first.ensures.graphs in
    let side = c.args.side in
    first_is_least side g.right.letters (SameNode g.right) g.words h.congruence h.shortlex.least
    (labels_on side c.args.green.now)
    (mates_on side g.right.letters (SameNode g.right) g.words c.args.green.now c.requires)
    c.loop-element.element c.loop-element.first (omega arith) c.loop-element.invariant
    (omega arith)

pub returns-else-first-len-clause-other : goal.returns-else-first-len-clause-other
returns-else-first-len-clause-other c =
    let g = c.args.cayley.now in
    let h = c.len-first.ensures.graphs in
    let side = c.args.side in
    none_is_trivial side g.right.letters (SameNode g.right) g.words h.congruence h.shortlex.least
    (labels_on side c.args.green.now)
    (mates_on side g.right.letters (SameNode g.right) g.words c.args.green.now c.requires)
    c.loop-element.element c.loop-element.first (omega arith) c.loop-element.invariant
    (omega arith)
