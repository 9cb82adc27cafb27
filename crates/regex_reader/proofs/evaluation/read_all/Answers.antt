use Rattle.std.proofs.Common.{rules, arith, ◌≡◌, ◌+◌, ◌-◌, ◌<◌, ◌≤◌, length, drop, sym, subst, ◌∙◌}
use Rattle.expression_theory.specs.Polish as notation
use Rattle.regex_reader.specs.Parts.{IsEvaluated, CanRead}
use Rattle.regex_reader.proofs.Nodes.{can_read, all_read}
use Rattle.regex_reader.proofs.evaluation.read_all.Goals as goal
use Rattle.regex_reader.specs.Marks.{widest}

pub read_first-requires : goal.read_first-requires
read_first-requires c =
    let ns = c.args.nodes.now in
    let i = c.loop-place.place - 1 in
    let above : 0 < c.loop-place.place = c.loop-place-test.true in
    let inside : c.loop-place.place ≤ length c.args.nodes.now = c.loop-place.invariant.place in
    let e : c.loop-place.place ≡ i + 1 = omega arith in
    let w = c.loop-place.invariant.width in
    let width : c.loop-place.marks.width ≡ length (notation.letters ns) + 1 = w ∙ c.requires.room in
    let can : CanRead (drop i ns) c.loop-place.position c.loop-place.parts.items
    c.loop-place.marks =
    can_read ns i c.loop-place.position c.loop-place.parts.items c.loop-place.marks
    c.requires.notation width (subst (λ k. k ≤ widest) (sym w) c.requires.narrow)
    (omega arith)
    (subst (λ k. IsEvaluated (notation.trees (drop k ns)) c.loop-place.position
    c.loop-place.parts.items c.loop-place.marks) e c.loop-place.invariant.evaluated) in
    let rest : c.split_at.result.1.now ≡ drop i c.args.nodes.now = search rules in
    subst (λ ms. CanRead ms c.loop-place.position c.loop-place.parts.items c.loop-place.marks)
    (sym rest) can

pub loop-place-preserved : goal.loop-place-preserved
loop-place-preserved c =
    let inside : c.loop-place.place ≤ length c.args.nodes.now = c.loop-place.invariant.place in
    let rest : c.split_at.result.1.now ≡ drop (c.loop-place.place - 1) c.args.nodes.now =
    search rules in
    record {
      place = omega arith;
      width = c.in_ok-position.ensures.width ∙ c.loop-place.invariant.width;
      evaluated =
          subst (λ ms. IsEvaluated (notation.trees ms) c.in_ok-position.position
          c.read_first.new.parts.items c.read_first.new.marks)
          rest c.in_ok-position.ensures.evaluated;
    }

pub returns-clause-evaluated : goal.returns-clause-evaluated
returns-clause-evaluated c =
    all_read c.args.nodes.now c.loop-place.place c.loop-place.position c.loop-place.parts.items
    c.loop-place.marks c.requires.notation
    (c.loop-place.invariant.width ∙ c.requires.room) c.loop-place-test.false
    c.loop-place.invariant.evaluated
