use Rattle.std.proofs.Common.{◌<◌, false, length, refl, arith, ◌∙◌}
use Rattle.std.proofs.lemmas.Bool.{both_ways}
use Rattle.simon_bound.proofs.TrivialLabels.{trivial_by_labels}
use Rattle.simon_bound.proofs.bound.j_trivial.Goals as goal

pub returns-then-j_class-element : goal.returns-then-j_class-element
returns-then-j_class-element c =
    let inside : c.loop-element.element < length c.args.cayley.now.words =
    omega (arith, c.loop-element-test.true, c.len-element-end.ensures.len) in
    let by_labels = trivial_by_labels c.args.cayley.now c.len-element-end.ensures.graphs
    c.args.green.now c.requires.green in (
      λ f. absurd (both_ways false refl f),
      λ t. absurd (c.if-j_class-element.true
          (c.j_class.ensures ∙ by_labels.1 t c.loop-element.element inside)),
    )

pub returns : goal.returns
returns c =
    let by_labels = trivial_by_labels c.args.cayley.now c.len-element-end.ensures.graphs
    c.args.green.now c.requires.green in (
      λ f. by_labels.0 (λ x b. c.loop-element.invariant x (omega (
        arith,
        b,
        c.loop-element-test.false,
        c.len-element-end.ensures.len,
      ))),
      λ t. refl,
    )
