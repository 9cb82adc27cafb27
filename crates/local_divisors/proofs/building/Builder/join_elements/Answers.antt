use Rattle.std.proofs.Common.{◌∙◌, sym, Some, slice_index, get_or}
use Rattle.star_free_theory.specs.Construction.{join}
use Rattle.local_divisors.proofs.Steps.{stops, bind_done, finals_at}
use Rattle.local_divisors.proofs.building.Builder.join_elements.Goals as goal

pub returns-in_err-number : goal.returns-in_err-number
returns-in_err-number c =
    let f = slice_index c.args.nodes.now in
    let p = get_or c.args.elements.now c.loop-element.element-index 0 in
    let e = sym c.loop-element.invariant ∙ finals_at (Some c.args.most) f c.loop-element.joined
    c.args.elements.now c.loop-element.element-index c.loop-element.self
    c.loop-element-test.true in
    stops (join (Some c.args.most) c.loop-element.joined c.loop-element.self (f p)) _ _
    _ c.in_err-number.field-0.0 _ e c.in_err-number.ensures
    c.from_residual.ensures.1

pub loop-element-preserved : goal.loop-element-preserved
loop-element-preserved c =
    let f = slice_index c.args.nodes.now in
    let p = get_or c.args.elements.now c.loop-element.element-index 0 in
    let e = sym c.loop-element.invariant ∙ finals_at (Some c.args.most) f c.loop-element.joined
    c.args.elements.now c.loop-element.element-index c.loop-element.self
    c.loop-element-test.true
    ∙ bind_done (join (Some c.args.most) c.loop-element.joined c.loop-element.self (f p)) _
    (c.join.new.self, c.in_ok-number.number) c.in_ok-number.ensures in
    sym e
