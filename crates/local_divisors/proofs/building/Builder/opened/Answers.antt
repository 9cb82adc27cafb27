use Rattle.std.proofs.Common.{◌∙◌, ap, Some}
use Rattle.star_free_theory.specs.declared.nodes.SfNode.TheVariants as node
use Rattle.star_free_theory.specs.Construction.{take, opened}
use Rattle.local_divisors.proofs.Steps.{stops, stops_as, bind_done}
use Rattle.local_divisors.proofs.building.Builder.opened.Goals as goal

pub returns-in_err-begun : goal.returns-in_err-begun
returns-in_err-begun c =
    let e0 = ap (λ b. opened (Some c.args.most) b c.args.self.now c.args.node c.args.universe)
    c.if-alone.false in
    stops (take (Some c.args.most) c.args.self.now (node.Cat c.args.node c.args.universe)) _ _
    _ c.in_err-begun.field-0.0 _ e0 c.in_err-begun.ensures
    c.from_residual.ensures.1

pub returns-in_err-opened : goal.returns-in_err-opened
returns-in_err-opened c =
    let e0 = ap (λ b. opened (Some c.args.most) b c.args.self.now c.args.node c.args.universe)
    c.if-alone.false in
    let e1 = e0
    ∙ bind_done (take (Some c.args.most) c.args.self.now (node.Cat c.args.node c.args.universe))
    _ (c.take.new.self, c.in_ok-begun.begun) c.in_ok-begun.ensures in
    stops_as (take (Some c.args.most) c.take.new.self (node.Or c.in_ok-begun.begun 2)) _
    _ c.in_err-opened.field-0.0 _ e1 c.in_err-opened.ensures
    c.from_residual-in_err-opened.ensures.1

pub returns : goal.returns
returns c =
    let e0 = ap (λ b. opened (Some c.args.most) b c.args.self.now c.args.node c.args.universe)
    c.if-alone.false in
    let e1 = e0
    ∙ bind_done (take (Some c.args.most) c.args.self.now (node.Cat c.args.node c.args.universe))
    _ (c.take.new.self, c.in_ok-begun.begun) c.in_ok-begun.ensures in
    e1 ∙ c.in_ok-opened.ensures
