use Rattle.std.proofs.Common.{◌∙◌, ap, Some}
use Rattle.star_free_theory.specs.declared.nodes.SfNode.TheVariants as node
use Rattle.star_free_theory.specs.Construction.{take, free}
use Rattle.local_divisors.proofs.Steps.{stops, stops_as, bind_done}
use Rattle.local_divisors.proofs.building.Builder.free.Goals as goal

pub returns-in_err-before : goal.returns-in_err-before
returns-in_err-before c =
    let e0 = ap (λ b. free (Some c.args.most) b c.args.self.now c.args.node c.args.universe)
    c.if-alone.false in
    stops (take (Some c.args.most) c.args.self.now (node.Cat c.args.universe c.args.node)) _ _
    _ c.in_err-before.field-0.0 _ e0 c.in_err-before.ensures
    c.from_residual.ensures.1

pub returns-in_err-around : goal.returns-in_err-around
returns-in_err-around c =
    let e0 = ap (λ b. free (Some c.args.most) b c.args.self.now c.args.node c.args.universe)
    c.if-alone.false in
    let e1 = e0
    ∙ bind_done (take (Some c.args.most) c.args.self.now (node.Cat c.args.universe c.args.node))
    _ (c.take.new.self, c.in_ok-before.before) c.in_ok-before.ensures in
    stops (take (Some c.args.most) c.take.new.self (node.Cat c.in_ok-before.before c.args.universe))
    _ _ _ c.in_err-around.field-0.0 _ e1 c.in_err-around.ensures
    c.from_residual-in_err-around.ensures.1

pub returns-in_err-outside : goal.returns-in_err-outside
returns-in_err-outside c =
    let e0 = ap (λ b. free (Some c.args.most) b c.args.self.now c.args.node c.args.universe)
    c.if-alone.false in
    let e1 = e0
    ∙ bind_done (take (Some c.args.most) c.args.self.now (node.Cat c.args.universe c.args.node))
    _ (c.take.new.self, c.in_ok-before.before) c.in_ok-before.ensures in
    let e2 = e1 ∙ bind_done (take (Some c.args.most) c.take.new.self (node.Cat c.in_ok-before.before
    c.args.universe)) _ (c.take-2.new.self, c.in_ok-around.around) c.in_ok-around.ensures in
    stops (take (Some c.args.most) c.take-2.new.self (node.Not c.in_ok-around.around)) _ _
    _ c.in_err-outside.field-0.0 _ e2 c.in_err-outside.ensures
    c.from_residual-in_err-outside.ensures.1

pub returns-in_err-free : goal.returns-in_err-free
returns-in_err-free c =
    let e0 = ap (λ b. free (Some c.args.most) b c.args.self.now c.args.node c.args.universe)
    c.if-alone.false in
    let e1 = e0
    ∙ bind_done (take (Some c.args.most) c.args.self.now (node.Cat c.args.universe c.args.node))
    _ (c.take.new.self, c.in_ok-before.before) c.in_ok-before.ensures in
    let e2 = e1 ∙ bind_done (take (Some c.args.most) c.take.new.self (node.Cat c.in_ok-before.before
    c.args.universe)) _ (c.take-2.new.self, c.in_ok-around.around) c.in_ok-around.ensures in
    let e3 = e2
    ∙ bind_done (take (Some c.args.most) c.take-2.new.self (node.Not c.in_ok-around.around)) _
    (c.take-3.new.self, c.in_ok-outside.outside) c.in_ok-outside.ensures in
    stops_as (take (Some c.args.most) c.take-3.new.self (node.And c.args.universe
    c.in_ok-outside.outside)) _ _ c.in_err-free.field-0.0 _ e3
    c.in_err-free.ensures c.from_residual-in_err-free.ensures.1

pub returns : goal.returns
returns c =
    let e0 = ap (λ b. free (Some c.args.most) b c.args.self.now c.args.node c.args.universe)
    c.if-alone.false in
    let e1 = e0
    ∙ bind_done (take (Some c.args.most) c.args.self.now (node.Cat c.args.universe c.args.node))
    _ (c.take.new.self, c.in_ok-before.before) c.in_ok-before.ensures in
    let e2 = e1 ∙ bind_done (take (Some c.args.most) c.take.new.self (node.Cat c.in_ok-before.before
    c.args.universe)) _ (c.take-2.new.self, c.in_ok-around.around) c.in_ok-around.ensures in
    let e3 = e2
    ∙ bind_done (take (Some c.args.most) c.take-2.new.self (node.Not c.in_ok-around.around)) _
    (c.take-3.new.self, c.in_ok-outside.outside) c.in_ok-outside.ensures in
    e3 ∙ c.in_ok-free.ensures
