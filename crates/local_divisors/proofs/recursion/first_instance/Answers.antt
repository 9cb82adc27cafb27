use Rattle.std.proofs.Common.{◌≡◌, ◌∙◌, ℕ, List, Some, slice_index, refl}
use Rattle.star_free_theory.specs.declared.nodes.SfNode.{SfNode}
use Rattle.star_free_theory.specs.Construction.{Outcome, free, is_none_left}
use Rattle.local_divisors.specs.Recursion.{first_flat}
use Rattle.local_divisors.proofs.Recursing.{node_within, stops_own}
use Rattle.local_divisors.proofs.recursion.first_instance.Goals as goal

pub node-node-requires : goal.node-node-requires
node-node-requires c = node_within c.args.product.now c.args.task.now c.args.choice.now.letter
    c.args.choice.now.others.items c.args.choice.now.submonoid.items c.args.choice.now.divisor.items
    c.requires

pub returns-in_err-universe : goal.returns-in_err-universe
returns-in_err-universe c =
    let t = c.args.task.now in
    let os = c.args.choice.now.others.items in
    let code : Outcome (List SfNode × ℕ) = free (Some c.args.most) c.is_alone.result c.args.list.now
    c.node-node.result c.universe.result in
    let same : free (Some c.args.most) (is_none_left os) c.args.list.now
    (slice_index t.nodes c.args.choice.now.letter) t.universe ≡ code =
    rw (c.is_alone.ensures, c.node-node.ensures, c.universe.ensures) refl in
    stops_own (λ v u. v ≡ first_flat t os c.args.choice.now.submonoid.items u) code _
    _ c.in_err-universe.field-0.0 _ same c.in_err-universe.ensures
    c.from_residual.ensures.1

pub returns : goal.returns
returns c =
    let t = c.args.task.now in
    let os = c.args.choice.now.others.items in
    let code : Outcome (List SfNode × ℕ) = free (Some c.args.most) c.is_alone.result c.args.list.now
    c.node-node.result c.universe.result in
    let same : free (Some c.args.most) (is_none_left os) c.args.list.now
    (slice_index t.nodes c.args.choice.now.letter) t.universe ≡ code =
    rw (c.is_alone.ensures, c.node-node.ensures, c.universe.ensures) refl in
    (c.in_ok-universe.universe, same ∙ c.in_ok-universe.ensures, c.in_ok-first.ensures)
