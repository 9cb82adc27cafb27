use Rattle.std.proofs.Common.{◌≡◌, ◌∙◌, ℕ, List, Some, slice_index}
use Rattle.std.proofs.Common.{refl, ap}
use Rattle.star_free_theory.specs.declared.nodes.SfNode.{SfNode}
use Rattle.star_free_theory.specs.declared.nodes.SfNode.TheVariants as node
use Rattle.star_free_theory.specs.Construction.{Outcome, opened, is_none_left, each, take, bind}
use Rattle.star_free_theory.specs.Construction.{done}
use Rattle.local_divisors.specs.Recursion.{AreSecondNodes, second_nodes}
use Rattle.local_divisors.proofs.Recursing.{node_within, submonoid_within, stops_to}
use Rattle.local_divisors.proofs.Steps.{bind_done}
use Rattle.local_divisors.proofs.recursion.second_letters.Goals as goal

pub node-node-requires : goal.node-node-requires
node-node-requires c = node_within c.args.product.now c.args.task.now c.args.choice.now.letter
    c.args.choice.now.others.items c.args.choice.now.submonoid.items c.args.choice.now.divisor.items
    c.requires.divides

pub behind-requires : goal.behind-requires
behind-requires c =
    let S = c.args.choice.now.submonoid.items in
    rw (c.as_slice.ensures.value, c.requires.long)
    (submonoid_within c.args.product.now c.args.task.now c.args.choice.now.letter
    c.args.choice.now.others.items S c.args.choice.now.divisor.items c.requires.divides)

pub returns-in_err-universe : goal.returns-in_err-universe
returns-in_err-universe c =
    let t = c.args.task.now in
    let n = slice_index t.nodes c.args.choice.now.letter in
    let os = c.args.choice.now.others.items in
    let S = c.args.choice.now.submonoid.items in
    let m = Some c.args.most in
    let code : Outcome (List SfNode × ℕ) = opened m c.is_alone.result c.args.list.now
    c.node-node.result c.universe.result in
    let same : opened m (is_none_left os) c.args.list.now n t.universe ≡ code =
    rw (c.is_alone.ensures, c.node-node.ensures, c.universe.ensures) refl in
    let behind : List SfNode → Outcome (List SfNode × (ℕ → ℕ)) =
    λ xs. each (λ ys s. take m ys (node.Cat n (slice_index c.args.first.now s))) S (λ s. 0) xs
    in
    let next : List SfNode × ℕ → Outcome (List SfNode × ((ℕ → ℕ) × ℕ)) = λ u. bind (behind u.0)
    (λ b. done (b.0, (b.1, u.1))) in
    stops_to (λ v r. AreSecondNodes c.args.product.now v.nodes.items v.universe r) code next _
    _ c.in_err-universe.field-0.0 _
    (ap (λ (o : Outcome (List SfNode × ℕ)). bind o next) same) c.in_err-universe.ensures
    c.from_residual.ensures.1

pub returns-in_err-nodes : goal.returns-in_err-nodes
returns-in_err-nodes c =
    let t = c.args.task.now in
    let n = slice_index t.nodes c.args.choice.now.letter in
    let os = c.args.choice.now.others.items in
    let S = c.args.choice.now.submonoid.items in
    let m = Some c.args.most in
    let code : Outcome (List SfNode × ℕ) = opened m c.is_alone.result c.args.list.now
    c.node-node.result c.universe.result in
    let same : opened m (is_none_left os) c.args.list.now n t.universe ≡ code =
    rw (c.is_alone.ensures, c.node-node.ensures, c.universe.ensures) refl in
    let behind : List SfNode → Outcome (List SfNode × (ℕ → ℕ)) =
    λ xs. each (λ ys s. take m ys (node.Cat n (slice_index c.args.first.now s))) S (λ s. 0) xs
    in
    let next : List SfNode × ℕ → Outcome (List SfNode × ((ℕ → ℕ) × ℕ)) = λ u. bind (behind u.0)
    (λ b. done (b.0, (b.1, u.1))) in
    let code2 : Outcome (List SfNode × (ℕ → ℕ)) =
    each (λ ys s. take m ys (node.Cat c.node-node.result (slice_index c.args.first.now s)))
    c.as_slice.result.now (λ s. 0) c.opened.new.self in
    let same2 : behind c.opened.new.self ≡ code2 =
    rw (c.as_slice.ensures.value, c.node-node.ensures) refl in
    let e : second_nodes m t c.args.choice.now.letter os S c.args.first.now c.args.list.now
    ≡ bind code2 (λ b. done (b.0, (b.1, c.in_ok-universe.universe))) =
    ap (λ (o : Outcome (List SfNode × ℕ)). bind o next) same
    ∙ bind_done code next (c.opened.new.self, c.in_ok-universe.universe) c.in_ok-universe.ensures
    ∙ ap (λ (o : Outcome (List SfNode × (ℕ → ℕ))). bind o
    (λ b. done (b.0, (b.1, c.in_ok-universe.universe)))) same2 in
    stops_to (λ v r. AreSecondNodes c.args.product.now v.nodes.items v.universe r) code2
    (λ b. done (b.0, (b.1, c.in_ok-universe.universe))) _ _ c.in_err-nodes.field-0.0 _
    e c.in_err-nodes.ensures.table c.from_residual-in_err-nodes.ensures.1

pub returns : goal.returns
returns c =
    let t = c.args.task.now in
    let n = slice_index t.nodes c.args.choice.now.letter in
    let os = c.args.choice.now.others.items in
    let S = c.args.choice.now.submonoid.items in
    let m = Some c.args.most in
    let code : Outcome (List SfNode × ℕ) = opened m c.is_alone.result c.args.list.now
    c.node-node.result c.universe.result in
    let same : opened m (is_none_left os) c.args.list.now n t.universe ≡ code =
    rw (c.is_alone.ensures, c.node-node.ensures, c.universe.ensures) refl in
    let behind : List SfNode → Outcome (List SfNode × (ℕ → ℕ)) =
    λ xs. each (λ ys s. take m ys (node.Cat n (slice_index c.args.first.now s))) S (λ s. 0) xs
    in
    let next : List SfNode × ℕ → Outcome (List SfNode × ((ℕ → ℕ) × ℕ)) = λ u. bind (behind u.0)
    (λ b. done (b.0, (b.1, u.1))) in
    let code2 : Outcome (List SfNode × (ℕ → ℕ)) =
    each (λ ys s. take m ys (node.Cat c.node-node.result (slice_index c.args.first.now s)))
    c.as_slice.result.now (λ s. 0) c.opened.new.self in
    let same2 : behind c.opened.new.self ≡ code2 =
    rw (c.as_slice.ensures.value, c.node-node.ensures) refl in
    let w = c.in_ok-nodes.ensures.table in
    let e : second_nodes m t c.args.choice.now.letter os S c.args.first.now c.args.list.now
    ≡ bind code2 (λ b. done (b.0, (b.1, c.in_ok-universe.universe))) =
    ap (λ (o : Outcome (List SfNode × ℕ)). bind o next) same
    ∙ bind_done code next (c.opened.new.self, c.in_ok-universe.universe) c.in_ok-universe.ensures
    ∙ ap (λ (o : Outcome (List SfNode × (ℕ → ℕ))). bind o
    (λ b. done (b.0, (b.1, c.in_ok-universe.universe)))) same2 in (
      (w.0, c.in_ok-universe.universe),
      e ∙ bind_done code2 (λ b. done (b.0, (b.1, c.in_ok-universe.universe)))
          (c.behind.new.list, w.0) w.1,
      record {
        long = c.in_ok-nodes.ensures.long ∙ c.requires.long;
        told = w.2;
        universe_is =
            refl;
      },
    )
