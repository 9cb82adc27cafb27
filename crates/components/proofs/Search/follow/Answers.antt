use Rattle.std.proofs.Common.{rules, arith, sym, ap, subst, ◌∙◌, ◌≡◌, ◌<◌, ◌≤◌, length, slice_index}
use Rattle.std.proofs.Common.{sum}
use Rattle.std.proofs.lemmas.Grind.{common_steps}
use Rattle.components.specs.Components.{Reach, target}
use Rattle.components.proofs.Paths.{edge}
use Rattle.components.proofs.Following.{search_next}
use Rattle.components.proofs.Changes.{search_waited, edge_place, graph_within, sum_next}
use Rattle.components.proofs.Search.follow.Goals as goal

pub returns-then-edge-degree-clause-holds : goal.returns-then-edge-degree-clause-holds
returns-then-edge-degree-clause-holds c =
    let s = c.args.self.now in
    let full : c.args.degree ≤ slice_index s.cursors.items
    (slice_index s.opened.items c.args.place) = grind (arith, common_steps) in
    search_waited c.args.place c.requires.holds c.requires.some c.requires.last full (search rules)

pub offset_bounds-targets-node : goal.offset_bounds-targets-node
offset_bounds-targets-node c =
    let s = c.args.self.now in
    let open_place : c.args.place < length s.opened.items = search rules in
    let node_is : slice_index s.opened.items c.args.place ≡ c.index-node.result.now =
    grind (arith, common_steps) in
    let within : c.index-node.result.now < c.args.nodes =
    omega (arith, c.requires.holds.stack.node c.args.place open_place) in
    let place = edge_place c.index-node.result.now c.index-edge.result.now c.requires.graph within
    (search rules) in
    search rules

pub bounds-targets-node : goal.bounds-targets-node
bounds-targets-node c =
    let s = c.args.self.now in
    let open_place : c.args.place < length s.opened.items = search rules in
    let node_is : slice_index s.opened.items c.args.place ≡ c.index-node.result.now =
    grind (arith, common_steps) in
    let within : c.index-node.result.now < c.args.nodes =
    omega (arith, c.requires.holds.stack.node c.args.place open_place) in
    edge_place c.index-node.result.now c.index-edge.result.now c.requires.graph within
    (search rules)

pub meet-requires-clause-next : goal.meet-requires-clause-next
meet-requires-clause-next c =
    let s = c.args.self.now in
    let open_place : c.args.place < length s.opened.items = search rules in
    let node_is : slice_index s.opened.items c.args.place ≡ c.index-node.result.now =
    grind (arith, common_steps) in
    let within : c.index-node.result.now < c.args.nodes =
    omega (arith, c.requires.holds.stack.node c.args.place open_place) in
    (graph_within c.requires.graph).within c.index-node.result.now c.index-edge.result.now within
    (search rules)

pub meet-requires-clause-leads : goal.meet-requires-clause-leads
meet-requires-clause-leads c =
    let s = c.args.self.now in
    let to = target c.args.degree c.args.targets.now in
    let node_is : slice_index s.opened.items c.args.place ≡ c.index-node.result.now =
    grind (arith, common_steps) in
    subst (λ x. Reach c.args.degree to x (to c.index-node.result.now c.index-edge.result.now))
    (sym node_is) (edge c.index-node.result.now c.index-edge.result.now (search rules))

pub returns-clause-holds : goal.returns-clause-holds
returns-clause-holds c =
    let s = c.args.self.now in
    let met = c.in_ok-meet.ensures.met in
    let node_is : slice_index s.opened.items c.args.place ≡ c.index-node.result.now =
    grind (arith, common_steps) in
    let edge_is : slice_index s.cursors.items c.index-node.result.now ≡ c.index-edge.result.now =
    grind (arith, common_steps) in
    search_next c.args.place c.index-node.result.now c.index-edge.result.now
    c.in_ok-meet.ensures.holds met.inside
    (met.same ∙ node_is) (ap (λ xs. slice_index xs c.index-node.result.now) met.cursors
    ∙ edge_is) (search rules) met.low

pub returns-clause-less : goal.returns-clause-less
returns-clause-less c =
    let s = c.args.self.now in
    let met = c.in_ok-meet.ensures.met in
    let open_place : c.args.place < length s.opened.items = search rules in
    let node_is : slice_index s.opened.items c.args.place ≡ c.index-node.result.now =
    grind (arith, common_steps) in
    let edge_is : slice_index s.cursors.items c.index-node.result.now ≡ c.index-edge.result.now =
    grind (arith, common_steps) in
    let within : c.index-node.result.now < c.args.nodes =
    omega (arith, c.requires.holds.stack.node c.args.place open_place) in
    let sums = sum_next c.index-node.result.now c.index-edge.result.now c.in_ok-meet.ensures.holds
    within (ap (λ xs. slice_index xs c.index-node.result.now) met.cursors ∙ edge_is)
    (search rules) in
    omega (arith, sums.0, sums.1, ap sum met.cursors, met.more)
