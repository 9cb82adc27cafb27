use Rattle.std.proofs.Common.{◌≡◌, ◌≤◌, ℕ, List, length, slice_index, sym, subst, arith}
use Rattle.simon_bound.specs.Heights.{IsAcyclic, AreHeights, IsDescent}
use Rattle.simon_bound.proofs.ClassGraph.{steps_acyclic}
use Rattle.simon_bound.proofs.Longest.{descent_is_longest}
use Rattle.simon_bound.proofs.bound.longest_chain.Goals as goal
use Rattle.simon_bound.proofs.bound.longest_chain.Goals.{In_ok-steps}

acyclic : (c : In_ok-steps)
    → IsAcyclic (length c.args.cayley.now.words) c.in_ok-steps.steps.starts.items
    c.in_ok-steps.steps.classes.items
acyclic c =
    let few : length c.args.cayley.now.words ≤ 50000 =
    omega (arith, c.len-nodes.ensures.len, c.len-nodes.ensures.few) in
    steps_acyclic c.args.cayley.now c.len-nodes.ensures.graphs c.args.green.now c.requires.green
    c.in_ok-steps.steps.starts.items c.in_ok-steps.steps.classes.items c.in_ok-steps.ensures few

pub heights_of-requires : goal.heights_of-requires
heights_of-requires c =
    subst (λ (n : ℕ). IsAcyclic n c.in_ok-steps.steps.starts.items
    c.in_ok-steps.steps.classes.items) (sym c.len-nodes.ensures.len)
    (acyclic (goal.at.heights_of-requires c).In_ok-steps)

pub descend-requires-clause-acyclic : goal.descend-requires-clause-acyclic
descend-requires-clause-acyclic c =
    subst (λ (n : ℕ). IsAcyclic n c.in_ok-steps.steps.starts.items
    c.in_ok-steps.steps.classes.items) (sym c.len-nodes.ensures.len)
    (acyclic (goal.at.descend-requires-clause-acyclic c).In_ok-steps)

pub returns : goal.returns
returns c =
    let n = length c.args.cayley.now.words in
    let starts = c.in_ok-steps.steps.starts.items in
    let nodes = c.in_ok-steps.steps.classes.items in
    let heights = c.in_ok-heights.heights.items in
    let path = c.in_ok-elements.elements.items in
    let d : IsAcyclic n starts nodes = acyclic (goal.at.returns c).In_ok-steps in
    let t : AreHeights n starts nodes heights =
    subst (λ (m : ℕ). AreHeights m starts nodes heights) c.len-nodes.ensures.len
    c.in_ok-heights.ensures.heights in
    let p : IsDescent n starts nodes heights path =
    subst (λ (m : ℕ). IsDescent m starts nodes heights path) c.len-nodes.ensures.len
    (subst (λ (xs : List ℕ). IsDescent c.len-nodes.result starts nodes xs path)
    c.as_slice.ensures.value c.in_ok-elements.ensures.descent) in
    let whole : length path ≡ slice_index heights 0 =
    subst (λ (xs : List ℕ). length path ≡ slice_index xs 0) c.as_slice.ensures.value
    c.in_ok-elements.ensures.whole in
    descent_is_longest c.args.cayley.now c.len-nodes.ensures.graphs c.args.green.now
    c.requires.green starts nodes c.in_ok-steps.ensures d heights t c.in_ok-heights.ensures.first
    path p whole
