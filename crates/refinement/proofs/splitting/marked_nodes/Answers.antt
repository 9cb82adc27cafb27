use Rattle.std.proofs.Common.{◌≡◌, ◌∙◌, ◌<◌, ap, sym, subst, arith, ℕ, false, length}
use Rattle.std.proofs.lemmas.List.{get_or_default}
use Rattle.refinement.specs.Splitting.{AreMarked}
use Rattle.refinement.proofs.SplitLists.{marked_in, marked_out, marked_closed, marked_within}
use Rattle.refinement.proofs.splitting.marked_nodes.Goals as goal
use Rattle.refinement.proofs.splitting.marked_nodes.Goals.{then-marks-node+in_ok-push, else-marks-node}

pub loop-node-preserved : goal.loop-node-preserved
loop-node-preserved c =
    let i = c.loop-node.invariant in
    let n = c.loop-node.node in
    let marks = c.args.marks.now in
    let l : n < length marks = omega (arith, i.1, i.0, c.loop-node-test.true) in
    elim c.if-marks-node.branch [
      | then-marks-node+in_ok-push w ↦ (
        i.0,
        i.1,
        marked_in marks n c.loop-node.marked.items _ i.2
            (sym (get_or_default marks n _ false l) ∙ w.if-marks-node.true)
            (ap (λ v. v.items) w.marked-is ∙ w.in_ok-push.ensures.items),
      )
      | else-marks-node w ↦ (
        i.0,
        i.1,
        marked_out marks n c.loop-node.marked.items _ i.2
            (sym (get_or_default marks n _ false l) ∙ w.if-marks-node.false)
            (ap (λ v. v.items) w.marked-is),
      )
    ]

pub returns-clause-within : goal.returns-clause-within
returns-clause-within c =
    let i = c.loop-node.invariant in
    let e : c.loop-node.node ≡ c.args.graph.now.size = omega (arith, i.0) in
    marked_within c.args.marks.now c.args.graph.now.size c.loop-node.marked.items
    (subst (λ (n : ℕ). AreMarked c.args.marks.now n c.loop-node.marked.items) e i.2)

pub returns-clause-closed : goal.returns-clause-closed
returns-clause-closed c =
    let i = c.loop-node.invariant in
    let e : c.loop-node.node ≡ c.args.graph.now.size = omega (arith, i.0) in
    marked_closed c.args.graph.now c.args.marks.now c.loop-node.marked.items
    (subst (λ (n : ℕ). AreMarked c.args.marks.now n c.loop-node.marked.items) e i.2)
