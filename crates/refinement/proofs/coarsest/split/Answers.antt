use Rattle.std.proofs.Common.{arith, ◌≡◌}
use Rattle.refinement.proofs.Rounds.{interned_step, interned_split}
use Rattle.refinement.proofs.coarsest.split.Goals as goal

pub loop-node-preserved : goal.loop-node-preserved
loop-node-preserved c =
    let i = c.loop-node.invariant in (
      i.0,
      i.1,
      interned_step _ _ _ _ _ _ _ _ i.2 c.in_ok-signature.ensures
          c.in_ok-class.ensures.keys c.in_ok-class.ensures.index c.in_ok-push.ensures.items,
    )

pub returns : goal.returns
returns c =
    let i = c.loop-node.invariant in
    let all : c.loop-node.node ≡ c.args.graph.now.size = omega (arith, i.1) in
    interned_split _ _ _ _ _ _ _ all c.len.ensures.len i.2
