use Rattle.std.proofs.lemmas.Grind.{get_or_default_zero}
use Rattle.refinement.proofs.Chains.{sources_next}
use Rattle.refinement.proofs.inverse.Inverse.sources.Goals as goal

pub loop-node-preserved : goal.loop-node-preserved
loop-node-preserved c =
    let i = c.loop-node.invariant in (
      i.0,
      i.1,
      sources_next c.args.graph.now c.args.self.now.letter c.args.nodes.now _ _
          c.loop-node.node-index _ i.2 c.loop-node-test.true
          (get_or_default_zero c.args.nodes.now c.loop-node.node-index _ c.loop-node-test.true)
          c.in_ok-push_sources.ensures.within c.in_ok-push_sources.ensures.adds,
    )
