use Rattle.star_free.proofs.PowerNodes.{power_step}
use Rattle.star_free.proofs.cycles.power_of.Goals as goal

pub loop-preserved : goal.loop-preserved
loop-preserved c = (
  c.product-last.ensures.within,
  power_step c.args.cayley.now c.len-len.ensures.graphs c.args.element c.requires
      c.loop.last c.loop.counter c.product-last.result c.loop.invariant.1 c.product-last.ensures.product,
)
