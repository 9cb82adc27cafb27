use Rattle.std.proofs.Common.{arith}
use Rattle.syn_outside.proofs.Taking.{took_more}
use Rattle.syn_outside.proofs.writing.put_all.Goals as goal

-- the sink took what it had taken, and then the front of the rest
pub loop-rest-preserved : goal.loop-rest-preserved
loop-rest-preserved g c =
    let before = c.loop-rest.invariant.taken in
    record {
      taken = took_more _ _ _ before.0 _ _ _ _ before.1 before.2 c.in-Wrote.ensures.bytes.2
          c.split_at.ensures.back;
      count = omega (arith, c.loop-rest.invariant.count, c.write.ensures.count);
    }
