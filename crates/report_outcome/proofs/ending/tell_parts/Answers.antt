use Rattle.std.proofs.Common.{arith, List, ℕ, Bor, refl}
use Rattle.report_outcome.proofs.Telling.{tells_next, tells_prefix}
use Rattle.report_outcome.proofs.ending.tell_parts.Goals as goal

pub returns-then-not-put_all-clause-told : goal.returns-then-not-put_all-clause-told
returns-then-not-put_all-clause-told g c =
    tells_prefix (λ (part : Bor (List ℕ)). part.now) c.args.parts.now c.loop-part.part-index _
    c.as_bytes.result.now _ _ _ _ _ _
    c.loop-part-test.true c.as_bytes.ensures.value c.loop-part.invariant.told
    (c.if-not-put_all.ensures.cut refl)
    c.loop-part.invariant.count (c.if-not-put_all.ensures.failed refl)

pub loop-part-preserved : goal.loop-part-preserved
loop-part-preserved g c = record {
  told = tells_next (λ (part : Bor (List ℕ)). part.now) c.args.parts.now c.loop-part.part-index _
      c.as_bytes.result.now _ _ _
      c.loop-part-test.true c.as_bytes.ensures.value c.loop-part.invariant.told
      (c.if-not-put_all.ensures.whole refl);
  count = omega (arith, c.loop-part.invariant.count, c.put_all.ensures.count);
}
