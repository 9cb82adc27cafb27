use Rattle.std.proofs.Common.{below_more}
use Rattle.local_submonoids.proofs.Languages.{when_none}
use Rattle.local_submonoids.proofs.submonoids.first_flaw.Goals.{then-is_idempotent+in_ok-flaw+in-None, else-is_idempotent}
use Rattle.local_submonoids.proofs.submonoids.first_flaw.Goals as goal

pub loop-e-preserved : goal.loop-e-preserved
loop-e-preserved c = (
  elim c.if-is_idempotent.branch [
    | then-is_idempotent+in_ok-flaw+in-None w ↦
        below_more _ _ c.loop-e.invariant.0
        (λ _. when_none w.in_ok-flaw.field-0 w.in-None.is w.in_ok-flaw.ensures.none)
    | else-is_idempotent w ↦
        below_more _ _ c.loop-e.invariant.0 (λ i.
        (let t = c.is_idempotent.ensures.1 i in let f = w.if-is_idempotent.false in cc))
  ],
  c.loop-e.invariant.1,
)
