use Rattle.std.proofs.Common.{◌∙◌, sym, Some, None}
use Rattle.star_free_theory.specs.Construction.{put, place}
use Rattle.local_divisors.proofs.Steps.{taken_as, stops_as}
use Rattle.local_divisors.proofs.building.Builder.take.Goals as goal

pub returns-in_err-number : goal.returns-in_err-number
returns-in_err-number c = stops_as (put (Some c.args.most) (place c.args.node c.args.self.now)
    c.args.self.now c.args.node) _ _ c.in_err-number.field-0.0 _
    (taken_as (Some c.args.most) c.args.self.now c.args.node None (sym c.neutral.ensures
    ∙ c.in_default.is)) c.in_err-number.ensures c.from_residual.ensures.1
