use Rattle.std.proofs.Common.{◌∙◌, ap, refl, Some, None, slice_index}
use Rattle.star_free_theory.specs.Construction.{join_pairs, done, or_empty}
use Rattle.local_divisors.proofs.Steps.{stops, bind_done}
use Rattle.local_divisors.proofs.building.Builder.join_all.Goals as goal

pub returns-in_err-joined : goal.returns-in_err-joined
returns-in_err-joined c = stops (join_pairs (Some c.args.most) (slice_index c.args.first.now)
    (slice_index c.args.second.now) c.args.start c.args.pairs c.args.self.now)
    (λ r. done (r.0, or_empty r.1)) _ _ c.in_err-joined.field-0.0 _ refl
    c.in_err-joined.ensures c.from_residual.ensures.1

pub returns-in-None : goal.returns-in-None
returns-in-None c = bind_done (join_pairs (Some c.args.most) (slice_index c.args.first.now)
    (slice_index c.args.second.now) c.args.start c.args.pairs c.args.self.now)
    (λ r. done (r.0, or_empty r.1)) (c.join_pairs.new.self, None) (c.in_ok-joined.ensures
    ∙ ap (λ s. done (c.join_pairs.new.self, s)) c.in-None.is)

pub returns-in-Some : goal.returns-in-Some
returns-in-Some c = bind_done (join_pairs (Some c.args.most) (slice_index c.args.first.now)
    (slice_index c.args.second.now) c.args.start c.args.pairs c.args.self.now)
    (λ r. done (r.0, or_empty r.1)) (c.join_pairs.new.self, Some c.in-Some.number)
    (c.in_ok-joined.ensures ∙ ap (λ s. done (c.join_pairs.new.self, s)) c.in-Some.is)
