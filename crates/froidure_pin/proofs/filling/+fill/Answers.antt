use Rattle.std.proofs.Common.{rules, ◌≡◌, ℕ, List, ◌*◌, ◌-◌, length, ap, subst, ◌∙◌, arith}
use Rattle.froidure_pin.specs.declared.batch.Job.{Job}
use Rattle.froidure_pin.specs.Batches.{CanFill, AreMade}
use Rattle.froidure_pin.proofs.Made.{can_fill_front, can_fill_back, join_made}
use Rattle.froidure_pin.proofs.filling.+fill.Goals as goal

pub join_mut-requires-after_bounds : goal.join_mut-requires-after_bounds
join_mut-requires-after_bounds g t c κs within =
    let m = c.args.generators.now in
    let rows = c.args.sources.now in
    let count = c.jobs_of-count.result in
    let e = c.jobs_of-count.ensures in
    let points = c.points.ensures.points in
    let one : length c.split_at_mut-front.result.0.now ≡ count * m.points =
    c.split_at_mut-front.ensures.front_len ∙ ap (λ (p : ℕ). count * p) points in
    let same : count * c.points.result ≡ count * m.points = ap (λ (p : ℕ). count * p) points in
    let two : length c.split_at_mut-front.result.1.now ≡ length c.args.rows.now - count * m.points =
    omega (arith, c.split_at_mut-front.ensures.back_len, same) in
    let front : CanFill m rows c.split_at.result.0.now c.halves.result.0
    (length c.split_at_mut-front.result.0.now) =
    rw (c.split_at.ensures.front, one)
    (can_fill_front m rows c.args.jobs.now c.args.parts c.halves.result.0 c.halves.result.1
    (length c.args.rows.now) count c.requires c.halves.ensures e.left e.right) in
    let back : CanFill m rows c.split_at.result.1.now c.halves.result.1
    (length c.split_at_mut-front.result.1.now) =
    rw (c.split_at.ensures.back, two)
    (can_fill_back m rows c.args.jobs.now c.args.parts c.halves.result.0 c.halves.result.1
    (length c.args.rows.now) count c.requires c.halves.ensures e.left e.right) in
    search rules

pub returns : goal.returns
returns g t c =
    let m = c.args.generators.now in
    let rows = c.args.sources.now in
    let count = c.jobs_of-count.result in
    let front : AreMade m rows c.split_at.result.0.now c.front-1.given.0 = search rules in
    let back : AreMade m rows c.split_at.result.1.now c.back-1.given.0 = search rules in
    join_made m rows c.args.jobs.now count c.front-1.given.0 c.back-1.given.0
    (omega (arith, c.jobs_of-count.ensures.right))
    (subst (λ (jobs : List Job). AreMade m rows jobs c.front-1.given.0) c.split_at.ensures.front
    front) (subst
    (λ (jobs : List Job). AreMade m rows jobs c.back-1.given.0) c.split_at.ensures.back back)
