use Rattle.std.proofs.Common.{◌≡◌, ◌<◌, ℕ, get_or, take, subst, arith, slice_index}
use Rattle.std.proofs.lemmas.Grind.{common_steps}
use Rattle.std.proofs.lemmas.List.{take_more}
use Rattle.local_divisors.specs.Instances.{times}
use Rattle.local_divisors.proofs.Tables.{local_more}
use Rattle.local_divisors.proofs.instances.local_factors.Goals as goal

pub loop-element-preserved : goal.loop-element-preserved
loop-element-preserved c =
    let p = c.args.product.now in
    let m = c.args.m in
    let els = c.args.elements.now in
    let i = c.loop-element.element-index in
    let z : ℕ = get_or els i 0 in
    let j : c.times.result ≡ times p m z = c.times.ensures.times in
    let f : c.factor.result ≡ slice_index p.factors z = c.factor.ensures.factor in
    let inside : z < p.table.side = grind (arith, common_steps) in
    rw (take_more els i 0 c.loop-element-test.true, j, f)
    (local_more p m (take i els) c.loop-element.factors.items z inside
    (subst (λ (b : ℕ). b < p.table.side) j c.times.ensures.within)
    (subst (λ (b : ℕ). b < p.table.side) f c.factor.ensures.within) c.loop-element.invariant)
