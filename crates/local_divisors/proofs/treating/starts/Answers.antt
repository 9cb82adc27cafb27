use Rattle.std.proofs.Common.{◌<◌, ℕ, length, get_or, take, arith}
use Rattle.std.proofs.lemmas.Grind.{common_steps}
use Rattle.std.proofs.lemmas.List.{take_more}
use Rattle.local_divisors.proofs.Finishing.{starts_none, starts_more}
use Rattle.local_divisors.proofs.treating.starts.Goals as goal

pub loop-element-init : goal.loop-element-init
loop-element-init c = starts_none c.args.first.now c.in_ok-starts.starts.items
    c.in_ok-starts.ensures

pub loop-element-preserved : goal.loop-element-preserved
loop-element-preserved c =
    let some = c.args.submonoid.now in
    let i = c.loop-element.element-index in
    let t : ℕ = get_or some i 0 in
    let l : t < length c.args.first.now = grind (arith, common_steps) in
    rw (take_more some i 0 c.loop-element-test.true) (starts_more (take i some) c.args.first.now
    c.loop-element.starts.items t l c.loop-element.invariant)
