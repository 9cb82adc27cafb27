use Rattle.std.proofs.Common.{ap, ◌*◌, ◌+◌, ℕ, arith}
use Rattle.piecewise_testable.proofs.Widths.{width_more, width_above}
use Rattle.piecewise_testable.proofs.subwords.width_within.Goals as goal

pub returns-then-width-gt-MOST_WIDTH : goal.returns-then-width-gt-MOST_WIDTH
returns-then-width-gt-MOST_WIDTH c =
    let k = c.args.letters in
    let i = c.loop.invariant in
    let e = ap (λ (w : ℕ). w * k + 1) i.same in
    let f = width_more k c.loop.counter in
    let above = width_above k (c.loop.counter + 1) c.args.level c.requires.some_letters
    (omega arith) in
    omega arith
