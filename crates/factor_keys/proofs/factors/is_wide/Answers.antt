use Rattle.std.proofs.Common.{refl, arith}
use Rattle.factor_keys.proofs.Widths.{wide_from}
use Rattle.factor_keys.proofs.factors.is_wide.Goals as goal

pub returns-then-width-gt-MOST_WIDTH : goal.returns-then-width-gt-MOST_WIDTH
returns-then-width-gt-MOST_WIDTH c =
    let i = c.loop.invariant in
    let wide = wide_from c.args.letters c.loop.counter c.args.length c.loop.width
    c.requires.some_letters i.0 (omega arith) (omega arith) in
    (λ _. wide, λ _. refl)
