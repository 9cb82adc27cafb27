use Rattle.std.proofs.Common.{◌≤◌, ap, sym, subst}
use Rattle.level_search.specs.Levels.{IsWide}
use Rattle.factor_keys.specs.Keys.{width}
use Rattle.factor_keys.specs.FactorKeys.{FactorKeys}
use Rattle.factor_keys.proofs.Numbering.{begun}
use Rattle.factor_keys.proofs.factors.FactorsQuotient.begin.Goals as goal

pub returns-in-Ok-clause-sound : goal.returns-in-Ok-clause-sound
returns-in-Ok-clause-sound c =
    let again = sym c.restart.ensures in
    let narrow : ¬ IsWide (width c.args.letters c.args.level) = λ wide.
    (let t = c.is_wide.ensures.1 wide in let f = c.if-is_wide.false in cc) in
    rw c.in-Ok.ensures.seen (begun c.restart.new.self c.empty-empty.result
    (subst (λ (s : FactorKeys). 1 ≤ s.letters) again c.requires.some_letters)
    (subst (λ (s : FactorKeys). 1 ≤ s.level) again c.requires.from_least)
    (subst (λ (s : FactorKeys). ¬ IsWide (width s.letters s.level)) again narrow)
    (ap (λ (s : FactorKeys). s.keys) c.restart.ensures)
    c.empty-empty.ensures)
