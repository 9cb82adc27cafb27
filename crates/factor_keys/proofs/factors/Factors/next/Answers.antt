use Rattle.std.proofs.Common.{sym, subst}
use Rattle.factor_keys.specs.declared.key.Key.{Key}
use Rattle.factor_keys.specs.FactorKeys.{FactorKeys, HasNext}
use Rattle.factor_keys.proofs.Numbering.{has_next}
use Rattle.factor_keys.proofs.factors.Factors.next.Goals as goal

pub next-requires : goal.next-requires
next-requires c =
    let h = has_next c.args.self.now c.args.number c.args.letter c.requires.sound c.requires.number
    c.requires.letter in
    let at : HasNext c.args.self.now.letters c.args.self.now.level c.key.result.now c.args.letter =
    subst (λ (key : Key). HasNext c.args.self.now.letters c.args.self.now.level key
    c.args.letter) (sym c.key.ensures) h in
    subst (λ (s : FactorKeys). HasNext s.letters s.level c.key.result.now c.args.letter)
    (sym c.self.view_is) at
