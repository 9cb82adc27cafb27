use Rattle.std.proofs.Common.{◌≡◌, ℕ, subst, arith}
use Rattle.presentation.specs.RuleLists.{AreRulesBefore}
use Rattle.presentation.proofs.RuleLists.{next_element}
use Rattle.presentation.proofs.listing.push_rules_of.Goals as goal

pub returns : goal.returns
returns c =
    let v = c.args.cayley.now in
    let rules = c.loop-letter.rules in
    let last : c.loop-letter.letter ≡ v.right.letters = omega (arith, c.requires.letters) in
    next_element v c.args.element rules
    (subst (λ (a : ℕ). AreRulesBefore v c.args.element a rules) last c.loop-letter.invariant)
