use Rattle.std.proofs.Common.{◌≡◌, ℕ, subst, length, arith}
use Rattle.presentation.specs.RuleLists.{AreRulesBefore}
use Rattle.presentation.proofs.RuleLists.{all_listed}
use Rattle.presentation.proofs.listing.rules_of.Goals as goal

pub returns : goal.returns
returns c =
    let last : c.loop-element.element ≡ length c.args.cayley.now.words =
    omega (arith, c.len-element-end.ensures.len) in
    record {
      rules = all_listed c.args.cayley.now c.loop-element.rules
          (subst (λ (i : ℕ). AreRulesBefore c.args.cayley.now i 0 c.loop-element.rules) last
          c.loop-element.invariant);
    }
