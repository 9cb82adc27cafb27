use Rattle.std.proofs.Common.{◌∙◌, sym, arith}
use Rattle.local_divisors.proofs.Linking.{next_taken}
use Rattle.local_divisors.proofs.grouping.Pairs.next.Goals as goal

pub returns : goal.returns
returns c = sym c.self.view_is ∙ next_taken c.self.inside.links.now c.self.invariant.0
    c.self.inside.place c.self.invariant.1 (omega (arith, c.if-self-eq0.false))
