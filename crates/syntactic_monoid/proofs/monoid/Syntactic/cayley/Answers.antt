use Rattle.std.proofs.Common.{subst}
use Rattle.syntactic_monoid.specs.SyntacticMonoid.{SyntacticMonoid}
use Rattle.syntactic_monoid.specs.Action.{IsActing}
use Rattle.syntactic_monoid.proofs.Acting.{acting_is_syntactic}
use Rattle.syntactic_monoid.proofs.monoid.Syntactic.cayley.Goals as goal

pub returns-clause-syntactic : goal.returns-clause-syntactic
returns-clause-syntactic c =
    let i = c.self.inside in
    acting_is_syntactic c.args.self.now i.action.rows i.action.finals.items i.returns
    (subst (λ (m : SyntacticMonoid). IsActing m i.action.rows i.action.finals.items i.returns)
    c.self.view_is c.self.invariant)
