use Rattle.std.proofs.Common.{subst}
use Rattle.std.proofs.lemmas.Bool.{lt-ltb}
use Rattle.syntactic_monoid.specs.SyntacticMonoid.{SyntacticMonoid}
use Rattle.syntactic_monoid.specs.Action.{IsActing}
use Rattle.syntactic_monoid.proofs.Semigroup.{later_in, root_in}
use Rattle.syntactic_monoid.proofs.monoid.Syntactic.in_semigroup.Goals as goal

pub returns-then-i-gt0 : goal.returns-then-i-gt0
returns-then-i-gt0 c =
    let i = c.self.inside in
    let acting = subst (λ (m : SyntacticMonoid).
    IsActing m i.action.rows i.action.finals.items i.returns) c.self.view_is c.self.invariant in (
      λ _. later_in c.args.self.now i.action.rows i.action.finals.items i.returns acting c.args.i
          c.if-i-gt0.true c.requires,
      λ _. lt-ltb 0 c.args.i c.if-i-gt0.true,
    )

pub returns-else-i-gt0 : goal.returns-else-i-gt0
returns-else-i-gt0 c =
    let i = c.self.inside in
    let acting = subst (λ (m : SyntacticMonoid).
    IsActing m i.action.rows i.action.finals.items i.returns) c.self.view_is c.self.invariant in
    rw c.is_some.ensures
    (root_in c.args.self.now i.action.rows i.action.finals.items i.returns acting c.args.i
    c.requires c.if-i-gt0.false)
