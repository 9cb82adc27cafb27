use Rattle.std.proofs.Common.{rules}
use Rattle.star_free.proofs.Looping.{all_settle}
use Rattle.star_free.proofs.deciding.decide.Goals as goal

pub returns : goal.returns
returns c =
    all_settle c.args.monoid.now c.cayley-cayley.ensures.syntactic
    (λ e i p l a. c.loop-element.invariant.1 e i p (search rules) a)
