use Rattle.piecewise_testable.proofs.Between.{IsBetween, accepted_between}
use Rattle.piecewise_testable.proofs.parting.is_in_context.Goals as goal

pub returns : goal.returns
returns c =
    let u = c.args.u.now in
    let v = c.args.v.now in
    let p = c.find-2.result in
    let f = c.find.result in
    let n = c.product-inner.result in
    let r = c.product.result in
    let between : IsBetween c.cayley-cayley.result.now u v c.args.i p f n r = record {
      before = c.find-2.ensures.node;
      behind = c.find.ensures.node;
      inner = c.product-inner.ensures.product;
      outer = c.product.ensures.product;
    } in
    accepted_between c.args.monoid.now c.cayley-cayley.ensures.syntactic
    c.cayley-cayley.result.now c.cayley-cayley.ensures.graphs u v c.args.i p f n r
    c.accepts.result c.requires.before c.requires.behind c.requires.element between
    c.accepts.ensures
