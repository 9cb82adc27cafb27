use Rattle.std.proofs.Common.{◌≡◌, ◌++◌, [], ap, sym, ◌∙◌, arith}
use Rattle.language_theory.specs.Words.{word_at}
use Rattle.language_theory.specs.ShortlexGraph.{walk, node}
use Rattle.cayley_tables.proofs.LookUps.{empty_word, product_begins, product_of_node}
use Rattle.cayley_tables.proofs.cayley.Cayley.product.Goals as goal

pub loop-rest-init : goal.loop-rest-init
loop-rest-init c = (
  c.requires.left,
  c.requires.right,
  product_begins c.args.self.now c.len-len.ensures.graphs
      c.args.i c.args.j c.requires.left,
)

pub returns-clause-product : goal.returns-clause-product
returns-clause-product c =
    let i = c.loop-rest.invariant in
    let v = c.args.self.now in
    let none : c.loop-rest.rest ≡ 0 = omega (arith, c.loop-rest-test.false) in
    let empty : word_at v.words c.loop-rest.rest ≡ [] =
    ap (word_at v.words) none ∙ empty_word v c.len-len.ensures.graphs in
    let leads : c.loop-rest.product
    ≡ node v.right (word_at v.words c.args.i ++ word_at v.words c.args.j) =
    ap (walk v.right c.loop-rest.product) (sym empty) ∙ i.2 in
    product_of_node v c.len-len.ensures.graphs c.args.i c.args.j c.loop-rest.product c.requires.left
    c.requires.right (sym leads)
