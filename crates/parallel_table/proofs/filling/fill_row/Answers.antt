use Rattle.std.proofs.Common.{ℕ, sym, subst, arith}
use Rattle.std.specs.Prelude.{slice_index}
use Rattle.std.proofs.lemmas.List.{length-set}
use Rattle.language_theory.specs.ShortlexGraph.{SameNode}
use Rattle.monoid_theory.specs.Products.{IsProduct}
use Rattle.parallel_table.proofs.Products.{product_begins, product_goes_on, cell_put}
use Rattle.parallel_table.proofs.filling.fill_row.Goals as goal

pub loop-by-init : goal.loop-by-init
loop-by-init c j hj =
    cell_put c.args.cayley.now c.args.element 0 c.args.element c.args.row.now
    (λ k hk. absurd (omega arith)) (omega (arith, c.len-by-end.ensures))
    (product_begins c.args.cayley.now c.requires.graphs c.args.element c.requires.element) j
    (omega arith)

pub loop-by-preserved : goal.loop-by-preserved
loop-by-preserved c =
    let v = c.args.cayley.now in
    let i = c.args.element in
    let n = c.loop-by.by in
    let row = c.loop-by.row in
    let before = slice_index row c.prefix.result in
    let link = c.prefix.ensures.link in
    let old : IsProduct (SameNode v.right) v.words i c.prefix.result before =
    c.loop-by.invariant c.prefix.result c.prefix.ensures.earlier in
    let new : IsProduct (SameNode v.right) v.words i n c.right.result =
    subst (IsProduct (SameNode v.right) v.words i n) (sym c.right.ensures.right)
    (product_goes_on v c.requires.graphs i n c.prefix.result before link.0 c.last.result
    c.last.ensures.within link.1 c.last.ensures.link old) in
    cell_put v i n c.right.result row c.loop-by.invariant
    (omega (arith, c.loop-by.auto.row, length-set {A = ℕ})) new
