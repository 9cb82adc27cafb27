use Rattle.std.proofs.Common.{◌≡◌, ◌≤◌, length, ap, sym, subst, ◌∙◌, arith}
use Rattle.std.specs.Vec.{with_items}
use Rattle.std.proofs.lemmas.List.{with_items_is}
use Rattle.parallel_table.specs.ProductTables.{ProductTable}
use Rattle.parallel_table.specs.Runs.{AreRowsOf}
use Rattle.parallel_table.proofs.Rows.{can_fill_whole, whole_table}
use Rattle.parallel_table.proofs.filling.fill.Goals as goal

pub fill_parts-requires-after_bounds : goal.fill_parts-requires-after_bounds
fill_parts-requires-after_bounds g c κs within =
    let t : ProductTable =
    record { side = c.table.inside.side; cells = c.table.inside.cells.items } in
    let same : t.side ≡ length c.args.cayley.now.words =
    ap (λ (x : ProductTable). x.side) c.table.view_is ∙ c.requires.side in
    let some : 1 ≤ c.min-count.result = omega (arith, c.min-count.ensures, c.len.ensures.some) in
    let few : c.min-count.result ≤ 64 = omega (arith, c.min-count.ensures) in
    can_fill_whole c.args.cayley.now t c.min-count.result (length c.as_mut_slice.result.now)
    c.len.ensures.graphs c.table.invariant same some few (ap length c.as_mut_slice.ensures.value)

pub returns : goal.returns
returns g c =
    let v = c.args.cayley.now in
    let n = c.min-count.result in
    let new = c.fill_parts.new.cells in
    let written : (with_items c.table.inside.cells new).items ≡ new =
    with_items_is c.table.inside.cells new
    (c.fill_parts.auto.cells ∙ c.as_mut_slice.ensures.len) in
    let t : ProductTable =
    record { side = c.table.inside.side; cells = (with_items c.table.inside.cells new).items } in
    let same : t.side ≡ length v.words =
    ap (λ (x : ProductTable). x.side) c.table.view_is ∙ c.requires.side in
    let some : 1 ≤ n = omega (arith, c.min-count.ensures, c.len.ensures.some) in
    whole_table v t n some same
    (subst (AreRowsOf v (record { first = 0; count = n; all = n })) (sym written)
    c.fill_parts.ensures)
