use Rattle.std.proofs.Common.{◌≡◌, ℕ, ◌+◌, ◌-◌, ◌*◌, length, ap, arith}
use Rattle.parallel_table.proofs.Rows.{row_put}
use Rattle.parallel_table.proofs.filling.fill_rows.Goals as goal

pub loop-row-preserved : goal.loop-row-preserved
loop-row-preserved c =
    let v = c.args.cayley.now in
    let n = c.loop-row.row in
    let side = c.len-side.result in
    let at : n * side ≡ n * length v.words = ap (λ (s : ℕ). n * s) c.len-side.ensures.len in
    row_put v c.args.first n c.args.count (n * side) (n * side + side - n * side) c.loop-row.cells
    c.fill_row.new.row c.loop-row.invariant c.fill_row.ensures c.loop-row-test.true
    (omega (arith, c.loop-row.auto.cells, c.requires.long)) at
    (omega (arith, c.len-side.ensures.len))
