use Rattle.std.proofs.Common.{◌+◌, arith}
use Rattle.cayley_tables.proofs.LeftRows.{goes_on_trans, goes_on_more, kept_trans}
use Rattle.cayley_tables.proofs.left_rows.push_left_rows.Goals as goal

pub loop-element-preserved : goal.loop-element-preserved
loop-element-preserved c =
    let i = c.loop-element.invariant in
    let e = c.in_ok-push_left_row.ensures in
    let row = goes_on_more c.args.letters c.args.right.now c.args.links.now c.args.to
    (c.loop-element.element + 1) c.loop-element.left.items c.push_left_row.new.left.items
    (omega arith) e.left in (
      (
        e.there,
        kept_trans c.args.left.now.items c.loop-element.left.items c.push_left_row.new.left.items
            i.0.1 e.kept,
      ),
      goes_on_trans c.args.letters c.args.right.now c.args.links.now c.args.to
          c.args.left.now.items c.loop-element.left.items c.push_left_row.new.left.items i.1 row,
    )
