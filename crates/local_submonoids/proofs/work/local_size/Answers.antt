use Rattle.std.proofs.Common.{◌≤◌, arith}
use Rattle.local_submonoids.proofs.FirstElements.{firsts_few}
use Rattle.local_submonoids.proofs.work.local_size.Goals as goal

pub overflow_cast-result : goal.overflow_cast-result
overflow_cast-result c =
    let few = firsts_few c.args.table.now c.args.e c.args.table.now.side c.in_ok-firsts.firsts.items
    c.in_ok-firsts.ensures in
    let side : c.args.table.now.side ≤ 8000 = c.requires.few in
    omega arith

pub returns-clause-few : goal.returns-clause-few
returns-clause-few c =
    let few = firsts_few c.args.table.now c.args.e c.args.table.now.side c.in_ok-firsts.firsts.items
    c.in_ok-firsts.ensures in
    let side : c.args.table.now.side ≤ 8000 = c.requires.few in
    omega arith
