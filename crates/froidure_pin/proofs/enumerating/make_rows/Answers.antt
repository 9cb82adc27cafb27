use Rattle.std.proofs.Common.{length, arith}
use Rattle.froidure_pin.proofs.RowLaws.{can_make}
use Rattle.froidure_pin.proofs.enumerating.make_rows.Goals as goal

pub fill-requires-after_bounds : goal.fill-requires-after_bounds
fill-requires-after_bounds g c κs within =
    let m = c.args.machine.now.elements.generators.now in
    let rows = c.args.machine.now.elements.rows in
    rw c.as_mut_slice.ensures.value (record {
      make = can_make m rows c.args.jobs.now
          (length c.in_ok-rows.rows.items) c.requires.seen c.requires.jobs c.in_ok-rows.ensures;
      some = omega arith;
      enough = omega arith;
      numbers = omega arith;
    })
