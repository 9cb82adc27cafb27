use Rattle.std.proofs.Common.{rules, ◌<◌, ◌≤◌, ◌≡◌, ◌-◌, length, slice_index, arith, take}
use Rattle.std.proofs.lemmas.Grind.{common_steps}
use Rattle.components.proofs.Changes.{linked_take, starts_some, starts_below}
use Rattle.components.proofs.join.Goals as goal

pub loop-starts-preserved : goal.loop-starts-preserved
loop-starts-preserved c =
    let ss = c.loop-starts.starts.items in
    let some : 0 < length ss = starts_some c.args.place c.loop-starts.invariant.0
    c.requires.place in
    let rest : c.pop.new.self.items ≡ take (length ss - 1) ss = search rules in
    let above : c.args.place < slice_index ss (length ss - 1) = grind (arith, common_steps) in (
      linked_take c.args.place c.loop-starts.invariant.0 some rest c.requires.place
          c.requires.reached above,
      grind (arith, common_steps),
      grind (arith, common_steps),
    )

pub returns : goal.returns
returns c =
    let ss = c.loop-starts.starts.items in
    let below : slice_index ss (length ss - 1) ≤ c.args.place = grind (arith, common_steps) in
    record {
      linked = c.loop-starts.invariant.0;
      shorter = c.loop-starts.invariant.1;
      same = c.loop-starts.invariant.2;
      below = starts_below c.args.place c.loop-starts.invariant.0 below;
    }
