use Rattle.std.proofs.Common.{◌≡◌, length, arith}
use Rattle.green_relations.proofs.Laying.{areas_small}
use Rattle.green_relations.proofs.boxes.corners_of.Goals as goal

pub starts_of-requires : goal.starts_of-requires
starts_of-requires c =
    let i = c.loop-index.invariant in
    let all : c.loop-index.index ≡ length c.args.rows.now = omega arith in
    record {
      small = (
        2500000000,
        rw c.as_slice.ensures.value (areas_small c.args.rows.now c.args.columns.now _ c.requires.few
            (omega (arith, i.0, all)) (λ b hb. i.1 b (omega (arith, all))) c.requires.high
            c.requires.wide),
      );
    }
