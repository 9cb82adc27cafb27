use Rattle.std.proofs.Common.{◌≡◌, length, arith}
use Rattle.std.proofs.lemmas.Grind.{common_steps}
use Rattle.green_relations.specs.Layout.{layout}
use Rattle.green_relations.proofs.Laying.{len_is}
use Rattle.green_relations.proofs.boxes.Boxes.len.Goals as goal

pub returns : goal.returns
returns c =
    let s = c.self.inside in
    let t = layout s.rows.items s.columns.items s.corners.items s.starts.items s.members.items in
    let same : length s.rows.items ≡ length c.args.self.now =
    len_is t c.self.invariant c.args.self.now c.self.view_is in
    grind (arith, common_steps)

pub overflow_cast-result : goal.overflow_cast-result
overflow_cast-result c =
    let few = c.self.invariant.few in
    grind (arith, common_steps)
