use Rattle.std.proofs.Common.{◌≡◌, ◌<◌, length, slice_index, arith, ◌∙◌}
use Rattle.std.proofs.lemmas.Grind.{common_steps}
use Rattle.green_relations.specs.Layout.{layout}
use Rattle.green_relations.proofs.Laying.{in_rows, in_columns, columns_is}
use Rattle.green_relations.proofs.boxes.Boxes.columns.Goals as goal
use Rattle.green_relations.proofs.boxes.Boxes.columns.Goals.{After-index}

pub index-requires : goal.index-requires
index-requires c =
    let s = c.self.inside in
    let t = layout s.rows.items s.columns.items s.corners.items s.starts.items s.members.items in
    let inside : c.args.n < length s.columns.items =
    in_columns t c.self.invariant c.args.self.now c.self.view_is c.args.n c.requires in
    grind (arith, common_steps)

-- what is read
read : (c : After-index)
    → c.index.result.now ≡ slice_index c.self.inside.columns.items c.args.n
read c =
    let s = c.self.inside in
    let t = layout s.rows.items s.columns.items s.corners.items s.starts.items s.members.items in
    let inside : c.args.n < length s.columns.items =
    in_columns t c.self.invariant c.args.self.now c.self.view_is c.args.n c.requires in
    grind (arith, common_steps)

pub overflow_cast-result : goal.overflow_cast-result
overflow_cast-result c =
    let s = c.self.inside in
    let t = layout s.rows.items s.columns.items s.corners.items s.starts.items s.members.items in
    let row = in_rows t c.self.invariant c.args.self.now c.self.view_is c.args.n c.requires in
    omega (arith, read (goal.at.overflow_cast-result c).After-index, (c.self.invariant.wide c.args.n row).1)

pub returns-clause-columns : goal.returns-clause-columns
returns-clause-columns c =
    let s = c.self.inside in
    let t = layout s.rows.items s.columns.items s.corners.items s.starts.items s.members.items in
    λ row hy. read (goal.at.returns-clause-columns c).After-index ∙ columns_is t c.self.invariant c.args.self.now c.self.view_is c.args.n row
    c.requires hy

pub returns-clause-some : goal.returns-clause-some
returns-clause-some c =
    let s = c.self.inside in
    let t = layout s.rows.items s.columns.items s.corners.items s.starts.items s.members.items in
    let row = in_rows t c.self.invariant c.args.self.now c.self.view_is c.args.n c.requires in
    omega (arith, read (goal.at.returns-clause-some c).After-index, (c.self.invariant.wide c.args.n row).0)
