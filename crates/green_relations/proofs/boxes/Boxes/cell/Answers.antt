use Rattle.std.proofs.Common.{◌≡◌, ◌+◌, ◌*◌, List, ℕ, slice_index, ap, arith, ◌∙◌}
use Rattle.green_relations.specs.Numbering.{part}
use Rattle.green_relations.specs.Layout.{layout}
use Rattle.green_relations.proofs.Laying.{in_columns, in_corners, cell_inside, cell_some, cell_is}
use Rattle.green_relations.proofs.Laying.{members_some}
use Rattle.green_relations.proofs.boxes.Boxes.cell.Goals as goal
use Rattle.green_relations.proofs.boxes.Boxes.cell.Goals.{After-cell_number-cell, After-part_of}

pub cell_number-cell-requires-clause-corner : goal.cell_number-cell-requires-clause-corner
cell_number-cell-requires-clause-corner c =
    let s = c.self.inside in
    let t = layout s.rows.items s.columns.items s.corners.items s.starts.items s.members.items in
    rw c.as_slice.ensures.value (in_corners t c.self.invariant c.args.self.now c.self.view_is
    c.args.n c.requires.number)

pub cell_number-cell-requires-clause-width : goal.cell_number-cell-requires-clause-width
cell_number-cell-requires-clause-width c =
    let s = c.self.inside in
    let t = layout s.rows.items s.columns.items s.corners.items s.starts.items s.members.items in
    rw c.as_slice-2.ensures.value (in_columns t c.self.invariant c.args.self.now c.self.view_is
    c.args.n
    c.requires.number)

pub cell_number-cell-requires-clause-small : goal.cell_number-cell-requires-clause-small
cell_number-cell-requires-clause-small c =
    let s = c.self.inside in
    let t = layout s.rows.items s.columns.items s.corners.items s.starts.items s.members.items in
    rw (c.as_slice.ensures.value, c.as_slice-2.ensures.value) (omega (
      arith,
      c.self.invariant.room,
      cell_inside t c.self.invariant c.args.self.now c.self.view_is c.args.n c.args.row
          c.args.column
          c.requires.number c.requires.row c.requires.column,
    ))

-- the number of the cell
number : (c : After-cell_number-cell)
    → c.cell_number-cell.result
    ≡ slice_index c.self.inside.corners.items c.args.n
    + (c.args.row * slice_index c.self.inside.columns.items c.args.n + c.args.column)
number c =
    rw (← c.as_slice.ensures.value, ← c.as_slice-2.ensures.value) c.cell_number-cell.ensures

pub part_of-requires-clause-cell : goal.part_of-requires-clause-cell
part_of-requires-clause-cell c =
    let s = c.self.inside in
    let t = layout s.rows.items s.columns.items s.corners.items s.starts.items s.members.items in
    rw (c.as_slice-3.ensures.value, number (goal.at.part_of-requires-clause-cell c).After-cell_number-cell) (cell_inside t c.self.invariant c.args.self.now
    c.self.view_is
    c.args.n c.args.row c.args.column c.requires.number c.requires.row c.requires.column)

pub part_of-requires-clause-rise : goal.part_of-requires-clause-rise
part_of-requires-clause-rise c =
    let s = c.self.inside in
    let t = layout s.rows.items s.columns.items s.corners.items s.starts.items s.members.items in
    let rise = cell_some t c.self.invariant c.args.self.now c.self.view_is c.args.n c.args.row
    c.args.column c.requires.number c.requires.row c.requires.column in
    rw (c.as_slice-3.ensures.value, number (goal.at.part_of-requires-clause-rise c).After-cell_number-cell) (omega (arith, rise))

-- the members that are lent
held : (c : After-part_of)
    → c.part_of.result.now ≡ part c.self.inside.starts.items c.self.inside.members.items
    (slice_index c.self.inside.corners.items c.args.n
    + (c.args.row * slice_index c.self.inside.columns.items c.args.n + c.args.column))
held c =
    let s = c.self.inside in
    let at : c.cell_number-cell.result
    ≡ slice_index s.corners.items c.args.n
    + (c.args.row * slice_index s.columns.items c.args.n + c.args.column) =
    rw (← c.as_slice.ensures.value, ← c.as_slice-2.ensures.value) c.cell_number-cell.ensures in
    c.part_of.ensures ∙ (ap (λ (xs : List ℕ). part xs c.as_slice-4.result.now
    c.cell_number-cell.result) c.as_slice-3.ensures.value
    ∙ (ap (λ (xs : List ℕ). part s.starts.items xs c.cell_number-cell.result)
    c.as_slice-4.ensures.value ∙ ap (part s.starts.items s.members.items) at))

pub returns-clause-cell : goal.returns-clause-cell
returns-clause-cell c =
    let s = c.self.inside in
    let t = layout s.rows.items s.columns.items s.corners.items s.starts.items s.members.items in
    held (goal.at.returns-clause-cell c).After-part_of ∙ cell_is t c.self.invariant c.args.self.now c.self.view_is c.args.n c.args.row
    c.args.column
    c.requires.number c.requires.row c.requires.column

pub returns-clause-some : goal.returns-clause-some
returns-clause-some c =
    let s = c.self.inside in
    let t = layout s.rows.items s.columns.items s.corners.items s.starts.items s.members.items in
    rw (held (goal.at.returns-clause-some c).After-part_of) (members_some t c.self.invariant c.args.self.now c.self.view_is c.args.n c.args.row
    c.args.column
    c.requires.number c.requires.row c.requires.column)
