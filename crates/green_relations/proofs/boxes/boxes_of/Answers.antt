use Rattle.std.proofs.Common.{◌≡◌, ℕ, List, length, slice_index, subst, arith}
use Rattle.std.proofs.lemmas.Grind.{common_steps}
use Rattle.green_relations.specs.Numbering.{AreListed}
use Rattle.green_relations.specs.Layout.{AreCells, AreCorners}
use Rattle.green_relations.proofs.Laying.{as_corners, as_cells}
use Rattle.green_relations.proofs.Diagram.{few_boxes, high_small, wide_small, lie_in_boxes}
use Rattle.green_relations.proofs.Diagram.{cells_few, cells_long, cells_within, laid_out, are_boxes}
use Rattle.green_relations.proofs.boxes.boxes_of.Goals as goal
use Rattle.green_relations.proofs.boxes.boxes_of.Goals.{In_ok-corners, In_ok-cells, In_ok-listing, After-index-count}

pub corners_of-requires-clause-few : goal.corners_of-requires-clause-few
corners_of-requires-clause-few c =
    let p = c.in_ok-places.ensures in
    let at = c.in_ok-places.places in
    rw c.as_slice.ensures.value (few_boxes c.args.green.now p.classes at.boxes.counts.items
    at.boxes.numbers.items at.rows.numbers.items at.columns.numbers.items at.rows.counts.items
    at.columns.counts.items p)

pub corners_of-requires-clause-high : goal.corners_of-requires-clause-high
corners_of-requires-clause-high c =
    let p = c.in_ok-places.ensures in
    let at = c.in_ok-places.places in
    rw c.as_slice.ensures.value (high_small c.args.green.now p.classes at.boxes.counts.items
    at.boxes.numbers.items at.rows.numbers.items at.columns.numbers.items at.rows.counts.items
    at.columns.counts.items p)

pub corners_of-requires-clause-wide : goal.corners_of-requires-clause-wide
corners_of-requires-clause-wide c =
    let p = c.in_ok-places.ensures in
    let at = c.in_ok-places.places in
    rw (c.as_slice.ensures.value, c.as_slice-2.ensures.value)
    (wide_small c.args.green.now p.classes at.boxes.counts.items at.boxes.numbers.items
    at.rows.numbers.items at.columns.numbers.items at.rows.counts.items at.columns.counts.items p)

-- where the cells of each box start
corners_are : (c : In_ok-corners)
    → AreCorners c.in_ok-places.places.rows.counts.items
    c.in_ok-places.places.columns.counts.items c.in_ok-corners.corners.items
corners_are c =
    as_corners c.as_slice.ensures.value c.as_slice-2.ensures.value c.in_ok-corners.ensures

pub cells_of-requires : goal.cells_of-requires
cells_of-requires c =
    let p = c.in_ok-places.ensures in
    let at = c.in_ok-places.places in
    rw (
      c.as_slice-3.ensures.value,
      c.as_slice-4.ensures.value,
      c.as_slice-5.ensures.value,
      c.as_slice-6.ensures.value,
      c.as_slice-7.ensures.value,
    ) (lie_in_boxes c.args.green.now p.classes at.boxes.counts.items at.boxes.numbers.items
    at.rows.numbers.items at.columns.numbers.items at.rows.counts.items at.columns.counts.items p
    c.in_ok-corners.corners.items (corners_are (goal.at.cells_of-requires c).In_ok-corners))

-- the cell of each element
cells_are : (c : In_ok-cells)
    → AreCells c.in_ok-places.places.boxes.numbers.items c.in_ok-places.places.rows.numbers.items
    c.in_ok-places.places.columns.numbers.items c.in_ok-places.places.columns.counts.items
    c.in_ok-corners.corners.items (length c.in_ok-places.places.boxes.numbers.items)
    c.in_ok-cells.cells.items
cells_are c =
    as_cells c.as_slice-3.ensures.value c.as_slice-4.ensures.value c.as_slice-5.ensures.value
    c.as_slice-6.ensures.value c.as_slice-7.ensures.value c.in_ok-cells.ensures

-- the number of all cells
count_is : (c : After-index-count)
    → c.index-count.result.now
    ≡ slice_index c.in_ok-corners.corners.items (length c.in_ok-places.places.rows.counts.items)
count_is c = grind (arith, common_steps)

pub list_members-requires-clause-within : goal.list_members-requires-clause-within
list_members-requires-clause-within c =
    let p = c.in_ok-places.ensures in
    let at = c.in_ok-places.places in
    let here = goal.at.list_members-requires-clause-within c in
    rw (c.as_slice-8.ensures.value, count_is here.After-index-count)
    (cells_within c.args.green.now p.classes at.boxes.counts.items at.boxes.numbers.items
    at.rows.numbers.items at.columns.numbers.items at.rows.counts.items at.columns.counts.items p
    c.in_ok-corners.corners.items (corners_are here.In_ok-corners) c.in_ok-cells.cells.items
    (cells_are here.In_ok-cells))

pub list_members-requires-clause-few : goal.list_members-requires-clause-few
list_members-requires-clause-few c =
    let p = c.in_ok-places.ensures in
    let at = c.in_ok-places.places in
    let here = goal.at.list_members-requires-clause-few c in
    let long = cells_long c.args.green.now p.classes at.boxes.counts.items at.boxes.numbers.items
    at.rows.numbers.items at.columns.numbers.items at.rows.counts.items at.columns.counts.items p
    c.in_ok-corners.corners.items (corners_are here.In_ok-corners) c.in_ok-cells.cells.items
    (cells_are here.In_ok-cells) in
    rw c.as_slice-8.ensures.value (omega (arith, p.classes.few, long))

pub list_members-requires-clause-few_groups : goal.list_members-requires-clause-few_groups
list_members-requires-clause-few_groups c =
    let p = c.in_ok-places.ensures in
    let at = c.in_ok-places.places in
    let here = goal.at.list_members-requires-clause-few_groups c in
    let count = count_is here.After-index-count in
    let few = cells_few c.args.green.now p.classes at.boxes.counts.items at.boxes.numbers.items
    at.rows.numbers.items at.columns.numbers.items at.rows.counts.items at.columns.counts.items p
    c.in_ok-corners.corners.items (corners_are here.In_ok-corners) in
    omega (arith, count, few)

-- the members of the cells
members_are : (c : In_ok-listing)
    → c.index-count.result.now
    ≡ slice_index c.in_ok-corners.corners.items (length c.in_ok-places.places.rows.counts.items)
    → AreListed c.in_ok-cells.cells.items
    (slice_index c.in_ok-corners.corners.items (length c.in_ok-places.places.rows.counts.items))
    c.in_ok-listing.listing.starts.items c.in_ok-listing.listing.members.items
members_are c count =
    let starts = c.in_ok-listing.listing.starts.items in
    let members = c.in_ok-listing.listing.members.items in
    subst (λ (z : List ℕ). AreListed z
    (slice_index c.in_ok-corners.corners.items (length c.in_ok-places.places.rows.counts.items))
    starts members) c.as_slice-8.ensures.value
    (subst (λ (n : ℕ). AreListed c.as_slice-8.result.now n starts members)
    count c.in_ok-listing.ensures)

pub invariant_of-result : goal.invariant_of-result
invariant_of-result c =
    let p = c.in_ok-places.ensures in
    let at = c.in_ok-places.places in
    let here = goal.at.invariant_of-result c in
    laid_out c.args.green.now p.classes at.boxes.counts.items at.boxes.numbers.items
    at.rows.numbers.items at.columns.numbers.items at.rows.counts.items at.columns.counts.items p
    c.in_ok-corners.corners.items (corners_are here.In_ok-corners) c.in_ok-cells.cells.items
    (cells_are here.In_ok-cells) c.in_ok-listing.listing.starts.items
    c.in_ok-listing.listing.members.items (members_are here.In_ok-listing (count_is here.After-index-count))

pub returns : goal.returns
returns c =
    let p = c.in_ok-places.ensures in
    let at = c.in_ok-places.places in
    let here = goal.at.returns c in
    record {
      boxes = are_boxes c.args.green.now p.classes at.boxes.counts.items at.boxes.numbers.items
          at.rows.numbers.items at.columns.numbers.items at.rows.counts.items
          at.columns.counts.items p c.in_ok-corners.corners.items (corners_are here.In_ok-corners)
          c.in_ok-cells.cells.items (cells_are here.In_ok-cells)
          c.in_ok-listing.listing.starts.items c.in_ok-listing.listing.members.items
          (members_are here.In_ok-listing (count_is here.After-index-count));
    }
