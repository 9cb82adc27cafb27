use Rattle.std.proofs.Common.{rules, replicate, ◌≡◌, ◌<◌, ℕ, List, length, slice_index, refl, ap}
use Rattle.std.proofs.Common.{arith, ◌∙◌}
use Rattle.std.proofs.lemmas.Grind.{common_steps}
use Rattle.std.proofs.lemmas.List.{length-replicate, get_or-replicate}
use Rattle.green_relations.specs.Numbering.{IsNumbering}
use Rattle.green_relations.proofs.Numbers.{as_numbering}
use Rattle.green_relations.proofs.Diagram.{columns_grouped}
use Rattle.green_relations.proofs.boxes.places_of.Goals as goal
use Rattle.green_relations.proofs.boxes.places_of.Goals.{In_ok-boxes, After-index-count}

-- all elements are in one group
one_group : (c : In_ok-boxes) → (i : ℕ) → i < length c.args.green.now.r
    → slice_index c.in_ok-group.group.items i ≡ 0
one_group c i hi =
    let items : c.in_ok-group.group.items ≡ replicate c.len.result 0 = search rules in
    ap (λ (xs : List ℕ). slice_index xs i) items
    ∙ get_or-replicate {A = ℕ} c.len.result i 0 0 (omega (arith, c.len.ensures.len))

-- the boxes are numbered
boxes_are : (c : In_ok-boxes)
    → IsNumbering c.args.green.now.j c.in_ok-group.group.items (length c.args.green.now.r) 1
    c.in_ok-boxes.boxes.numbers.items c.in_ok-boxes.boxes.counts.items
boxes_are c =
    let items : c.in_ok-group.group.items ≡ replicate c.len.result 0 = search rules in
    let whole = ap length items ∙ (length-replicate _ _ ∙ c.len.ensures.len) in
    as_numbering c.j_labels.ensures c.as_slice.ensures.value
    (ap length c.as_slice.ensures.value ∙ whole) refl c.in_ok-boxes.ensures

-- the number of boxes
count_is : (c : After-index-count)
    → c.index-count.result.now ≡ slice_index c.in_ok-boxes.boxes.counts.items 0
count_is c = grind (arith, common_steps)

pub number_classes-requires-3-clause-grouped : goal.number_classes-requires-3-clause-grouped
number_classes-requires-3-clause-grouped c =
    let here = goal.at.number_classes-requires-3-clause-grouped c in
    let tally = c.in_ok-boxes.boxes.counts.items in
    let boxes = c.in_ok-boxes.boxes.numbers.items in
    let group = c.in_ok-group.group.items in
    let count = count_is here.After-index-count in
    rw (c.l_labels.ensures, c.as_slice-3.ensures.value, count)
    (columns_grouped c.args.green.now c.len.ensures.classes tally boxes group
    (one_group here.In_ok-boxes) (boxes_are here.In_ok-boxes))

pub returns : goal.returns
returns c =
    let here = goal.at.returns c in
    let box = boxes_are here.In_ok-boxes in
    let count = count_is here.After-index-count in
    record {
      classes = c.len.ensures.classes;
      group = c.in_ok-group.group.items;
      one_group = one_group here.In_ok-boxes;
      box = box;
      row = as_numbering c.r_labels.ensures c.as_slice-2.ensures.value
          (ap length c.as_slice-2.ensures.value ∙ box.long) count c.in_ok-rows.ensures;
      column = as_numbering c.l_labels.ensures c.as_slice-3.ensures.value
          (ap length c.as_slice-3.ensures.value ∙ box.long) count c.in_ok-columns.ensures;
    }
