use Rattle.std.proofs.Common.{rules, ◌+◌, length}
use Rattle.components.specs.Components.{AreComponents}
use Rattle.components.specs.Beside.{AreBoth}
use Rattle.green_relations.specs.GreenClasses.{GreenClasses}
use Rattle.green_relations.specs.Pairs.{ArePairMates}
use Rattle.green_relations.proofs.Paths.{left_graph}
use Rattle.green_relations.proofs.Gathering.{as_graph, AreFound, found_greens, found_classes}
use Rattle.green_relations.proofs.classes.green_of.Goals as goal
use Rattle.green_relations.proofs.classes.green_of.Goals.{In_ok-idempotents}

pub side_by_side-requires-clause-second : goal.side_by_side-requires-clause-second
side_by_side-requires-clause-second c = as_graph c.len-size.ensures.len
    c.letters-letters.ensures.letters (search rules)
    (left_graph c.args.cayley.now c.len-size.ensures.graphs)

pub strong_components-requires-2 : goal.strong_components-requires-2
strong_components-requires-2 c = as_graph c.len-size.ensures.len
    c.letters-letters.ensures.letters (search rules)
    (left_graph c.args.cayley.now c.len-size.ensures.graphs)

-- the classes that are made
abbrev made : In_ok-idempotents → GreenClasses
made c = record {
  r = c.in_ok-r.r.items;
  l = c.in_ok-l.l.items;
  j = c.in_ok-j.j.items;
  h = c.in_ok-h.h.items;
  idempotents = c.in_ok-idempotents.idempotents.items;
}

-- they are what was found in the targets of both graphs
found : (c : In_ok-idempotents)
    → AreFound c.args.cayley.now c.len-size.result c.letters-letters.result
    c.right_targets-right.result.now c.left_targets-left.result.now c.in_ok-both.both.items (made c)
found c =
    let n = c.len-size.result in
    let k = c.letters-letters.result in
    let right = c.right_targets-right.result.now in
    let left = c.left_targets-left.result.now in
    let both = c.in_ok-both.both.items in
    let r = c.in_ok-r.r.items in
    let l = c.in_ok-l.l.items in
    let are_both : AreBoth n k k right left both = search rules in
    let are_r : AreComponents n k right r = search rules in
    let are_l : AreComponents n k left l = search rules in
    let are_j : AreComponents n (k + k) both c.in_ok-j.j.items = search rules in
    let are_h : ArePairMates r l (length r) c.in_ok-h.h.items = search rules in
    record {
      size = c.len-size.ensures.len;
      letters = c.letters-letters.ensures.letters;
      right = c.right_targets-right.ensures;
      left = c.left_targets-left.ensures;
      both = are_both;
      r = are_r;
      l = are_l;
      j = are_j;
      h = are_h;
      marks = c.in_ok-idempotents.ensures.long;
      idempotent = c.in_ok-idempotents.ensures.marks;
    }

pub invariant_of-result : goal.invariant_of-result
invariant_of-result c =
    let k = (goal.at.invariant_of-result c).In_ok-idempotents in
    found_classes c.args.cayley.now c.len-size.result c.letters-letters.result
    c.right_targets-right.result.now c.left_targets-left.result.now c.in_ok-both.both.items (made k)
    c.len-size.ensures.graphs (found k) c.len-size.ensures.few

pub returns : goal.returns
returns c =
    let k = (goal.at.returns c).In_ok-idempotents in
    record {
      green = found_greens c.args.cayley.now c.len-size.result c.letters-letters.result
          c.right_targets-right.result.now c.left_targets-left.result.now c.in_ok-both.both.items
          (made k) c.len-size.ensures.graphs (found k);
    }
