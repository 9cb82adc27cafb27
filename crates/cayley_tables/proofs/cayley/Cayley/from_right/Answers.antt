use Rattle.std.proofs.Common.{rules, ◌≡◌, ◌≤◌, ◌*◌, ◌/◌, length, refl, sym, ◌∙◌, arith}
use Rattle.cayley_tables.specs.Tables.{right_graph}
use Rattle.cayley_tables.proofs.Linking.{same_size}
use Rattle.cayley_tables.proofs.FromRight.{number, all_known, none_known, all_can_go_on, all_tables}
use Rattle.cayley_tables.proofs.cayley.Cayley.from_right.Goals as goal

pub push_left_rows-requires-clause-can : goal.push_left_rows-requires-clause-can
push_left_rows-requires-clause-can c =
    let size = length c.args.right.now / c.args.letters in
    let g = right_graph size c.args.letters c.args.right.now in
    rw c.in_ok-left.ensures.items
    (all_can_go_on g (size * c.args.letters) c.in_ok-links.links c.in_ok-links.ensures refl)

pub from_parts-requires : goal.from_parts-requires
from_parts-requires c =
    let k = c.args.letters in
    let size = length c.args.right.now / k in
    let g = right_graph size k c.args.right.now in
    let l = c.in_ok-links.links in
    let h = c.in_ok-links.ensures in
    let e = c.into_lists-prefix.ensures in
    let rows : length c.args.right.now ≡ size * k = search rules in
    let same : size ≡ c.requires.size =
    same_size size c.requires.size k c.requires.some
    (sym rows ∙ c.requires.monoid.shortlex.graph.long) in
    let few = c.requires.small in
    let small : size ≤ 50000 = omega arith in
    let f = c.in_ok-push_left_rows.ensures in
    let known = f.left.numbers (number g (size * k) l h refl) h.words
    (all_known g (size * k) l h refl)
    (rw c.in_ok-left.ensures.items (none_known g (size * k) l h refl)) in (
      h.words,
      rw (c.in_ok-targets.ensures.items, e.prefix, e.last, e.suffix, e.first)
          (all_tables g
          (size * k) l h refl c.push_left_rows.new.left.items known f.there c.requires.some
          c.requires.few small),
    )
