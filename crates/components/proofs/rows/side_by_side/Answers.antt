use Rattle.std.proofs.Common.{rules, arith, ◌<◌, ◌+◌, ◌*◌, ◌≡◌, ◌++◌, List, ℕ, All, length, take}
use Rattle.std.proofs.Common.{drop, ap, sym, subst, ◌∙◌}
use Rattle.components.specs.Beside.{HasBoth}
use Rattle.components.proofs.Beside.{row_room, drop_none, drop_next, both_more, both_none}
use Rattle.components.proofs.Beside.{both_done, within_more}
use Rattle.components.proofs.rows.side_by_side.Goals as goal

pub split_at-requires : goal.split_at-requires
split_at-requires c = omega (
  arith,
  ap length c.loop-node.invariant.1,
  row_room c.loop-node.node c.requires.first c.loop-node-test.true,
)

pub split_at-requires-in-loop-node : goal.split_at-requires-in-loop-node
split_at-requires-in-loop-node c =
    omega (
      arith,
      ap length c.loop-node.invariant.2,
      row_room c.loop-node.node c.requires.second c.loop-node-test.true,
    )

pub loop-node-init : goal.loop-node-init
loop-node-init c = (
  subst (HasBoth 0 c.args.degree c.args.degree_of_second c.args.first.now c.args.second.now)
      (sym c.new-both.ensures.items) both_none,
  drop_none c.args.degree c.args.first.now,
  drop_none c.args.degree_of_second c.args.second.now,
  λ k d h. absurd (omega (arith, ap length c.new-both.ensures.items)),
)

pub loop-node-preserved : goal.loop-node-preserved
loop-node-preserved c =
    let i = c.loop-node.node in
    let d = c.args.degree in
    let e = c.args.degree_of_second in
    let first = c.args.first.now in
    let second = c.args.second.now in
    let row : c.split_at.result.0.now ≡ take d (drop (i * d) first) = c.split_at.ensures.front
    ∙ ap (take d) c.loop-node.invariant.1 in
    let row_2 : c.split_at-in-loop-node.result.0.now ≡ take e (drop (i * e) second) =
    c.split_at-in-loop-node.ensures.front ∙ ap (take e) c.loop-node.invariant.2 in
    let items : c.extend_from_slice-in-loop-node.new.self.items ≡ c.loop-node.both.items ++ take d
    (drop (i * d) first) ++ take e (drop (i * e) second) =
    cc (
      c.in_ok-extend_from_slice.ensures.items,
      c.in_ok-extend_from_slice-2.ensures.items,
      row,
      row_2,
    ) in
    let rows = both_more c.args.nodes i c.requires.first c.requires.second c.loop-node-test.true
    c.loop-node.invariant.0 in
    let within = within_more d e (i * d) (i * e) first second c.loop-node.both.items
    c.requires.first.within c.requires.second.within c.loop-node.invariant.3 in (
      subst (HasBoth (i + 1) d e first second) (sym items) rows,
      c.split_at.ensures.back ∙ ap (drop d) c.loop-node.invariant.1 ∙ drop_next i d first,
      c.split_at-in-loop-node.ensures.back ∙ ap (drop e) c.loop-node.invariant.2
          ∙ drop_next i e second,
      subst (λ (xs : List ℕ). All (λ t. t < c.args.nodes) xs) (sym items) within,
    )

pub returns : goal.returns
returns c = both_done c.loop-node.node (search rules) c.loop-node.invariant.0
    c.loop-node.invariant.3
