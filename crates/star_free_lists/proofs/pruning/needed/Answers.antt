use Rattle.std.proofs.Common.{◌≡◌, ◌∙◌, ◌-◌, ◌<◌, ℕ, true, false, length, replicate, arith, subst, sym}
use Rattle.std.proofs.lemmas.Grind.{common_steps}
use Rattle.std.proofs.lemmas.List.{get_or_default}
use Rattle.language_theory.specs.Automaton.{is_marked}
use Rattle.star_free_theory.specs.Pruning.{node_at}
use Rattle.star_free_lists.specs.Pruning.{IsMarking}
use Rattle.star_free_lists.proofs.Needed.{marking_first, marking_skip, marking_more, marking_all, below_wider, node_below}
use Rattle.star_free_lists.proofs.pruning.needed.Goals as goal

pub loop-n-init : goal.loop-n-init
loop-n-init c =
    let nodes = c.args.nodes.now in
    let e : c.in_ok-marks.marks.items ≡ replicate (length nodes) false =
    grind (arith, common_steps) in
    marking_first nodes c.args.root (length nodes) c.in_ok-marks.marks.items e c.requires.inside
    (omega arith)

pub mark_named-requires : goal.mark_named-requires
mark_named-requires c =
    let nodes = c.args.nodes.now in
    let n = c.loop-n.n - 1 in
    below_wider n (length c.loop-n.marks.items) (node_at nodes n)
    (node_below nodes c.args.root n c.requires (omega arith))
    (let k = c.loop-n.invariant.long in omega arith)

pub loop-n-preserved-then-index : goal.loop-n-preserved-then-index
loop-n-preserved-then-index c =
    let nodes = c.args.nodes.now in
    let n = c.loop-n.n - 1 in
    let ms = c.loop-n.marks.items in
    let l : n < length ms = let k = c.loop-n.invariant.long in omega arith in
    let e : is_marked ms n ≡ true =
    get_or_default ms n false c.index.result.now l ∙ sym c.index.ensures ∙ c.if-index.true in
    marking_more nodes c.args.root n c.loop-n.n ms c.mark_named.new.marks.items (omega arith)
    c.requires (omega arith) c.loop-n.invariant e c.mark_named.ensures

pub loop-n-preserved : goal.loop-n-preserved
loop-n-preserved c =
    let nodes = c.args.nodes.now in
    let n = c.loop-n.n - 1 in
    let ms = c.loop-n.marks.items in
    let l : n < length ms = let k = c.loop-n.invariant.long in omega arith in
    let e : is_marked ms n ≡ false =
    get_or_default ms n false c.index.result.now l ∙ sym c.index.ensures ∙ c.if-index.false in
    marking_skip nodes c.args.root n c.loop-n.n ms (omega arith) c.loop-n.invariant e

pub returns : goal.returns
returns c =
    let e : c.loop-n.n ≡ 0 = omega arith in
    marking_all c.args.nodes.now c.args.root c.loop-n.marks.items
    (subst (λ (n : ℕ). IsMarking c.args.nodes.now c.args.root n c.loop-n.marks.items) e
    c.loop-n.invariant)
