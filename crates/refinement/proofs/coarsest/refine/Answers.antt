use Rattle.std.proofs.Common.{List, ℕ, subst}
use Rattle.refinement.specs.Refinement.{IsSplit}
use Rattle.refinement.proofs.Refining.{split_keeps, keeping_respects, split_ends, split_is_less}
use Rattle.refinement.proofs.coarsest.refine.Goals as goal

pub returns-then-is_same : goal.returns-then-is_same
returns-then-is_same c =
    let i = c.loop-coarse.invariant in
    let s = subst (λ (cs : List ℕ). IsSplit c.args.graph.now c.args.marks.now cs
    c.in_ok-finer.finer) c.classes.ensures c.in_ok-finer.ensures in
    split_ends c.args.graph.now c.args.marks.now i.0 c.loop-coarse.coarse c.in_ok-finer.finer i.1 s
    (c.is_same.ensures.0 c.if-is_same.true)

pub loop-coarse-smaller : goal.loop-coarse-smaller
loop-coarse-smaller c =
    let i = c.loop-coarse.invariant in
    let s = subst (λ (cs : List ℕ). IsSplit c.args.graph.now c.args.marks.now cs
    c.in_ok-finer.finer) c.classes.ensures c.in_ok-finer.ensures in
    split_is_less c.args.graph.now c.args.marks.now c.loop-coarse.coarse c.in_ok-finer.finer i.1 s
    (λ e. cc (c.is_same.ensures.1 e, c.if-is_same.false))

pub loop-coarse-preserved : goal.loop-coarse-preserved
loop-coarse-preserved c =
    let i = c.loop-coarse.invariant in
    let s = subst (λ (cs : List ℕ). IsSplit c.args.graph.now c.args.marks.now cs
    c.in_ok-finer.finer) c.classes.ensures c.in_ok-finer.ensures in (
      i.0,
      split_keeps c.args.graph.now c.args.marks.now i.0 c.loop-coarse.coarse.classes
          c.in_ok-finer.finer
          (keeping_respects c.args.graph.now c.args.marks.now c.loop-coarse.coarse i.1) s,
    )

pub loop-coarse-init : goal.loop-coarse-init
loop-coarse-init c =
    let g = c.args.graph.now in
    let s = subst (λ (cs : List ℕ). IsSplit g c.args.marks.now cs c.in_ok-coarse.coarse)
    c.as_slice.ensures.value c.in_ok-coarse.ensures in (
      c.split_all.ensures.graph,
      split_keeps g c.args.marks.now c.split_all.ensures.graph
          c.in_ok-classes.classes.items c.in_ok-coarse.coarse c.in_ok-classes.ensures.respects s,
    )
