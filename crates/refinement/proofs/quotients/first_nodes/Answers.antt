use Rattle.std.proofs.Common.{◌<◌, length, arith}
use Rattle.refinement.proofs.Firsts.{firsts_skip, firsts_push, firsts_all}
use Rattle.refinement.proofs.quotients.first_nodes.Goals as goal
use Rattle.refinement.proofs.quotients.first_nodes.Goals.{then-class_of-len+in_ok-push, else-class_of-len}

pub loop-node-preserved : goal.loop-node-preserved
loop-node-preserved c =
    let i = c.loop-node.invariant in
    let within : c.loop-node.node < length c.args.partition.now.classes =
    omega (arith, i.0, c.requires.long) in (
      i.0,
      elim c.if-class_of-len.branch [
        | then-class_of-len+in_ok-push w ↦ rw (w.firsts-is, w.in_ok-push.ensures.items)
            (firsts_push _ _ _ _ c.requires.numbering i.1 within
            (omega (arith, c.class_of.ensures, c.len.ensures, w.if-class_of-len.true)))
        | else-class_of-len w ↦ rw w.firsts-is
            (firsts_skip _ _ _ _ c.requires.numbering i.1 within
            (omega (arith, c.class_of.ensures, c.len.ensures, w.if-class_of-len.false)))
      ],
    )

pub returns : goal.returns
returns c = let i = c.loop-node.invariant in
    firsts_all _ _ _ _ c.requires.numbering (omega (arith, i.0, c.requires.long)) i.1
