use Rattle.local_submonoids.proofs.FirstElements.{one_more_read, none_more_read}
use Rattle.local_submonoids.proofs.submonoids.first_elements.Goals.{then-not-index+in_ok-push, else-not-index}
use Rattle.local_submonoids.proofs.submonoids.first_elements.Goals as goal

pub loop-s-preserved : goal.loop-s-preserved
loop-s-preserved c = elim c.if-not-index.branch [
  | then-not-index+in_ok-push w ↦ (
    rw (w.is_seen-is, w.firsts-is, w.in_ok-push.ensures.items) (one_more_read c.args.table.now
        c.args.e c.loop-s.s c.loop-s.is_seen.items c.loop-s.firsts.items c.loop-s.invariant.0
        c.local_element-element.result c.index.result.now c.local_element-element.ensures.element
        c.local_element-element.ensures.within c.index.ensures w.if-not-index.true),
    c.loop-s.invariant.1,
  )
  | else-not-index w ↦ (
    rw (w.is_seen-is, w.firsts-is) (none_more_read c.args.table.now c.args.e c.loop-s.s
        c.loop-s.is_seen.items c.loop-s.firsts.items c.loop-s.invariant.0
        c.local_element-element.result c.index.result.now c.local_element-element.ensures.element
        c.local_element-element.ensures.within c.index.ensures w.if-not-index.false),
    c.loop-s.invariant.1,
  )
]
