use Rattle.parallel_table.proofs.filling.+fill_parts.Given as goal

abbrev pub decreases-fill_parts : goal.decreases-fill_parts
decreases-fill_parts g l = l.parts.count

abbrev pub decreases-join_mut+arg2 : goal.decreases-join_mut+arg2
decreases-join_mut+arg2 g l = l.left.count

abbrev pub decreases-join_mut+arg3 : goal.decreases-join_mut+arg3
decreases-join_mut+arg3 g l = l.right.count
