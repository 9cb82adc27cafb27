use Rattle.std.proofs.Common.{ℕ, slice_index, ap, ◌∙◌}
use Rattle.simon_bound.proofs.StepsFrom.{step_next}
use Rattle.simon_bound.proofs.steps.push_member.Goals as goal

pub loop-letter-preserved : goal.loop-letter-preserved
loop-letter-preserved c =
    let labels = c.args.green.now.j in
    step_next c.args.cayley.now labels c.loop-letter.letter c.args.member c.j_class-behind.result
    c.j_class-before.result c.j_class-own.result c.args.classes.now.items
    c.loop-letter.classes.items c.push_other.new.classes.items
    c.push_other-in-loop-letter.new.classes.items
    (c.j_class-behind.ensures ∙ ap (λ (z : ℕ). slice_index labels z) c.right.ensures.right)
    (c.j_class-before.ensures ∙ ap (λ (z : ℕ). slice_index labels z) c.left.ensures.left)
    c.j_class-own.ensures c.loop-letter.invariant c.in_ok-push_other.ensures
    c.in_ok-push_other-2.ensures
