use Rattle.std.proofs.Common.{◌≡◌, ◌+◌, ◌∷◌, [], ◌++◌, ℕ, List, length, ap, arith, sym, subst, ◌∙◌}
use Rattle.std.proofs.lemmas.Grind.{common_steps}
use Rattle.simon_bound.specs.Steps.{AreSteps}
use Rattle.simon_bound.proofs.Gains.{steps_next}
use Rattle.simon_bound.proofs.steps.steps_of.Goals as goal

pub loop-class-preserved : goal.loop-class-preserved
loop-class-preserved c =
    let labels = c.args.green.now.j in
    let starts = c.loop-class.starts.items in
    let classes = c.push_class.new.classes.items in
    let long : c.len-in-loop-class.result ≡ length classes = grind (arith, common_steps) in
    let pushed : c.push-in-loop-class.new.self.items ≡ starts ++ length classes ∷ [] =
    c.in_ok-push-2.ensures.items
    ∙ ap (λ (v : ℕ). starts ++ v ∷ []) long in
    subst (λ (xs : List ℕ). AreSteps c.args.cayley.now labels (c.loop-class.class + 1) xs classes)
    (sym pushed) (steps_next c.args.cayley.now labels c.loop-class.class starts
    c.loop-class.classes.items classes c.loop-class.invariant c.in_ok-push_class.ensures)
