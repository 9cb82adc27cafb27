use Rattle.std.proofs.Common.{◌≡◌, ◌∙◌, ◌++◌, ◌∷◌, [], ℕ, List, Vec, Global, true, false, sym, ap}
use Rattle.language_theory.specs.Automaton.{is_marked}
use Rattle.star_free.proofs.Constructed.{finals_more, finals_same}
use Rattle.star_free.proofs.answer.finals.Goals.{then-accepts+in_ok-push, else-accepts}
use Rattle.star_free.proofs.answer.finals.Goals as goal

pub loop-element-preserved : goal.loop-element-preserved
loop-element-preserved c =
    let m = c.args.monoid.now in
    let n = c.loop-element.element in (
      c.loop-element.invariant.0,
      elim c.if-accepts.branch [
        | then-accepts+in_ok-push w ↦
            let marked : is_marked m.accepted n ≡ true = sym c.accepts.ensures ∙ w.if-accepts.true in
            ap (λ (v : Vec ℕ Global). v.items) w.finals-is ∙ w.in_ok-push.ensures.items
            ∙ ap (λ (xs : List ℕ). xs ++ n ∷ []) c.loop-element.invariant.1
            ∙ finals_more (is_marked m.accepted) n marked
        | else-accepts w ↦
            let unmarked : is_marked m.accepted n ≡ false =
            sym c.accepts.ensures ∙ w.if-accepts.false in
            ap (λ (v : Vec ℕ Global). v.items) w.finals-is ∙ c.loop-element.invariant.1
            ∙ finals_same (is_marked m.accepted) n unmarked
      ],
    )
