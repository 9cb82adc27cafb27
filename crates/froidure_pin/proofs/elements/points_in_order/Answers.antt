use Rattle.std.proofs.Common.{ℕ, List, ◌++◌, ◌∷◌, [], sym, ap, ◌∙◌, arith}
use Rattle.std.proofs.lemmas.List.FromFn.{map-range_with_len_more}
use Rattle.froidure_pin.proofs.elements.points_in_order.Goals as goal

pub loop-point-preserved : goal.loop-point-preserved
loop-point-preserved c =
    c.in_ok-push.ensures.items
    ∙ ap (λ (xs : List ℕ). xs ++ c.loop-point.point ∷ []) c.loop-point.invariant
    ∙ sym (map-range_with_len_more (λ (p : ℕ). p) 0 c.loop-point.point c.loop-point.point
    (omega arith))
