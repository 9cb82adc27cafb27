use Rattle.std.proofs.Common.{◌≡◌, ℕ, List, ◌++◌, ◌∷◌, [], sym, ap, ◌∙◌, arith, append_assoc}
use Rattle.std.specs.Prelude.{map}
use Rattle.std.specs.List.{range_with_len}
use Rattle.std.proofs.lemmas.List.FromFn.{map-range_with_len_more}
use Rattle.froidure_pin.proofs.MapLaws.{own_push}
use Rattle.froidure_pin.proofs.generators.push_points.Goals as goal

pub loop-point-preserved : goal.loop-point-preserved
loop-point-preserved c =
    c.in_ok-push.ensures.items
    ∙ ap (λ (xs : List ℕ). xs ++ c.loop-point.point ∷ []) c.loop-point.invariant
    ∙ append_assoc c.args.images.now.items
    (map (λ (p : ℕ). p) (range_with_len 0 c.loop-point.point)) (c.loop-point.point ∷ [])
    ∙ ap (λ (xs : List ℕ). c.args.images.now.items ++ xs)
    (sym (map-range_with_len_more (λ (p : ℕ). p) 0 c.loop-point.point c.loop-point.point
    (omega arith)))

pub returns : goal.returns
returns c =
    let all : c.loop-point.point ≡ c.args.points = omega arith in
    rw (c.loop-point.invariant, all)
    (own_push c.args.points c.args.letter c.args.images.now.items c.requires)
