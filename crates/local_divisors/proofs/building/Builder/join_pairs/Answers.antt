use Rattle.std.proofs.Common.{◌≡◌, ◌∙◌, ◌<◌, ◌∷◌, ℕ, List, Some, length, slice_index, sym, ap}
use Rattle.std.proofs.lemmas.List.Elements.{All-rest}
use Rattle.star_free_theory.specs.declared.nodes.SfNode.TheVariants as node
use Rattle.star_free_theory.specs.Construction.{take, join, join_pairs}
use Rattle.local_divisors.proofs.Steps.{stops, bind_done}
use Rattle.local_divisors.proofs.building.Builder.join_pairs.Goals as goal

pub returns-in_err-cat : goal.returns-in_err-cat
returns-in_err-cat c =
    let m = Some c.args.most in
    let f = slice_index c.args.first.now in
    let g = slice_index c.args.second.now in
    let p : ℕ × ℕ = (c.in-Some.left, c.in-Some.right) in
    let taken : c.loop-left.rest ≡ p ∷ c.next.new.self = c.in-Some.ensures in
    let e = sym c.loop-left.invariant.0 ∙ ap (λ (ps : List (ℕ × ℕ)). join_pairs m f g
    c.loop-left.joined ps c.loop-left.self) taken in
    stops (take m c.loop-left.self (node.Cat (f p.0) (g p.1))) _ _ _
    c.in_err-cat.field-0.0 _ e c.in_err-cat.ensures c.from_residual.ensures.1

pub returns-in_err-number : goal.returns-in_err-number
returns-in_err-number c =
    let m = Some c.args.most in
    let f = slice_index c.args.first.now in
    let g = slice_index c.args.second.now in
    let p : ℕ × ℕ = (c.in-Some.left, c.in-Some.right) in
    let taken : c.loop-left.rest ≡ p ∷ c.next.new.self = c.in-Some.ensures in
    let e = sym c.loop-left.invariant.0 ∙ ap (λ (ps : List (ℕ × ℕ)). join_pairs m f g
    c.loop-left.joined ps c.loop-left.self) taken
    ∙ bind_done (take m c.loop-left.self (node.Cat (f p.0) (g p.1))) _
    (c.take.new.self, c.in_ok-cat.cat) c.in_ok-cat.ensures in
    stops (join m c.loop-left.joined c.take.new.self c.in_ok-cat.cat) _ _
    _ c.in_err-number.field-0.0 _ e c.in_err-number.ensures
    c.from_residual-in_err-number.ensures.1

pub loop-left-preserved : goal.loop-left-preserved
loop-left-preserved c =
    let m = Some c.args.most in
    let f = slice_index c.args.first.now in
    let g = slice_index c.args.second.now in
    let p : ℕ × ℕ = (c.in-Some.left, c.in-Some.right) in
    let taken : c.loop-left.rest ≡ p ∷ c.next.new.self = c.in-Some.ensures in
    let e = sym c.loop-left.invariant.0 ∙ ap (λ (ps : List (ℕ × ℕ)). join_pairs m f g
    c.loop-left.joined ps c.loop-left.self) taken
    ∙ bind_done (take m c.loop-left.self (node.Cat (f p.0) (g p.1))) _
    (c.take.new.self, c.in_ok-cat.cat) c.in_ok-cat.ensures
    ∙ bind_done (join m c.loop-left.joined c.take.new.self c.in_ok-cat.cat) _
    (c.join.new.self, c.in_ok-number.number) c.in_ok-number.ensures in (
      sym e,
      record {
        within = All-rest (λ q. (q.0 < length c.args.first.now) × (q.1 < length c.args.second.now))
            p c.next.new.self c.loop-left.rest taken c.loop-left.invariant.1.within;
      },
    )
