use Rattle.std.proofs.Common.{◌≡◌, ◌+◌, ◌∙◌, ℕ, List, Bool, true, [], ◌∷◌, ◌++◌, get_or, map, take}
use Rattle.std.proofs.Common.{sym, ap, arith}
use Rattle.std.proofs.lemmas.List.{map-append, take_more, take_all, length-set}
use Rattle.language_theory.specs.Automaton.{is_marked}
use Rattle.star_free_theory.specs.Construction.{has, keep}
use Rattle.local_divisors.specs.Instances.{middle}
use Rattle.local_divisors.proofs.Tables.{marks_more}
use Rattle.local_divisors.proofs.instances.divisor.Goals as goal

pub loop-element-preserved : goal.loop-element-preserved
loop-element-preserved c =
    let p = c.args.product.now in
    let f = middle p c.args.m in
    let i = c.loop-element.element-index in
    let s : ℕ = get_or c.args.elements.now i 0 in
    let e : c.middle.result ≡ f s = c.middle.ensures.middle in
    let ys = c.args.m ∷ map f (take i c.args.elements.now) in
    let more = marks_more c.loop-element.marks.items ys c.middle.result (let l =
    c.loop-element.invariant.0 in let w = c.middle.ensures.within in omega arith)
    c.loop-element.invariant.1 in
    let list : c.args.m ∷ map f (take (i + 1) c.args.elements.now) ≡ ys ++ c.middle.result ∷ [] =
    ap (λ (zs : List ℕ). c.args.m ∷ zs) (ap (map f) (take_more c.args.elements.now i 0
    c.loop-element-test.true) ∙ map-append f (take i c.args.elements.now) (s ∷ [])
    ∙ ap (λ (z : ℕ). map f (take i c.args.elements.now) ++ z ∷ []) (sym e)) in (
      length-set c.loop-element.marks.items c.middle.result true ∙ c.loop-element.invariant.0,
      λ x.
          more x ∙ ap (λ (zs : List ℕ). has zs x) (sym list),
    )

pub returns : goal.returns
returns c =
    let f = middle c.args.product.now c.args.m in
    let whole : take c.loop-element.element-index c.args.elements.now ≡ c.args.elements.now =
    take_all c.loop-element.element-index c.args.elements.now c.loop-element-test.false in
    c.in_ok-divisor.ensures ∙ ap (λ (ms : List Bool). keep (is_marked ms) c.args.elements.now)
    c.as_slice.ensures.value
    ∙ ap (λ (q : ℕ → Bool). keep q c.args.elements.now) (λ j x. c.loop-element.invariant.1 x j)
    ∙ ap (λ (zs : List ℕ). keep (has (c.args.m ∷ map f zs)) c.args.elements.now) whole
