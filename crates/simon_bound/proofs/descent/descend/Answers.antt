use Rattle.std.proofs.Common.{◌≡◌, ◌+◌, ◌-◌, ◌<◌, ◌∷◌, [], ◌++◌, ℕ, List, length, slice_index, sym}
use Rattle.std.proofs.Common.{subst, arith}
use Rattle.std.proofs.lemmas.List.{length-append, get_or_push}
use Rattle.simon_bound.specs.Steps.{row_at}
use Rattle.simon_bound.specs.Heights.{IsLeastOf}
use Rattle.simon_bound.proofs.Descending.{next_in_row, descent_next}
use Rattle.simon_bound.proofs.descent.descend.Goals as goal

pub least_of_height-class-requires-clause-some : goal.least_of_height-class-requires-clause-some
least_of_height-class-requires-clause-some c =
    let starts = c.args.steps.now.starts.items in
    let nodes = c.args.steps.now.classes.items in
    let heights = c.args.heights.now in
    let class = c.loop-class.class in
    let g = slice_index heights class - 1 in
    let path = c.loop-class.path.items in
    let d = c.loop-class.invariant.0 in
    let inside : class < c.args.nodes =
    subst (λ (z : ℕ). z < c.args.nodes) c.loop-class.invariant.1
    (d.within (length path - 1) (omega (arith, d.some))) in
    let high : 1 < slice_index heights class = omega (arith, c.loop-class-test.true) in
    let tall : slice_index heights class ≡ g + 1 = omega (arith, high) in
    rw c.row.ensures (next_in_row c.args.nodes starts nodes heights c.requires.acyclic
    c.requires.heights class g inside high tall)

pub loop-class-preserved : goal.loop-class-preserved
loop-class-preserved c =
    let starts = c.args.steps.now.starts.items in
    let nodes = c.args.steps.now.classes.items in
    let heights = c.args.heights.now in
    let class = c.loop-class.class in
    let g = slice_index heights class - 1 in
    let path = c.loop-class.path.items in
    let next = c.least_of_height-class.result in
    let tall : slice_index heights class ≡ g + 1 = omega (arith, c.loop-class-test.true) in
    let pushed : c.push-in-loop-class.new.self.items ≡ path ++ next ∷ [] =
    c.in_ok-push-2.ensures.items in
    let least : IsLeastOf heights (row_at starts nodes class)
    (length (row_at starts nodes class)) g next =
    subst (λ (xs : List ℕ). IsLeastOf heights xs (length xs) g next) c.row.ensures
    c.least_of_height-class.ensures in
    let long : length (path ++ next ∷ []) - 1 ≡ length path =
    omega (arith, length-append path (next ∷ [])) in
    rw pushed (
      descent_next c.args.nodes starts nodes heights c.requires.acyclic c.requires.heights path
          class g next c.loop-class.invariant.0 c.loop-class.invariant.1 tall least,
      get_or_push path next 0 (length (path ++ next ∷ []) - 1) (sym long),
      omega (arith, c.least_of_height-class.ensures.height, c.loop-class-test.true),
    )
