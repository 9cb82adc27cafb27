use Rattle.std.proofs.Common.{◌≡◌, ◌+◌, ◌<◌, ◌∷◌, [], ◌++◌, ℕ, List, length}
use Rattle.std.proofs.Common.{slice_index, set, ap, sym, subst}
use Rattle.std.proofs.Common.{arith, ◌∙◌}
use Rattle.std.proofs.lemmas.Grind.{common_steps}
use Rattle.simon_bound.specs.MemberLists.{AreMemberLists}
use Rattle.simon_bound.proofs.StepsFrom.{members_next}
use Rattle.simon_bound.proofs.members.members_of.Goals as goal

pub loop-element-preserved : goal.loop-element-preserved
loop-element-preserved c =
    let labels = c.args.green.now.j in
    let size = c.len-size.result in
    let element = c.loop-element.element in
    let lasts = c.loop-element.lasts.items in
    let before = c.loop-element.before.items in
    let label = c.j_class-label.result in
    let inside : element < length c.args.green.now.r =
    omega (arith, c.len-size.ensures.len, c.loop-element-test.true) in
    let here : label < size = omega (
      arith,
      c.len-size.ensures.len,
      c.j_class-label.ensures,
      c.len-size.ensures.classes.j.below element inside,
    ) in
    let long : length lasts ≡ size = c.loop-element.invariant.classes in
    let read : c.index.result.now ≡ slice_index lasts label = grind (arith, common_steps) in
    let pushed : c.push.new.self.items ≡ before ++ slice_index lasts label ∷ [] =
    c.in_ok-push.ensures.items ∙ ap (λ (v : ℕ). before ++ v ∷ []) read in
    subst (λ (ys : List ℕ). AreMemberLists labels size (element + 1)
    (set lasts label (element + 1)) ys)
    (sym pushed) (members_next labels size element label lasts before c.loop-element.invariant here
    c.j_class-label.ensures)
