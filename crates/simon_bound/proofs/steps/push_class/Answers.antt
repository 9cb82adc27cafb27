use Rattle.std.proofs.Common.{◌≡◌, ◌+◌, ◌-◌, ◌<◌, ℕ, length, slice_index, sym, subst, arith}
use Rattle.std.proofs.lemmas.Grind.{common_steps}
use Rattle.simon_bound.specs.MemberLists.{IsLast}
use Rattle.simon_bound.proofs.StepsFrom.{step_down_next}
use Rattle.simon_bound.proofs.steps.push_class.Goals as goal

pub loop-rest-preserved : goal.loop-rest-preserved
loop-rest-preserved c =
    let labels = c.args.green.now.j in
    let before = c.args.members.now.before.items in
    let r = c.loop-rest.rest in
    let x = r - 1 in
    let q = c.index-rest-in-loop-rest.result.now in
    let next : r ≡ x + 1 = omega (arith, c.loop-rest-test.true) in
    let inside : x < length c.args.cayley.now.words =
    omega (arith, c.loop-rest-test.true, c.loop-rest.invariant.0) in
    let in_list : x < length c.args.green.now.r = omega (arith, inside, c.requires.labels) in
    let long : length before ≡ length c.args.green.now.r = c.requires.members.long in
    let read : q ≡ slice_index before x = grind (arith, common_steps) in
    let own : slice_index labels x ≡ c.args.class = c.loop-rest.invariant.1 x (sym next) in
    let last : IsLast labels x c.args.class q =
    subst (λ (z : ℕ). IsLast labels x c.args.class z) (sym read)
    (subst (λ (d : ℕ). IsLast labels x d (slice_index before x)) own
    (c.requires.members.earlier x in_list)) in (
      omega (arith, last.below, inside),
      last.member,
      step_down_next c.args.cayley.now labels c.args.class x r q c.args.classes.now.items
          c.loop-rest.classes.items c.push_member.new.classes.items next own inside last
          c.loop-rest.invariant.2 c.in_ok-push_member.ensures,
    )
