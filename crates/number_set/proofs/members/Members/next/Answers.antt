use Rattle.std.proofs.Common.{◌+◌, ◌*◌, Some, None, w64, refl, arith, subst}
use Rattle.std.specs.Int.{trailing_zeros}
use Rattle.number_set.specs.Marks.{Walk, IsNext}
use Rattle.number_set.proofs.Walking.{ahead_at_next, none_ahead, next_ahead, ahead_behind}
use Rattle.number_set.proofs.members.Members.next.Goals as goal

pub returns-in_default-clause-next : goal.returns-in_default-clause-next
returns-in_default-clause-next c =
    let w = c.self.inside in
    subst (λ (v : Walk). IsNext v.marks v.from None) c.self.view_is
    (none_ahead w.set.now w.from c.loop-left.place c.loop-left.left c.loop-left.invariant
    c.loop-left-test.true c.in_default.ensures)

pub loop-left-preserved : goal.loop-left-preserved
loop-left-preserved c =
    let w = c.self.inside in
    ahead_at_next w.set.now w.from c.loop-left.place c.loop-left.left c.loop-left.invariant
    c.in-Some.word c.loop-left-test.true c.in-Some.ensures

pub overflow_add-self : goal.overflow_add-self
overflow_add-self c =
    let w = c.self.inside in
    let found = next_ahead w.set.now w.from c.loop-left.place c.loop-left.left c.loop-left.invariant
    (omega (arith, c.loop-left-test.false)) in
    let within = found.within in
    omega (arith, within, c.size-size.ensures, c.size-size.type_inv)

pub invariant_of-self : goal.invariant_of-self
invariant_of-self c =
    let w = c.self.inside in
    ahead_behind w.set.now w.from c.loop-left.place c.loop-left.left c.loop-left.invariant
    (omega (arith, c.loop-left-test.false))
    _ refl

pub returns-clause-next : goal.returns-clause-next
returns-clause-next c =
    let w = c.self.inside in
    let found = next_ahead w.set.now w.from c.loop-left.place c.loop-left.left c.loop-left.invariant
    (omega (arith, c.loop-left-test.false)) in
    subst (λ (v : Walk). IsNext v.marks v.from
    (Some (64 * c.loop-left.place + trailing_zeros w64 c.loop-left.left))) c.self.view_is found
