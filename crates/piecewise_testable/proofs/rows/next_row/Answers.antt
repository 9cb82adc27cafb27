use Rattle.std.proofs.Common.{◌≡◌, ◌∙◌, false, ℕ, ◌≤◌, List, Bool, subst, arith}
use Rattle.language_theory.specs.Automaton.{is_marked}
use Rattle.number_set.specs.Marks.{IsNextMember}
use Rattle.piecewise_testable.proofs.Children.{child_added, children_end, children_whole}
use Rattle.piecewise_testable.proofs.rows.next_row.Goals as goal

pub returns-then-child-size : goal.returns-then-child-size
returns-then-child-size c =
    let i = c.loop-next.invariant in
    let from = c.loop-next.members.from in
    let place = c.in-Some.place in
    let member = subst (λ (marks : List Bool). IsNextMember marks from place) i.same
    c.in-Some.ensures.next in
    children_end c.args.letters c.args.letter c.args.row.now c.loop-next.next from place
    c.requires.letter i.below member (omega arith)

pub loop-next-preserved : goal.loop-next-preserved
loop-next-preserved c =
    let i = c.loop-next.invariant in
    let row = c.args.row.now in
    let from = c.loop-next.members.from in
    let place = c.in-Some.place in
    let member = subst (λ (marks : List Bool). IsNextMember marks from place) i.same
    c.in-Some.ensures.next in
    record {
      same = c.in-Some.ensures.marks ∙ i.same;
      within = (let f = c.in-Some.ensures.from in let m = member.within in omega arith);
      below = rw (c.in-Some.ensures.from, c.insert.ensures, c.from.ensures)
          (child_added c.args.letters c.args.letter row c.loop-next.next from place i.below member
          (omega arith));
    }

pub returns : goal.returns
returns c =
    let i = c.loop-next.invariant in
    let from = c.loop-next.members.from in
    let none = subst (λ (marks : List Bool). (q : ℕ) → from ≤ q → is_marked marks q ≡ false) i.same
    c.in_default.ensures.next in
    children_whole c.args.letters c.args.letter c.args.row.now c.loop-next.next from
    c.requires.letter i.below none
