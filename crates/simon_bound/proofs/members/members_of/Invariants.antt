use Rattle.simon_bound.specs.MemberLists.{AreMemberLists}
use Rattle.simon_bound.proofs.members.members_of.Given as goal

abbrev pub invariant-loop-element : goal.invariant-loop-element
invariant-loop-element l =
    AreMemberLists l.green.j l.size l.element l.lasts.items l.before.items
