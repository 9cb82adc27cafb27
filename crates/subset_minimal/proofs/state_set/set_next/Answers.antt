use Rattle.std.proofs.Common.{◌≡◌, ◌≤◌, ℕ, false, rules, subst, List, Bool}
use Rattle.language_theory.specs.Automaton.{is_marked}
use Rattle.subset_minimal.proofs.Sets.{all_walked}
use Rattle.subset_minimal.proofs.state_set.set_next.Goals as goal

pub returns : goal.returns
returns c =
    let i = c.loop-next.invariant in
    let walk = c.loop-next.members in
    let bare : (q : ℕ) → walk.from ≤ q → is_marked walk.marks q ≡ false = search rules in
    let none = subst (λ (marks : List Bool). (q : ℕ) → walk.from ≤ q → is_marked marks q ≡ false)
    i.same bare in
    all_walked c.args.nfa.now c.args.set.now c.args.letter walk.from c.loop-next.next
    c.requires.sized.automaton
    i.within none i.below
