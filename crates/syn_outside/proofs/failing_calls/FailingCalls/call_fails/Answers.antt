use Rattle.std.proofs.Common.{◌≡◌, ◌+◌, ◌-◌, ◌^◌, ◌<◌, ◌≤◌, ◌==◌, true, ℕ, List, ◌∙◌, sym, subst, arith}
use Rattle.std.specs.List.{list_any}
use Rattle.syn_outside.specs.Calls.{Calls, failed}
use Rattle.syn_outside.proofs.Counting.{below, below_le, below_more, any_within}
use Rattle.syn_outside.proofs.failing_calls.FailingCalls.call_fails.Goals as goal

-- the number of calls grew, or stayed at its greatest
pub returns-clause-count : goal.returns-clause-count
returns-clause-count c =
    let made = c.saturating_add-self-inside.result in
    let numbers = c.self.inside.failing.items in
    subst (λ (calls : Calls). failed calls ≤ below made numbers) c.self.view_is
    (below_le c.self.inside.made made numbers (omega arith))

-- a number that fails is below the greatest, so the next is above it
pub returns-clause-more : goal.returns-clause-more
returns-clause-more c = λ fails.
    let made = c.saturating_add-self-inside.result in
    let numbers = c.self.inside.failing.items in
    let any : list_any (λ n. n == c.self.inside.made) numbers ≡ true =
    subst (λ (ns : List ℕ). list_any (λ n. n == c.self.inside.made) ns ≡ true) c.deref.ensures.value
    (sym c.contains.ensures.value ∙ fails) in
    let within : c.self.inside.made < 2 ^ 64 - 1 =
    any_within c.self.inside.made (2 ^ 64 - 1) numbers c.self.invariant any in
    subst (λ (calls : Calls). failed calls + 1 ≤ below made numbers) c.self.view_is
    (below_more c.self.inside.made made numbers (omega arith) any)
