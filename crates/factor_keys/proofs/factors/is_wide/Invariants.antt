use Rattle.std.proofs.Common.{◌≡◌, ◌≤◌, ◌^◌}
use Rattle.factor_keys.proofs.factors.is_wide.Given as goal

abbrev pub invariant-loop : goal.invariant-loop
invariant-loop l =
    (l.width ≡ l.letters ^ l.counter) × (l.width ≤ 32768) × (l.counter ≤ l.length)
