use Rattle.std.proofs.Common.{◌≡◌, ◌≤◌, ◌*◌, ◌-◌, length}
use Rattle.froidure_pin.specs.Rows.{AreSeen}
use Rattle.froidure_pin.specs.Batches.{IsBatch}
use Rattle.froidure_pin.specs.Search.{IsReady}
use Rattle.froidure_pin.proofs.enumerating.explore_in_batches.Given as goal

abbrev pub invariant-loop-element : goal.invariant-loop-element
invariant-loop-element g l =
    (AreSeen l.machine.elements.generators.now l.machine.elements.rows)
    × (l.machine.elements.generators.now ≡ l.fn.machine.elements.generators.now)
    × (length l.machine.elements.rows ≤ l.limit)
    × (l.element ≤ length l.machine.elements.rows)
    × (length l.right.items ≡ l.element * l.machine.elements.generators.now.letters)
    × (IsReady l.machine.elements.generators.now l.machine.elements.rows l.machine.elements.progress
    l.right.items)
    × IsBatch l.machine.elements.generators.now l.machine.elements.rows l.machine.batch

abbrev pub decreases-loop-element : goal.decreases-loop-element
decreases-loop-element g l = l.limit - l.element
