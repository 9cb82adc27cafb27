use Rattle.std.proofs.Common.{arith}
use Rattle.exploration.proofs.Searching.{one_class}
use Rattle.froidure_pin.specs.Maps.{SameMap}
use Rattle.froidure_pin.proofs.enumerating.explore_in_batches.Goals as goal

pub returns-then-limit-eq0-clause-many : goal.returns-then-limit-eq0-clause-many
returns-then-limit-eq0-clause-many g c _ =
    one_class c.args.machine.now.elements.generators.now.letters
    (SameMap c.args.machine.now.elements.generators.now) c.args.limit (omega arith)
