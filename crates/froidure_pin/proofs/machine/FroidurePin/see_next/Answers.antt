use Rattle.froidure_pin.proofs.Made.{batch_goes_on}
use Rattle.froidure_pin.proofs.machine.FroidurePin.see_next.Goals as goal

pub returns-clause-batch : goal.returns-clause-batch
returns-clause-batch c =
    let s = c.args.self.now in
    rw c.in_ok-number.ensures.generators
    (batch_goes_on s.elements.generators.now s.elements.rows c.see.new.self.rows s.batch
    c.args.job c.requires.batch c.requires.next c.in_ok-number.ensures.more)
