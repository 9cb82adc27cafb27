use Rattle.froidure_pin.proofs.Ready.{length_can_go_on}
use Rattle.froidure_pin.proofs.elements.Elements.fill_left.Goals as goal

pub push_left_rows-requires-clause-can : goal.push_left_rows-requires-clause-can
push_left_rows-requires-clause-can c =
    rw c.letters-letters.ensures.letters
    (length_can_go_on c.args.self.now.generators.now c.args.self.now.rows c.args.self.now.progress
    c.args.targets.now c.requires.ready c.requires.whole)
