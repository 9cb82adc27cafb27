use Rattle.froidure_pin.proofs.Ready.{suffix_known}
use Rattle.froidure_pin.proofs.elements.Elements.rest.Goals as goal

pub bounds-targets-suffix : goal.bounds-targets-suffix
bounds-targets-suffix c =
    rw (c.suffix-suffix.ensures, c.letters-letters.ensures.letters)
    (suffix_known c.args.self.now.generators.now c.args.self.now.rows c.args.self.now.progress
    c.args.targets.now c.requires.ready c.args.job.element c.args.job.letter c.requires.some
    c.requires.job.from c.requires.job.to c.requires.job.letter)
