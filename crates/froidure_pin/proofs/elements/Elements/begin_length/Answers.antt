use Rattle.std.proofs.Common.{ap, ◌∙◌, length}
use Rattle.froidure_pin.specs.declared.elements.Progress.{Progress}
use Rattle.froidure_pin.specs.Rows.{number_of}
use Rattle.froidure_pin.proofs.Ready.{length_known, ready_longer}
use Rattle.froidure_pin.proofs.elements.Elements.begin_length.Goals as goal

pub returns-clause-ready : goal.returns-clause-ready
returns-clause-ready c =
    let m = c.args.self.now.generators.now in
    let rows = c.args.self.now.rows in
    let progress = c.args.self.now.progress in
    let h = c.requires.ready in
    let e = c.in_ok-fill_left.ensures in
    let made = c.fill_left.new.self.progress in
    let next : Progress =
    record { links = made.links; left = made.left; from = made.to; to = c.len-self.result } in
    let known = e.left.numbers (number_of m rows) h.searched.words
    (length_known m rows progress c.args.targets.now h c.requires.whole) h.known in
    rw (e.generators, e.rows)
    (ready_longer m rows progress c.args.targets.now h next c.requires.whole c.requires.more
    e.links e.long known e.to (c.len-self.ensures ∙ ap length e.rows))
