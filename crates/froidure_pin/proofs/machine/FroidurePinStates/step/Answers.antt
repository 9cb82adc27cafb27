use Rattle.std.proofs.Common.{rules, ◌≡◌, ◌<◌, ◌+◌, ◌*◌, inl, length, false, ap, arith}
use Rattle.froidure_pin.specs.Rows.{AreSeen}
use Rattle.froidure_pin.specs.Search.{needs_row}
use Rattle.froidure_pin.proofs.Ready.{reads_next, reads_within, reads_ready}
use Rattle.froidure_pin.proofs.machine.FroidurePinStates.step.Goals as goal

pub returns-in_err-enter-clause-kept : goal.returns-in_err-enter-clause-kept
returns-in_err-enter-clause-kept c =
    rw (c.in_err-enter.ensures.generators, c.in_err-enter.ensures.rows)
    (record { kept = λ w n o e. e })

pub returns-then-not-needs_row-clause-kept : goal.returns-then-not-needs_row-clause-kept
returns-then-not-needs_row-clause-kept c =
    rw (c.in_ok-enter.ensures.generators, c.in_ok-enter.ensures.rows)
    (record { kept = λ w n o e. e })

pub returns-then-not-needs_row-clause-next : goal.returns-then-not-needs_row-clause-next
returns-then-not-needs_row-clause-next c =
    let s = c.enter.new.self in
    let e = c.in_ok-enter.ensures in
    let seen : AreSeen s.generators.now s.rows = rw (e.generators, e.rows) c.requires.sound in
    let letter : c.args.letter < s.generators.now.letters = rw e.generators c.requires.letter in
    let here : length c.args.targets.now ≡ c.args.state * s.generators.now.letters + c.args.letter =
    rw e.generators c.requires.here in
    let known : needs_row s.generators.now.letters c.args.targets.now s.progress.links c.args.state
    c.args.letter ≡ false = search rules in
    rw (← e.generators, ← e.rows, c.read_target.ensures)
    (reads_next s.generators.now s.rows s.progress c.args.targets.now e.ready seen c.args.state
    c.args.letter e.from e.to letter here known)

pub returns-then-not-needs_row-clause-counted : goal.returns-then-not-needs_row-clause-counted
returns-then-not-needs_row-clause-counted c =
    let s = c.enter.new.self in
    let e = c.in_ok-enter.ensures in
    let seen : AreSeen s.generators.now s.rows = rw (e.generators, e.rows) c.requires.sound in
    let letter : c.args.letter < s.generators.now.letters = rw e.generators c.requires.letter in
    let here : length c.args.targets.now ≡ c.args.state * s.generators.now.letters + c.args.letter =
    rw e.generators c.requires.here in
    let known : needs_row s.generators.now.letters c.args.targets.now s.progress.links c.args.state
    c.args.letter ≡ false = search rules in
    let within =
    reads_within s.generators.now s.rows s.progress c.args.targets.now e.ready seen c.args.state
    c.args.letter e.from e.to letter here known in
    let same : length s.rows ≡ length c.args.self.now.elements.rows = ap length e.rows in
    inl (omega (arith, c.read_target.ensures), same)

pub returns-then-not-needs_row-clause-ready : goal.returns-then-not-needs_row-clause-ready
returns-then-not-needs_row-clause-ready c =
    let s = c.enter.new.self in
    let e = c.in_ok-enter.ensures in
    let seen : AreSeen s.generators.now s.rows = rw (e.generators, e.rows) c.requires.sound in
    let letter : c.args.letter < s.generators.now.letters = rw e.generators c.requires.letter in
    let here : length c.args.targets.now ≡ c.args.state * s.generators.now.letters + c.args.letter =
    rw e.generators c.requires.here in
    let known : needs_row s.generators.now.letters c.args.targets.now s.progress.links c.args.state
    c.args.letter ≡ false = search rules in (
      rw c.read_target.ensures
          (reads_ready s.generators.now s.rows s.progress c.args.targets.now e.ready seen c.args.state
          c.args.letter e.from e.to letter here known),
      rw (e.generators, e.rows) c.requires.ready.1,
    )

pub returns-in_err-provide-clause-kept : goal.returns-in_err-provide-clause-kept
returns-in_err-provide-clause-kept c =
    rw (
      c.in_err-provide.ensures.elements,
      c.in_ok-enter.ensures.generators,
      c.in_ok-enter.ensures.rows,
    ) (record { kept = λ w n o e. e })
