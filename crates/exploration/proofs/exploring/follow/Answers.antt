use Rattle.std.proofs.Common.{arith}
use Rattle.exploration.proofs.Searching.{search_goes_on, search_passes_limit}
use Rattle.exploration.proofs.exploring.follow.Goals as goal

pub returns-then-len-limit-clause-many : goal.returns-then-len-limit-clause-many
returns-then-len-limit-clause-many g c _ =
    let before = g.met.S.States.numbered c.args.states.now c.requires.sound in
    let now = g.met.S.States.numbered c.step.new.self c.in_ok-target.ensures.sound in
    let machine = g.met.S.States.later_keeps c.args.states.now c.step.new.self
    c.in_ok-target.ensures.later in
    let step = c.in_ok-target.ensures in
    search_passes_limit _ _ _ _ _ _ _ _ c.args.limit _ _ _ _ before now machine step.kept
    c.requires.node
    c.requires.letter c.requires.exploring step.next step.counted (omega arith)

pub returns-clause-explored : goal.returns-clause-explored
returns-clause-explored g c =
    let before = g.met.S.States.numbered c.args.states.now c.requires.sound in
    let now = g.met.S.States.numbered c.step.new.self c.in_ok-target.ensures.sound in
    let machine = g.met.S.States.later_keeps c.args.states.now c.step.new.self
    c.in_ok-target.ensures.later in
    let step = c.in_ok-target.ensures in
    rw c.in_ok-push.ensures.items
    (search_goes_on _ _ _ _ _ _ _ _ c.args.limit _ _ _ _ before now machine step.kept
    c.requires.node c.requires.letter c.requires.exploring step.next step.counted (omega arith))
