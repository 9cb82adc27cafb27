use Rattle.std.proofs.Common.{ℕ, ◌≡◌, ◌*◌, [], ◌∙◌, Some, ap, sym, subst, arith, length}
use Rattle.std.proofs.lemmas.Result.{err_from_is_err_and}
use Rattle.exploration.specs.declared.exploring.ExploreFault.TheVariants.{Limit}
use Rattle.exploration.proofs.Searching.{search_begins, one_class, machine_classes}
use Rattle.exploration.proofs.Whole.{IsWhole, search_is_whole, not_more_than_nodes}
use Rattle.exploration.proofs.exploring.explore.Given.{Over}
use Rattle.exploration.proofs.exploring.explore.Goals as goal

pub returns-then-limit-eq0-clause-later : goal.returns-then-limit-eq0-clause-later
returns-then-limit-eq0-clause-later g c = g.met.S.States.later_refl c.args.states.now

pub returns-then-limit-eq0-clause-many : goal.returns-then-limit-eq0-clause-many
returns-then-limit-eq0-clause-many g c _ = one_class (g.S.States.letters_of c.args.states.now)
    (g.S.States.same c.args.states.now) c.args.limit (omega arith)

pub loop-node-init : goal.loop-node-init
loop-node-init g c =
    let k = g.S.States.letters_of c.args.states.now in
    let new = c.start.new.self in
    let start = c.in_ok-start.ensures in
    let targets = c.new-targets.result.items in
    let machine = g.met.S.States.later_keeps c.args.states.now new start.later in
    let empty : g.S.States.number new [] ≡ Some 0 = start.empty
    ∙ ap (λ (n : ℕ). Some n) start.zero in
    let none : length targets ≡ 0 = ap length c.new-targets.ensures.items in
    record {
      sound = start.sound;
      later = start.later;
      ready = subst (g.S.States.is_ready new) (sym c.new-targets.ensures.items) start.ready;
      letters = machine.letters;
      within = omega arith;
      exploring = record {
        small = c.requires.limit;
        few = omega (arith, start.one);
        here = omega (arith, none);
        searched = search_begins k (g.S.States.number new) (g.S.States.count new) targets start.one
            c.new-targets.ensures.items empty;
      };
    }

pub returns-in_err-expand-clause-many : goal.returns-in_err-expand-clause-many
returns-in_err-expand-clause-many g c why =
    let later = g.met.S.States.later_keeps c.args.states.now c.loop-node.states
    c.loop-node.invariant.later in
    let p = err_from_is_err_and c.from_residual-in_err-expand.result
    c.from_residual-in_err-expand.ensures.1 in
    let limit : c.in_err-expand.field-0.0 ≡ Limit = cc (p.1, p.2, why) in
    machine_classes _ _ _ _ _ later (c.in_err-expand.ensures.many (cc limit))

whole : (g : Over) (c : goal.After-new g) → IsWhole (g.S.States.letters_of c.args.states.now)
    (g.S.States.same c.args.states.now) (g.S.States.number c.loop-node.states) c.new.result
whole g c =
    let i = c.loop-node.invariant in
    let k = g.S.States.letters_of c.args.states.now in
    let count = g.S.States.count c.loop-node.states in
    let node : c.loop-node.node ≡ count = omega (arith, i.within, c.len.ensures) in
    let long : length c.loop-node.targets.items ≡ count * k = i.exploring.here
    ∙ ap (λ (n : ℕ). n * k) node in
    let machine = g.met.S.States.later_keeps c.args.states.now c.loop-node.states i.later in
    let numbered = g.met.S.States.numbered c.loop-node.states i.sound in
    search_is_whole _ _ _ _ _ _ _ _ _ _ c.new.ensures c.len-2.ensures c.letters.ensures machine
    numbered
    i.exploring.searched long

pub returns-clause-graph : goal.returns-clause-graph
returns-clause-graph g c = let w = whole g c in (w.words, w.graph)

pub returns-clause-numbers : goal.returns-clause-numbers
returns-clause-numbers g c = (whole g c).numbers

pub returns-clause-few : goal.returns-clause-few
returns-clause-few g c =
    let few = c.loop-node.invariant.exploring.few in
    not_more_than_nodes _ _ _ _ c.args.limit (whole g c)
    (rw c.new.ensures (omega (arith, c.len-2.ensures, few)))
