use Rattle.std.proofs.Common.{◌≤◌, Err, length, ap, sym, subst, arith}
use Rattle.cayley_tables.specs.CayleyGraphs.{CayleyGraphs}
use Rattle.cayley_tables.specs.declared.limits.TheConstants.{MOST_ELEMENTS}
use Rattle.syntactic_monoid.specs.Action.{IsActionOn}
use Rattle.syntactic_monoid.proofs.Acting.{acting_monoid}
use Rattle.syntactic_enumeration.proofs.Found.{more_classes, found_acts, rows_of_states}
use Rattle.syntactic_enumeration.proofs.Raising.{limit_raised}
use Rattle.syntactic_enumeration.proofs.making.syntactic_of.Goals as goal
use Rattle.syntactic_enumeration.proofs.making.syntactic_of.Goals.{In_ok-finals}
use Rattle.syntactic_enumeration.proofs.making.syntactic_of.Given.{Over}

pub returns-in_err-found-clause-many : goal.returns-in_err-found-clause-many
returns-in_err-found-clause-many g c e =
    let i = c.in_ok-generators.ensures.minimal in
    let fault = c.in_err-found.field-0.0 in
    let limit = limit_raised c.from_residual-in_err-found.result fault
    c.from_residual-in_err-found.ensures.1 e in
    (more_classes c.args.dfa.now i.some_letters i.few_letters i.minimal
    c.in_ok-generators.generators c.in_ok-generators.ensures.steps c.args.max_elements).0
    (c.in_err-found.ensures.many (ap Err limit))

-- what was found acts on the states
acts : (g : Over) (c : In_ok-finals g)
    → IsActionOn c.args.dfa.now c.in_ok-found.found.cayley c.in_ok-found.found.rows
    c.in_ok-finals.finals.items
acts g c =
    let i = c.in_ok-generators.ensures.minimal in
    let found = c.in_ok-found.found in
    let h = c.in_ok-found.ensures in
    found_acts c.args.dfa.now i.some_letters i.few_letters i.minimal c.in_ok-generators.generators
    c.in_ok-generators.ensures.steps found.cayley found.rows c.in_ok-finals.finals.items h.elements
    h.rows c.in_ok-finals.ensures

pub new-requires-clause-states : goal.new-requires-clause-states
new-requires-clause-states g c =
    let found = c.in_ok-found.found in
    let h = c.in_ok-found.ensures in
    let few : length found.rows ≤ MOST_ELEMENTS =
    (let a = h.elements.right.size in let b = h.size in let n = found.long in
    let m = c.requires.max_elements in omega arith) in
    rows_of_states c.args.dfa.now found.cayley found.rows c.in_ok-finals.finals.items
    c.in_ok-generators.generators (acts g (goal.at.new-requires-clause-states g c).In_ok-finals) c.in_ok-generators.ensures.steps h.rows few

pub new-requires-clause-acts : goal.new-requires-clause-acts
new-requires-clause-acts g c =
    (c.args.dfa.now, acts g (goal.at.new-requires-clause-acts g c).In_ok-finals)

pub returns-clause-monoid : goal.returns-clause-monoid
returns-clause-monoid g c =
    let found = c.in_ok-found.found in
    let made = c.in_ok-monoid.ensures in
    acting_monoid c.args.dfa.now c.in_ok-monoid.monoid found.rows c.in_ok-finals.finals.items
    (subst (λ (x : CayleyGraphs). IsActionOn c.args.dfa.now x found.rows c.in_ok-finals.finals.items)
    (sym made.graphs) (acts g (goal.at.returns-clause-monoid g c).In_ok-finals)) made.marks

pub returns-clause-few : goal.returns-clause-few
returns-clause-few g c e =
    let i = c.in_ok-generators.ensures.minimal in
    c.in_ok-found.ensures.few
    ((more_classes c.args.dfa.now i.some_letters i.few_letters i.minimal
    c.in_ok-generators.generators c.in_ok-generators.ensures.steps c.args.max_elements).1 e)
