use Rattle.expression_theory.specs.declared.notation.Node.TheVariants as node
use Rattle.regex_reader.proofs.Combining.{read_on, position_left}
use Rattle.regex_reader.proofs.Nodes.{read_letter}
use Rattle.regex_reader.proofs.evaluation.read_first.Goals as goal

pub overflow_sub-position : goal.overflow_sub-position
overflow_sub-position c =
    position_left c.args.nodes.now c.args.position c.args.parts.now.items c.args.marks.now
    c.requires

pub overflow_sub-result : goal.overflow_sub-result
overflow_sub-result c =
    position_left c.args.nodes.now c.args.position c.args.parts.now.items c.args.marks.now
    c.requires

pub returns-in-Letter-clause-evaluated : goal.returns-in-Letter-clause-evaluated
returns-in-Letter-clause-evaluated c =
    read_letter c.args.nodes.now c.in-Letter.field-0 c.args.position c.args.parts.now.items
    c.read_position.new.parts.items c.args.marks.now c.requires c.in-Letter.is
    c.in_ok-read_position-in-Letter.ensures

pub returns-in_ok-read_bare-in-Zero-clause-evaluated :
    goal.returns-in_ok-read_bare-in-Zero-clause-evaluated
returns-in_ok-read_bare-in-Zero-clause-evaluated c =
    read_on c.args.nodes.now node.Zero c.args.position c.args.position c.args.parts.now.items
    c.read_bare.new.parts.items c.args.marks.now c.args.marks.now c.requires c.in-Zero.is
    (c.in_ok-read_bare-in-Zero.ensures c.args.position c.args.marks.now)

pub returns-in_ok-read_bare-in-One-clause-evaluated :
    goal.returns-in_ok-read_bare-in-One-clause-evaluated
returns-in_ok-read_bare-in-One-clause-evaluated c =
    read_on c.args.nodes.now node.One c.args.position c.args.position c.args.parts.now.items
    c.read_bare-in-One.new.parts.items c.args.marks.now c.args.marks.now c.requires c.in-One.is
    (c.in_ok-read_bare-in-One.ensures c.args.position c.args.marks.now)
