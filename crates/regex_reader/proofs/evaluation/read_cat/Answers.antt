use Rattle.regex_reader.proofs.Combining.{enough_parts, can_join, combine_cat}
use Rattle.regex_reader.proofs.evaluation.read_cat.Goals as goal

pub take_two-left-requires : goal.take_two-left-requires
take_two-left-requires c =
    enough_parts 2 c.args.position c.args.parts.now.items c.args.marks.now c.requires

pub join-requires : goal.join-requires
join-requires c =
    can_join c.args.position c.args.parts.now.items c.take_two-left.new.parts.items
    c.take_two-left.result.0 c.take_two-left.result.1 c.args.marks.now c.requires
    c.take_two-left.ensures

pub returns-clause-combined : goal.returns-clause-combined
returns-clause-combined c =
    combine_cat c.args.position c.args.parts.now.items c.take_two-left.new.parts.items
    c.push.new.self.items c.take_two-left.result.0 c.take_two-left.result.1 c.in_ok-part.part
    c.args.marks.now c.join.new.marks
    c.take_two-left.ensures c.in_ok-push.ensures.items c.in_ok-part.ensures.joined
    c.join.ensures.width
