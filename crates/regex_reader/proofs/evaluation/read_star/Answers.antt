use Rattle.regex_reader.proofs.Combining.{enough_parts, can_repeat, combine_star}
use Rattle.regex_reader.proofs.evaluation.read_star.Goals as goal

pub take_one-part-requires : goal.take_one-part-requires
take_one-part-requires c =
    enough_parts 1 c.args.position c.args.parts.now.items c.args.marks.now c.requires

pub repeated-requires : goal.repeated-requires
repeated-requires c =
    can_repeat c.args.position c.args.parts.now.items c.take_one-part.new.parts.items
    c.take_one-part.result c.args.marks.now c.requires c.take_one-part.ensures

pub returns-clause-combined : goal.returns-clause-combined
returns-clause-combined c =
    combine_star c.args.position c.args.parts.now.items c.take_one-part.new.parts.items
    c.push.new.self.items c.take_one-part.result c.in_ok-once_or_more.once_or_more
    c.optional-part.result c.args.marks.now
    c.repeated.new.marks c.take_one-part.ensures c.in_ok-push.ensures.items
    c.in_ok-once_or_more.ensures.repeated c.repeated.ensures.width
    c.optional-part.ensures
