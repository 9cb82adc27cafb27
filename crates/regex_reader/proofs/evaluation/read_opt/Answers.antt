use Rattle.regex_reader.proofs.Combining.{enough_parts, combine_opt}
use Rattle.regex_reader.proofs.evaluation.read_opt.Goals as goal

pub take_one-part-requires : goal.take_one-part-requires
take_one-part-requires c =
    enough_parts 1 c.args.position c.args.parts.now.items c.args.marks.now c.requires

pub returns : goal.returns
returns c =
    combine_opt c.args.position c.args.parts.now.items c.take_one-part.new.parts.items
    c.push.new.self.items c.take_one-part.result c.optional-part.result c.args.marks.now
    c.take_one-part.ensures c.in_ok-push.ensures.items c.optional-part.ensures
