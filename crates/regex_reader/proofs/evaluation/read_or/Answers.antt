use Rattle.std.proofs.Common.{arith}
use Rattle.regex_reader.specs.Parts.{CanJoin}
use Rattle.regex_reader.proofs.Combining.{enough_parts, can_join, combine_or}
use Rattle.regex_reader.proofs.evaluation.read_or.Goals as goal

pub take_two-left-requires : goal.take_two-left-requires
take_two-left-requires c =
    enough_parts 2 c.args.position c.args.parts.now.items c.args.marks.now c.requires

pub either-requires : goal.either-requires
either-requires c =
    let fit : CanJoin c.args.position c.take_two-left.result.0 c.take_two-left.result.1
    c.args.marks.now =
    can_join c.args.position c.args.parts.now.items c.take_two-left.new.parts.items
    c.take_two-left.result.0 c.take_two-left.result.1 c.args.marks.now c.requires
    c.take_two-left.ensures in
    let room = fit.room in
    let narrow = fit.narrow in omega arith

pub returns : goal.returns
returns c =
    let k = c.in_ok-part.ensures in
    combine_or c.args.position c.args.parts.now.items c.take_two-left.new.parts.items
    c.push.new.self.items c.take_two-left.result.0 c.take_two-left.result.1 c.in_ok-part.part
    c.args.marks.now
    c.take_two-left.ensures c.in_ok-push.ensures.items k.word k.empty k.closed k.positions k.first
    k.last
