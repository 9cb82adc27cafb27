use Rattle.std.proofs.Common.{rules}
use Rattle.components.proofs.Changes.{search_pushed}
use Rattle.components.proofs.Search.open.Goals as goal

pub returns-clause-holds : goal.returns-clause-holds
returns-clause-holds c = search_pushed c.args.node c.len-place.result c.requires.holds
    c.requires.node c.requires.unseen c.requires.free c.requires.reached (search rules)
    (search rules) (search rules) (search rules)
