use Rattle.std.proofs.Common.{rules, arith, ◌≤◌, ◌≡◌, length, slice_index}
use Rattle.std.proofs.lemmas.Grind.{common_steps}
use Rattle.components.proofs.Changes.{unseen}
use Rattle.components.proofs.Starting.{seen_closed}
use Rattle.components.proofs.Search.explore.Goals as goal

pub open-requires-clause-unseen : goal.open-requires-clause-unseen
open-requires-clause-unseen c =
    let open_now : c.args.nodes ≤ slice_index c.args.self.now.labels.items c.args.root =
    grind (arith, common_steps) in
    unseen c.args.root c.requires.holds c.requires.none c.requires.root open_now

pub returns-clause-root : goal.returns-clause-root
returns-clause-root c =
    let none : length c.loop-self.self.starts.items ≡ 0 = search rules in
    seen_closed c.loop-self.invariant.0 none c.args.root c.requires.root c.loop-self.invariant.2
