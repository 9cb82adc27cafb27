use Rattle.std.proofs.Common.{◌≡◌, replicate, arith}
use Rattle.std.proofs.lemmas.Grind.{common_steps}
use Rattle.local_divisors.proofs.Linking.{lists_none}
use Rattle.local_divisors.proofs.grouping.Groups.bare.Goals as goal

pub returns : goal.returns
returns c =
    let heads : c.in_ok-heads.heads.items ≡ replicate c.args.count 0 =
    grind (arith, common_steps) in
    rw (c.in_ok-links.ensures.items, heads) (lists_none c.args.count)
