use Rattle.std.proofs.Common.{◌≡◌, length}
use Rattle.green_relations.proofs.Noting.{AreNoted}
use Rattle.green_relations.proofs.pairs.pair_mates.Given as goal

abbrev pub invariant-loop-place : goal.invariant-loop-place
invariant-loop-place l =
    (l.place-end ≡ length l.first) × AreNoted l.first l.second l.place l.seen l.labels.items
