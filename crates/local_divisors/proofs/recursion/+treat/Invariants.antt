use Rattle.local_divisors.proofs.recursion.+treat.Given as goal

abbrev pub decreases-treat : goal.decreases-treat
decreases-treat l = l.depth
