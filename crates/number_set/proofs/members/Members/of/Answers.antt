use Rattle.number_set.proofs.Walking.{ahead_of_word}
use Rattle.number_set.proofs.members.Members.of.Goals as goal

pub invariant_of-result : goal.invariant_of-result
invariant_of-result c =
    rw c.unwrap_or-left.ensures (ahead_of_word c.args.set.now c.word.result c.word.ensures)
