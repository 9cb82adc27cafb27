use Rattle.automata.proofs.StepsBack.{meets_targets}
use Rattle.automata.proofs.accepting.leads_to.Goals as goal

pub returns : goal.returns
returns c = meets_targets c.args.nfa.now c.args.state c.args.letter c.args.marks.now
    c.row.result.now c.meets.result c.requires.long c.row.ensures c.meets.ensures
