use Rattle.expression_theory.proofs.Complete.{reads_tree}
use Rattle.expression_theory.proofs.Sound.{read_spells}
use Rattle.expression_theory.proofs.frames_read_the_grammar.Goals as goal

pub returns : goal.returns
returns c w t = (read_spells w t, reads_tree w t)
