use Rattle.std.proofs.Common.{ap, ◌∙◌}
use Rattle.language_theory.specs.Words.{word_at}
use Rattle.presentation.proofs.Reduced.{least_is_rewritten}
use Rattle.presentation.proofs.rewriting.rewrite.Goals as goal

pub returns-clause-rewritten : goal.returns-clause-rewritten
returns-clause-rewritten c =
    let v = c.args.cayley.now in
    least_is_rewritten v c.len-len.ensures.graphs c.args.word.now c.in_ok-reduced.reduced
    c.requires.over (c.in_ok-reduced.ensures.word ∙ ap (word_at v.words) c.find.ensures.node)
    c.args.rules.now c.requires.rules
