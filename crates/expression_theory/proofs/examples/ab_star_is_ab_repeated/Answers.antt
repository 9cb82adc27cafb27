use Rattle.expression_theory.proofs.SomeWords.{ab_star_words}
use Rattle.expression_theory.proofs.examples.ab_star_is_ab_repeated.Goals as goal

pub returns : goal.returns
returns c = ab_star_words
