use Rattle.expression_theory.proofs.Acceptance.{accepts_words}
use Rattle.expression_theory.proofs.positions_accept_the_language.Goals as goal

pub returns : goal.returns
returns c t k m h w = accepts_words t k m h w
