use Rattle.syntactic_monoid.proofs.OneMonoid.{monoid_of_agreeing}
use Rattle.syntactic_monoid.proofs.laws.languages_with_the_same_words_have_one_monoid.Goals as goal

pub returns : goal.returns
returns g c k = monoid_of_agreeing k g.L.Language.has g.M.Language.has
