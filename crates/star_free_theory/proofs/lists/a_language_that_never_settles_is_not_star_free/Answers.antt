use Rattle.star_free_theory.proofs.Settling.{never_star_free}
use Rattle.star_free_theory.proofs.lists.a_language_that_never_settles_is_not_star_free.Goals as goal

pub returns : goal.returns
returns g c k u x v ou ox ov n list root s = never_star_free k g.L.Language.has u x v ou ox ov n
    list root s.both
