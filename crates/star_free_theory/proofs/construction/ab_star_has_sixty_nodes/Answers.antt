use Rattle.std.proofs.Common.{refl}
use Rattle.star_free_theory.specs.Construction.{bind, reach, span, treat_within}
use Rattle.star_free_theory.specs.Examples.{ab_star_algebra, ab_star_first, ab_star_opened, ab_star_second, ab_star_whole, nodes_of, size_and_root}
use Rattle.star_free_theory.proofs.construction.ab_star_has_sixty_nodes.Goals as goal

pub returns : goal.returns
unfolding ab_star_algebra size_and_root treat_within bind reach span nodes_of ab_star_opened
    ab_star_first ab_star_second ab_star_whole
returns c = record {
  enough = refl;
  few = refl;
  first = refl;
  second = refl;
  elements = refl;
}
