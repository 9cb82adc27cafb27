use Rattle.std.proofs.Common.{refl, None}
use Rattle.star_free_theory.proofs.Whole.{construction_right}
use Rattle.star_free_theory.proofs.Limits.{one_list}
use Rattle.star_free_theory.proofs.construction.the_construction_is_right.Goals as goal

pub returns : goal.returns
returns c = record {
  right = λ most n k a fs r h f e. record
      { words = ((construction_right k most n a fs h f).right r e).stands.means };
  list = λ most n k a fs r h f e. let q = (construction_right k most n a fs h f).right r e in
      record { earlier = q.begun.earlier; inside = q.stands.there };
  ends = λ n k a fs h f l. (construction_right k None n a fs h f).there (refl, l);
  one = one_list;
}
