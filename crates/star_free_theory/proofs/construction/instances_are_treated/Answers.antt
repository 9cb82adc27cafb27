use Rattle.std.proofs.Common.{refl, None}
use Rattle.star_free_theory.proofs.Treating.{treat_within_right}
use Rattle.star_free_theory.proofs.construction.instances_are_treated.Goals as goal

pub returns : goal.returns
returns c = record {
  right = λ k most n xs t r g f e. (treat_within_right k most n xs t g f).right r e;
  ends = λ k n xs t g f l. (treat_within_right k None n xs t g f).there (refl, l);
}
