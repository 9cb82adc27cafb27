use Rattle.std.proofs.Common.{◌≡◌, ℕ, List, slice_index, refl}
use Rattle.std.proofs.Common.{subst}
use Rattle.local_divisors.specs.Instances.{AreLocalFactors, AreMiddles}
use Rattle.local_divisors.proofs.Recursing.{letter_within, image_within}
use Rattle.local_divisors.proofs.recursion.second_instance.Goals as goal

pub image-m-requires : goal.image-m-requires
image-m-requires c = letter_within c.args.product.now c.args.task.now c.args.choice.now.letter
    c.args.choice.now.others.items c.args.choice.now.submonoid.items c.args.choice.now.divisor.items
    c.requires

pub local_factors-requires-clause-elements : goal.local_factors-requires-clause-elements
local_factors-requires-clause-elements c = rw c.elements.ensures c.requires.ready.elements_within

pub local_factors-requires-clause-m : goal.local_factors-requires-clause-m
local_factors-requires-clause-m c = rw c.image-m.ensures (image_within c.args.product.now
    c.args.task.now c.args.choice.now.letter c.args.choice.now.others.items
    c.args.choice.now.submonoid.items c.args.choice.now.divisor.items c.requires)

pub middles-requires : goal.middles-requires
middles-requires c = rw c.image-m.ensures (image_within c.args.product.now c.args.task.now
    c.args.choice.now.letter c.args.choice.now.others.items c.args.choice.now.submonoid.items
    c.args.choice.now.divisor.items c.requires)

pub returns : goal.returns
returns c =
    let p = c.args.product.now in
    let t = c.args.task.now in
    let m : c.image-m.result ≡ slice_index t.images c.args.choice.now.letter = c.image-m.ensures in
    let factors = c.in_ok-factors.factors.items in
    record {
      factors = factors;
      middles = c.in_ok-middles.middles.items;
      factors_are = subst (λ (z : ℕ). AreLocalFactors p z t.elements factors) m
          (subst (λ (zs : List ℕ). AreLocalFactors p c.image-m.result zs factors) c.elements.ensures
          c.in_ok-factors.ensures);
      middles_are = subst (λ (z : ℕ). AreMiddles p z c.in_ok-middles.middles.items) m
          c.in_ok-middles.ensures;
      product_is = c.with-local.ensures;
      task_is = rw (c.in_ok-instance.ensures, m) refl;
    }
