-- One key for all words, as a quotient of the tests.
use Rattle.std.specs.Prelude.{◌≡◌, ◌<◌, ℕ, [], Some}
use Rattle.std.proofs.Common.{arith, ap}
use Rattle.language_theory.specs.Congruence.{IsRightCongruence}
use Rattle.exploration.specs.States.{AreNumbered}

pub one_key_congruence : (k : ℕ) → IsRightCongruence k (λ _ _. Unit {0})
one_key_congruence k = record {
  equivalence =
      record { refl = λ u o. tt; symm = λ u v ou ov h. tt; trans = λ u v w ou ov ow h g. tt };
  right = λ u v w ou ov ow h. tt;
}

pub one_key_numbered : (k count : ℕ) → count ≡ 1
    → AreNumbered k (λ _ _. Unit {0}) (λ _. Some 0) count
one_key_numbered k count is = record {
  below = λ w n o e. zero_below n e;
  used = λ n l. ([], tt, zero_is n l);
  one = λ u v n ou ov e. (λ _. tt, λ _. e);
}
  where
    zero_below : (n : ℕ) → Some 0 ≡ Some n → n < count
    zero_below n e = let z : 0 ≡ n = cc in omega (arith, is)

    zero_is : (n : ℕ) → n < count → Some 0 ≡ Some n
    zero_is n l = let z : 0 ≡ n = omega (arith, is, l) in ap (λ (m : ℕ). Some m) z
