-- The words of even length over one letter a: the powers of a have the index 0 and the period 2,
-- and never settle.
use Rattle.std.proofs.Common.{◌≡◌, ◌↔◌, inl, ℕ, zero, suc, ◌+◌, ◌≤◌, List, [], ◌∷◌, ◌++◌, length, refl, ap, sym, ◌∙◌, arith, length-append}
use Rattle.language_theory.specs.Words.{Over, power}
use Rattle.language_theory.specs.Congruence.{Syntactic}
use Rattle.language_theory.proofs.Congruences.{other_direction}
use Rattle.monoid_theory.specs.Green.{IsIdempotent}
use Rattle.monoid_theory.specs.Powers.{IsIndexAndPeriod, Repeats, NeverSettle}
use Rattle.monoid_theory.specs.Examples.{IsEven}
use Rattle.language_theory.proofs.Shortlex.{over_append}
use Rattle.monoid_theory.proofs.Exponents.{over_power}
use Rattle.monoid_theory.proofs.Settling.{never_settles}

-- words of one length over one letter are equal
one_letter : (u v : List ℕ) → Over 1 u → Over 1 v → length u ≡ length v → u ≡ v
one_letter [] [] o p e = refl
one_letter [] (b ∷ v) o p e = absurd (omega arith)
one_letter (a ∷ u) [] o p e = absurd (omega arith)
one_letter (a ∷ u) (b ∷ v) o p e =
    let first : a ≡ b = (let l = o.0 in let m = p.0 in omega arith) in
    let rest : u ≡ v = one_letter u v o.1 p.1 (omega arith) in
    cc

power_long : (n : ℕ) → length (power n (0 ∷ 0 ∷ [])) ≡ n + n
power_long zero = refl
power_long (suc n) = let e = power_long n in omega arith

even_if : (n : ℕ) (w : List ℕ) → Over 1 w → length w ≡ n + n → IsEven w
even_if n w o e = (
  n,
  one_letter (power n (0 ∷ 0 ∷ [])) w
      (over_power 1 n (0 ∷ 0 ∷ []) (omega arith, (omega arith, tt))) o (power_long n ∙ sym e),
)

even_long : (w : List ℕ) → (h : IsEven w) → length w ≡ h.0 + h.0
even_long w (n, e) = sym (ap length e) ∙ power_long n

-- two letters more or less keep a length even
two_more : (p q : List ℕ) → Over 1 p → Over 1 q → IsEven (p ++ q) ↔ IsEven (p ++ (0 ∷ 0 ∷ q))
two_more p q op oq = (more, less)
  where
    whole : length (p ++ (0 ∷ 0 ∷ q)) ≡ length (p ++ q) + 2
    whole = simp length-append (omega arith)

    more : IsEven (p ++ q) → IsEven (p ++ (0 ∷ 0 ∷ q))
    more h =
        even_if (suc h.0) (p ++ (0 ∷ 0 ∷ q))
        (over_append 1 p (0 ∷ 0 ∷ q) op (omega arith, (omega arith, oq)))
        (let e = even_long (p ++ q) h in let f = whole in omega arith)

    less : IsEven (p ++ (0 ∷ 0 ∷ q)) → IsEven (p ++ q)
    less (zero, e) =
        absurd (let f = even_long (p ++ (0 ∷ 0 ∷ q)) (zero, e) in let g = whole in omega arith)
    less (suc n, e) =
        even_if n (p ++ q) (over_append 1 p q op oq)
        (let f = even_long (p ++ (0 ∷ 0 ∷ q)) (suc n, e) in let g = whole in omega arith)

a_is_odd : ¬ IsEven (0 ∷ [])
a_is_odd h = let e = even_long (0 ∷ []) h in omega arith

pub a_has_period_two : IsIndexAndPeriod (Syntactic 1 IsEven) (0 ∷ []) 0 2
a_has_period_two =
    record {
      positive = omega arith;
      repeats = λ p q op oq. two_more p q op oq;
      index =
          λ j q l s. omega arith;
      period = period;
    }
  where
    period : (q : ℕ) → 1 ≤ q → Repeats (Syntactic 1 IsEven) (0 ∷ []) 0 q → 2 ≤ q
    period zero l s = absurd (omega arith)
    period (suc zero) l s = absurd (a_is_odd ((s [] [] tt tt).0 (0, refl)))
    period (suc (suc q)) l s = omega arith

pub a_never_settles : NeverSettle IsEven [] (0 ∷ []) []
a_never_settles =
    never_settles 1 IsEven [] (0 ∷ []) [] tt (omega arith, tt) tt 0 2 a_has_period_two.positive
    a_has_period_two.repeats (inl ((0, refl), a_is_odd))

pub cube_is_a : Syntactic 1 IsEven (0 ∷ 0 ∷ 0 ∷ []) (0 ∷ [])
cube_is_a p q op oq = other_direction (two_more p (0 ∷ q) op (omega arith, oq))

pub a_not_idempotent : ¬ IsIdempotent (Syntactic 1 IsEven) (0 ∷ [])
a_not_idempotent s = a_is_odd ((s [] [] tt tt).0 (1, refl))
