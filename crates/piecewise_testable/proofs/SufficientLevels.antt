-- The converse of Simon's theorem: where a level of short subwords suffices for a language, its
-- syntactic monoid is J-trivial.
use Rattle.std.proofs.Common.{ℕ, List, ◌++◌, subst, sym, append_assoc}
use Rattle.language_theory.specs.Words.{Over, power}
use Rattle.language_theory.specs.Congruence.{IsCongruence, Syntactic}
use Rattle.language_theory.specs.Representatives.{AreRepresentatives}
use Rattle.language_theory.proofs.Shortlex.{over_append}
use Rattle.language_theory.proofs.Congruences.{syntactic_congruence}
use Rattle.monoid_theory.specs.Green.{IsRTrivial, IsLTrivial, IsJTrivial, IsR, IsL}
use Rattle.monoid_theory.proofs.Exponents.{over_power}
use Rattle.monoid_theory.proofs.FiniteIdeals.{j_trivial_by_sides}
use Rattle.level_search.specs.Levels.{Suffices}
use Rattle.subword_theory.specs.ShortSubwords.{SameSubwords}
use Rattle.subword_theory.proofs.SameWords.{same_refl, same_append, same_context}
use Rattle.subword_theory.proofs.Pumping.{power_behind, power_before}
use Rattle.answers.specs.declared.subwords.Side.TheVariants.{Right, Left}
use Rattle.piecewise_testable.proofs.ToldApart.{kept}

module _ (k : ℕ) (L : List ℕ → Type 0) (n : ℕ) (h : Suffices k L (SameSubwords n)) where
  q : IsCongruence k (Syntactic k L)
  q = syntactic_congruence k L

  through : (u v w : List ℕ) → Over k u → Over k v → Over k w → Syntactic k L u v
      → Syntactic k L v w → Syntactic k L u w
  through = q.equivalence.trans

  -- words with the same subwords of at most n letters are congruent
  level_relates : (u v : List ℕ) → Over k u → Over k v → SameSubwords n u v → Syntactic k L u v
  level_relates u v ou ov s x y ox oy =
      h.alike (x ++ (u ++ y)) (x ++ (v ++ y)) (over_append k x (u ++ y) ox (over_append k u y ou oy))
      (over_append k x (v ++ y) ox (over_append k v y ov oy)) (same_context n u v x y s)

  level_r_trivial : IsRTrivial k (Syntactic k L)
  level_r_trivial = record { one = one }
    where
      one : (s t : List ℕ) → Over k s → Over k t → IsR k (Syntactic k L) s t → Syntactic k L s t
      one s t os ot ((x, ox, f), (y, oy, g)) =
          through s (s ++ p) t os osp ot around
          (through (s ++ p) (s ++ (p ++ y)) t osp ospy ot
          (level_relates (s ++ p) (s ++ (p ++ y)) osp ospy
          (same_append (same_refl n s) (power_behind n y x))) back)
        where
          z : List ℕ
          z = y ++ x

          p : List ℕ
          p = power n z

          oz : Over k z
          oz = over_append k y x oy ox

          osp : Over k (s ++ p)
          osp = over_append k s p os (over_power k n z oz)

          ospy : Over k (s ++ (p ++ y))
          ospy = subst (Over k) (append_assoc s p y) (over_append k (s ++ p) y osp oy)

          osy : Over k (s ++ y)
          osy = over_append k s y os oy

          round : Syntactic k L s (s ++ z)
          round =
              through s (t ++ x) (s ++ z) os (over_append k t x ot ox) (over_append k s z os oz) f
              (subst (Syntactic k L (t ++ x)) (append_assoc s y x)
              (q.right t (s ++ y) x ot osy ox g))

          around : Syntactic k L s (s ++ p)
          around = kept k (Syntactic k L) q Right s z os oz round n

          back : Syntactic k L (s ++ (p ++ y)) t
          back =
              through (s ++ (p ++ y)) (s ++ y) t ospy osy ot
              (subst (λ (w : List ℕ). Syntactic k L w (s ++ y)) (append_assoc s p y)
              (q.right (s ++ p) s y osp os oy (q.equivalence.symm s (s ++ p) os osp around)))
              (q.equivalence.symm t (s ++ y) ot osy g)

  level_l_trivial : IsLTrivial k (Syntactic k L)
  level_l_trivial = record { one = one }
    where
      one : (s t : List ℕ) → Over k s → Over k t → IsL k (Syntactic k L) s t → Syntactic k L s t
      one s t os ot ((x, ox, f), (y, oy, g)) =
          through s (p ++ s) t os ops ot around
          (through (p ++ s) ((y ++ p) ++ s) t ops oyps ot
          (level_relates (p ++ s) ((y ++ p) ++ s) ops oyps
          (same_append (power_before n y x) (same_refl n s))) back)
        where
          z : List ℕ
          z = x ++ y

          p : List ℕ
          p = power n z

          oz : Over k z
          oz = over_append k x y ox oy

          op : Over k p
          op = over_power k n z oz

          ops : Over k (p ++ s)
          ops = over_append k p s op os

          oyps : Over k ((y ++ p) ++ s)
          oyps = over_append k (y ++ p) s (over_append k y p oy op) os

          oys : Over k (y ++ s)
          oys = over_append k y s oy os

          round : Syntactic k L s (z ++ s)
          round =
              through s (x ++ t) (z ++ s) os (over_append k x t ox ot) (over_append k z s oz os) f
              (subst (Syntactic k L (x ++ t)) (sym (append_assoc x y s))
              (q.left t (y ++ s) x ot oys ox g))

          around : Syntactic k L s (p ++ s)
          around = kept k (Syntactic k L) q Left s z os oz round n

          back : Syntactic k L ((y ++ p) ++ s) t
          back =
              through ((y ++ p) ++ s) (y ++ s) t oyps oys ot
              (subst (λ (w : List ℕ). Syntactic k L w (y ++ s)) (sym (append_assoc y p s))
              (q.left (p ++ s) s y ops os oy (q.equivalence.symm s (p ++ s) os ops around)))
              (q.equivalence.symm t (y ++ s) ot oys g)

-- wherever the monoid is finite
pub a_sufficient_level_makes_it_j_trivial : (k n : ℕ) (L : List ℕ → Type 0)
    (words : List (List ℕ)) → AreRepresentatives k (Syntactic k L) words
    → Suffices k L (SameSubwords n) → IsJTrivial k (Syntactic k L)
a_sufficient_level_makes_it_j_trivial k n L words l h =
    j_trivial_by_sides k (Syntactic k L) words (syntactic_congruence k L) l
    (level_r_trivial k L n h) (level_l_trivial k L n h)
