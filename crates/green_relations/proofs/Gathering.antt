-- The classes that are found in the Cayley graphs of a finite monoid are Green's.
use Rattle.std.proofs.Common.{◌≡◌, ◌↔◌, ℕ, ◌+◌, ◌<◌, ◌≤◌, List, length, refl, sym, ap, subst, arith}
use Rattle.std.specs.Prelude.{IsTrue}
use Rattle.language_theory.specs.Words.{word_at}
use Rattle.language_theory.specs.Automaton.{is_marked}
use Rattle.language_theory.specs.ShortlexGraph.{SameNode}
use Rattle.language_theory.proofs.Congruences.{right_congruence}
use Rattle.monoid_theory.specs.Green.{IsR, IsL, IsIdempotent}
use Rattle.monoid_theory.proofs.Ideals.{r_equivalence, l_equivalence}
use Rattle.cayley_tables.specs.CayleyGraphs.{CayleyGraphs, AreCayleyGraphs}
use Rattle.components.specs.Components.{IsGraph, AreComponents}
use Rattle.components.specs.Beside.{AreBoth}
use Rattle.green_relations.specs.GreenClasses.{GreenClasses, AreLeastMates, AreGreens}
use Rattle.green_relations.specs.Classes.{AreClasses}
use Rattle.green_relations.specs.Pairs.{ArePairMates}
use Rattle.green_relations.proofs.Mates.{pair_mates_are_h}
use Rattle.green_relations.proofs.Paths.{r_mates, l_mates, j_mates}
use Rattle.green_relations.proofs.Labels.{greens_are_classes}

pub as_graph : {n m k d : ℕ} {xs ys : List ℕ} → m ≡ n → d ≡ k → ys ≡ xs → IsGraph n k xs
    → IsGraph m d ys
as_graph {n = n} {m = m} {k = k} {d = d} {xs = xs} {ys = ys} e f h a =
    subst (λ (z : ℕ). IsGraph z d ys) (sym e)
    (subst (λ (z : ℕ). IsGraph n z ys) (sym f)
    (subst (λ (z : List ℕ). IsGraph n k z) (sym h) a))

as_components : {n m k d : ℕ} {xs ys : List ℕ} (labels : List ℕ) → m ≡ n → d ≡ k → ys ≡ xs
    → AreComponents m d ys labels → AreComponents n k xs labels
as_components {n = n} {m = m} {k = k} {d = d} {xs = xs} {ys = ys} labels e f h a =
    subst (λ (z : ℕ). AreComponents z k xs labels) e
    (subst (λ (z : ℕ). AreComponents m z xs labels) f
    (subst (λ (z : List ℕ). AreComponents m d z labels) h a))

as_both : {n m k d : ℕ} {xs ys us vs : List ℕ} (both : List ℕ) → m ≡ n → d ≡ k → ys ≡ xs → vs ≡ us
    → AreBoth m d d ys vs both → AreBoth n k k xs us both
as_both {n = n} {m = m} {k = k} {d = d} {xs = xs} {ys = ys} {us = us} {vs = vs} both e f h i a =
    subst (λ (z : ℕ). AreBoth z k k xs us both) e
    (subst (λ (z : ℕ). AreBoth m z z xs us both) f
    (subst (λ (z : List ℕ). AreBoth m d d z us both) h
    (subst (λ (z : List ℕ). AreBoth m d d ys z both) i a)))

-- what was found in flat lists of targets
pub record AreFound (c : CayleyGraphs) (n k : ℕ) (rs ls bs : List ℕ)
    (g : GreenClasses) : Type 0 where
  pub size : n ≡ length c.words
  pub letters : k ≡ c.right.letters
  pub right : rs ≡ c.right.targets
  pub left : ls ≡ c.left.targets
  pub both : AreBoth n k k rs ls bs
  pub r : AreComponents n k rs g.r
  pub l : AreComponents n k ls g.l
  pub j : AreComponents n (k + k) bs g.j
  pub h : ArePairMates g.r g.l (length g.r) g.h
  pub marks : length g.idempotents ≡ length c.words
  pub idempotent : (i : ℕ) → i < length c.words → IsTrue (is_marked g.idempotents i)
      ↔ IsIdempotent (SameNode c.right) (word_at c.words i)

module _ (c : CayleyGraphs) (n k : ℕ) (rs ls bs : List ℕ) (g : GreenClasses)
    (t : AreCayleyGraphs c) (a : AreFound c n k rs ls bs g) where
  pub found_greens : AreGreens c.right.letters (SameNode c.right) c.words g
  found_greens = record {
    r = r;
    l = l;
    j = j_mates c t bs g.j (as_both bs a.size a.letters a.right a.left a.both)
        (as_components g.j a.size (ap (λ (z : ℕ). z + z) a.letters) refl a.j);
    h = pair_mates_are_h c.right.letters (SameNode c.right) c.words g.r g.l g.h
        t.shortlex.least.over
        (r_equivalence c.right.letters (SameNode c.right)
        (right_congruence c.right.letters (SameNode c.right) t.congruence))
        (l_equivalence c.right.letters (SameNode c.right) t.congruence) r l
        (subst (λ (z : ℕ). ArePairMates g.r g.l z g.h) r.long a.h);
    marks = a.marks;
    idempotent = a.idempotent;
  }
    where
      r : AreLeastMates (IsR c.right.letters (SameNode c.right)) c.words g.r
      r = r_mates c t g.r (as_components g.r a.size a.letters a.right a.r)

      l : AreLeastMates (IsL c.right.letters (SameNode c.right)) c.words g.l
      l = l_mates c t g.l (as_components g.l a.size a.letters a.left a.l)

  pub found_classes : n ≤ 50000 → AreClasses g
  found_classes few = greens_are_classes c.right.letters (SameNode c.right) c.words t.congruence
      t.shortlex.least g found_greens (omega (arith, a.size, few))
