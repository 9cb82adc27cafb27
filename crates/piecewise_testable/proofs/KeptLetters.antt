-- In a J-trivial monoid a letter before or behind a word that adds no subword of at most m letters
-- keeps the element, where no chain of ideals has more than m elements (Simon 1975).
use Rattle.std.proofs.Common.{◌≡◌, ℕ, ◌+◌, ◌<◌, ◌≤◌, List, [], ◌∷◌, ◌++◌, reverse, length, ap, sym, subst, subst₂, ◌∙◌, arith}
use Rattle.std.proofs.lemmas.List.{reverse-append, reverse-reverse}
use Rattle.language_theory.specs.Words.{Over}
use Rattle.language_theory.specs.Congruence.{IsCongruence}
use Rattle.language_theory.specs.Representatives.{AreRepresentatives}
use Rattle.language_theory.proofs.Shortlex.{over_last}
use Rattle.language_theory.proofs.Representatives.{related_or_not}
use Rattle.monoid_theory.specs.Green.{IsInIdeal, IsJTrivial}
use Rattle.monoid_theory.proofs.Ideals.{left_in_ideal, right_in_ideal}
use Rattle.green_relations.specs.Chains.{IsBelow, IsChain}
use Rattle.subword_theory.specs.ShortSubwords.{SameSubwords}
use Rattle.subword_theory.proofs.Mirrors.{reverse_first, over_reverse, same_reverse}
use Rattle.piecewise_testable.proofs.ChainEnds.{EndsChain, chain_begins, chain_goes_on, chain_of_related}
use Rattle.piecewise_testable.proofs.Trails.{IsDescent, letter_keeps}

module _ (k : ℕ) (same : List ℕ → List ℕ → Type 0) (q : IsCongruence k same)
    (words : List (List ℕ)) (l : AreRepresentatives k same words) (j : IsJTrivial k same) where
  -- another element of an ideal is below
  below_if_other : (s t : List ℕ) → Over k s → Over k t → IsInIdeal k same s t → ¬ same s t
      → IsBelow k same s t
  below_if_other s t os ot i m = (i, λ f. m (j.one s t os ot f))

  letter_before_below : (a : ℕ) (v : List ℕ) → a < k → Over k v → ¬ same (a ∷ v) v
      → IsBelow k same (a ∷ v) v
  letter_before_below a v h o m =
      below_if_other (a ∷ v) v (h, o) o
      (left_in_ideal k same (a ∷ v) v
      (a ∷ [], (h, tt), q.equivalence.refl (a ∷ v) (h, o))) m

  letter_behind_below : (a : ℕ) (v : List ℕ) → a < k → Over k v → ¬ same (v ++ a ∷ []) v
      → IsBelow k same (v ++ a ∷ []) v
  letter_behind_below a v h o m =
      below_if_other (v ++ a ∷ []) v (over_last k v a o h) o
      (right_in_ideal k same (v ++ a ∷ []) v
      (a ∷ [], (h, tt), q.equivalence.refl (v ++ a ∷ []) (over_last k v a o h))) m

  descent_before : IsDescent k same (EndsChain k same words)
  descent_before = record {
    equivalence = q.equivalence;
    decided = related_or_not k same words l q.equivalence;
    acts = λ a v w h ov ow e. q.left v w (a ∷ []) ov ow (h, tt) e;
    begins = chain_begins k same q words l [] tt;
    stays = λ a n v h o e c. chain_of_related k same q words l v (a ∷ v) n o (h, o)
        (q.equivalence.symm (a ∷ v) v (h, o) o e) c;
    falls = λ a n v h o m c. chain_goes_on k same q words l v (a ∷ v) n o (h, o) c
        (letter_before_below a v h o m);
  }

  -- the same of words that are read backwards
  Mirrored : List ℕ → List ℕ → Type 0
  Mirrored u v = same (reverse u) (reverse v)

  mirrored_first : (a : ℕ) (v w : List ℕ) → same (reverse v ++ a ∷ []) w
      → same (reverse (a ∷ v)) w
  mirrored_first a v w e = subst (λ (x : List ℕ). same x w) (sym (reverse_first a v)) e

  over_first : (a : ℕ) (v : List ℕ) → a < k → Over k v → Over k (reverse v ++ a ∷ [])
  over_first a v h o = over_last k (reverse v) a (over_reverse k v o) h

  descent_behind : IsDescent k Mirrored (λ v n. EndsChain k same words (reverse v) n)
  unfolding Mirrored
  descent_behind = record {
    equivalence = record {
      refl = λ u o. q.equivalence.refl (reverse u) (over_reverse k u o);
      symm = λ u v ou ov. q.equivalence.symm (reverse u) (reverse v) (over_reverse k u ou)
          (over_reverse k v ov);
      trans = λ u v w ou ov ow. q.equivalence.trans (reverse u) (reverse v) (reverse w)
          (over_reverse k u ou) (over_reverse k v ov) (over_reverse k w ow);
    };
    decided = λ u v ou ov. related_or_not k same words l q.equivalence (reverse u) (reverse v)
        (over_reverse k u ou) (over_reverse k v ov);
    acts = λ a v w h ov ow e. subst₂ same (sym (reverse_first a v)) (sym (reverse_first a w))
        (q.right (reverse v) (reverse w) (a ∷ []) (over_reverse k v ov) (over_reverse k w ow)
        (h, tt) e);
    begins = chain_begins k same q words l [] tt;
    stays = λ a n v h o e c. chain_of_related k same q words l (reverse v) (reverse (a ∷ v)) n
        (over_reverse k v o) (over_reverse k (a ∷ v) (h, o))
        (q.equivalence.symm (reverse (a ∷ v)) (reverse v) (over_reverse k (a ∷ v) (h, o))
        (over_reverse k v o) e) c;
    falls = λ a n v h o m c. subst (λ (x : List ℕ). EndsChain k same words x (n + 1))
        (sym (reverse_first a v))
        (chain_goes_on k same q words l (reverse v) (reverse v ++ a ∷ []) n
        (over_reverse k v o) (over_first a v h o) c
        (letter_behind_below a (reverse v) h (over_reverse k v o)
        (λ e. m (mirrored_first a v (reverse v) e))));
  }

  module _ (m : ℕ) (most : (chain : List ℕ) → IsChain k same words chain → length chain ≤ m) where
    not_deeper : (v : List ℕ) (n : ℕ) → EndsChain k same words v n → n + 1 ≤ m
    not_deeper v n h = omega (arith, most h.chain h.is, h.long)

    pub letter_before : (a : ℕ) (v : List ℕ) → a < k → Over k v → SameSubwords m v (a ∷ v)
        → same (a ∷ v) v
    letter_before =
        letter_keeps k same (EndsChain k same words) descent_before m not_deeper

    pub letter_behind : (u : List ℕ) (a : ℕ) → Over k u → a < k
        → SameSubwords m u (u ++ a ∷ []) → same (u ++ a ∷ []) u
    unfolding Mirrored
    letter_behind u a o h s = subst₂ same turned (reverse-reverse u) mirrored
      where
        turned : reverse (a ∷ reverse u) ≡ u ++ a ∷ []
        turned = reverse_first a (reverse u)
            ∙ ap (λ (x : List ℕ). x ++ a ∷ []) (reverse-reverse u)

        mirrored : same (reverse (a ∷ reverse u)) (reverse (reverse u))
        mirrored =
            letter_keeps k Mirrored (λ v n. EndsChain k same words (reverse v) n) descent_behind m
            (λ v n c. not_deeper (reverse v) n c) a (reverse u) h (over_reverse k u o)
            (subst (SameSubwords m (reverse u)) (reverse-append u (a ∷ [])) (same_reverse s))
