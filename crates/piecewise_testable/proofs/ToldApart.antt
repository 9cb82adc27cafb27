-- The two words of a witness are told apart at every level.
use Rattle.std.proofs.Common.{◌↔◌, ℕ, zero, suc, inl, inr, List, [], ◌∷◌, ◌++◌, sym, subst, append_assoc, append-nil}
use Rattle.std.specs.Prelude.{Option, Some, None, IfSome}
use Rattle.language_theory.specs.Words.{Over, power}
use Rattle.language_theory.specs.Languages.{ExactlyOne}
use Rattle.language_theory.specs.Congruence.{IsCongruence, Syntactic}
use Rattle.language_theory.proofs.Shortlex.{over_append}
use Rattle.language_theory.proofs.Congruences.{both_directions, syntactic_congruence}
use Rattle.monoid_theory.specs.Green.{IsJTrivial}
use Rattle.monoid_theory.proofs.Exponents.{over_power}
use Rattle.monoid_theory.proofs.FiniteIdeals.{r_trivial_by_j, l_trivial_by_j}
use Rattle.level_search.specs.Levels.{Suffices}
use Rattle.subword_theory.specs.ShortSubwords.{SameSubwords}
use Rattle.subword_theory.proofs.SameWords.{same_refl, same_append, same_context}
use Rattle.subword_theory.proofs.Pumping.{power_behind, power_before}
use Rattle.answers.specs.declared.subwords.Side.{Side}
use Rattle.answers.specs.declared.subwords.Side.TheVariants.{Right, Left}
use Rattle.answers.specs.declared.subwords.PtWitness.{PtWitness}
use Rattle.piecewise_testable.specs.Sides.{beside, IsTrivialOn, Leads}
use Rattle.piecewise_testable.specs.Witness.{IsWitness, IsAnswerOn, pumped, first_word, second_word}
use Rattle.piecewise_testable.specs.Answers.{IsToldApart}
use Rattle.piecewise_testable.proofs.BothSides.{over_beside, beside_related}
use Rattle.piecewise_testable.proofs.Agreeing.{one_again}

module _ (k : ℕ) (same : List ℕ → List ℕ → Type 0) (q : IsCongruence k same) where
  -- a word that keeps s, repeated, keeps s
  pub kept : (side : Side) (s x : List ℕ) → Over k s → Over k x → same s (beside side s x) → (n : ℕ)
      → same s (beside side s (power n x))
  kept Right s x os ox h zero =
      subst (same s) (sym (append-nil s)) (q.equivalence.refl s os)
  kept Left s x os ox h zero = q.equivalence.refl s os
  kept Right s x os ox h (suc n) =
      let op = over_power k n x ox in
      let osp = over_append k s (power n x) os op in
      let osx = over_append k s x os ox in
      q.equivalence.trans s (s ++ power n x) (s ++ (x ++ power n x)) os osp
      (over_append k s (x ++ power n x) os (over_append k x (power n x) ox op))
      (kept Right s x os ox h n)
      (subst (same (s ++ power n x)) (append_assoc s x (power n x))
      (q.right s (s ++ x) (power n x) os osx op h))
  kept Left s x os ox h (suc n) =
      let op = over_power k n x ox in
      let ops = over_append k (power n x) s op os in
      let oxs = over_append k x s ox os in
      q.equivalence.trans s (x ++ s) ((x ++ power n x) ++ s) os oxs
      (over_append k (x ++ power n x) s (over_append k x (power n x) ox op) os) h
      (subst (same (x ++ s)) (sym (append_assoc x (power n x) s))
      (q.left s (power n x ++ s) x os ops ox (kept Left s x os ox h n)))

  -- a letter and a word that lead back to s keep s
  kept_by_round : (side : Side) (s : List ℕ) (a : ℕ) (y : List ℕ)
      → Leads side same (beside side s (a ∷ [])) s y
      → same s (beside side s (beside side (a ∷ []) y))
  kept_by_round Right s a y h = subst (same s) (append_assoc s (a ∷ []) y) h
  kept_by_round Left s a y h = subst (same s) (sym (append_assoc y (a ∷ []) s)) h

  pub pumped_is_kept : (side : Side) (s : List ℕ) (a : ℕ) (y : List ℕ) (n : ℕ) → Over k s
      → Over k (a ∷ []) → Over k y → Leads side same (beside side s (a ∷ [])) s y
      → same s (beside side s (power n (beside side (a ∷ []) y)))
  pumped_is_kept side s a y n os oa oy h =
      kept side s (beside side (a ∷ []) y) os (over_beside side k (a ∷ []) y oa oy)
      (kept_by_round side s a y h) n

-- one more letter beside a power adds no short subword
one_more_letter : (side : Side) (n : ℕ) (s : List ℕ) (a : ℕ) (y : List ℕ)
    → SameSubwords n (beside side s (power n (beside side (a ∷ []) y)))
    (beside side (beside side s (power n (beside side (a ∷ []) y))) (a ∷ []))
one_more_letter Right n s a y =
    subst (SameSubwords n (s ++ power n ((a ∷ []) ++ y)))
    (sym (append_assoc s (power n ((a ∷ []) ++ y)) (a ∷ [])))
    (same_append (same_refl n s) (power_behind n (a ∷ []) y))
one_more_letter Left n s a y =
    same_append (power_before n (a ∷ []) y) (same_refl n s)

module _ (k : ℕ) (L : List ℕ → Type 0) (w : PtWitness) (h : IsWitness k L w) where
  os : Over k w.s
  os = h.round.element.over

  oa : Over k (w.letter ∷ [])
  oa = (h.round.letter.within, tt)

  os_a : Over k (beside w.side w.s (w.letter ∷ []))
  os_a = over_beside w.side k w.s (w.letter ∷ []) os oa

  op : (n : ℕ) → Over k (pumped n w)
  op n = over_beside w.side k w.s (power n (beside w.side (w.letter ∷ []) w.y)) os
      (over_power k n (beside w.side (w.letter ∷ []) w.y)
      (over_beside w.side k (w.letter ∷ []) w.y oa h.round.back.over))

  pumped_same : (n : ℕ) → Syntactic k L w.s (pumped n w)
  pumped_same n =
      pumped_is_kept k (Syntactic k L) (syntactic_congruence k L) w.side w.s w.letter w.y n os oa
      h.round.back.over h.round.back.holds

  longer_same : (n : ℕ) → Syntactic k L (beside w.side w.s (w.letter ∷ []))
      (beside w.side (pumped n w) (w.letter ∷ []))
  longer_same n =
      beside_related k (Syntactic k L) (syntactic_congruence k L) w.side w.s (pumped n w)
      (w.letter ∷ []) os (op n) oa (pumped_same n)

  first_same : (n : ℕ) → L (w.u ++ (w.s ++ w.v)) ↔ L (first_word n w)
  first_same n = pumped_same n w.u w.v h.context.before.over h.context.behind.over

  second_same : (n : ℕ) → L (w.u ++ (beside w.side w.s (w.letter ∷ []) ++ w.v))
      ↔ L (second_word n w)
  second_same n = longer_same n w.u w.v h.context.before.over h.context.behind.over

  pub told_apart : (n : ℕ) → IsToldApart L n w
  told_apart n = record {
    apart = record {
      subwords = same_context n (pumped n w) (beside w.side (pumped n w) (w.letter ∷ [])) w.u w.v
          (one_more_letter w.side n w.s w.letter w.y);
      one = one_again (first_same n) (second_same n) h.context.behind.holds;
    };
    first_in = both_directions h.first_in (first_same n);
  }

  over_first : (n : ℕ) → Over k (first_word n w)
  over_first n =
      over_append k w.u (pumped n w ++ w.v) h.context.before.over
      (over_append k (pumped n w) w.v (op n) h.context.behind.over)

  over_second : (n : ℕ) → Over k (second_word n w)
  over_second n =
      over_append k w.u (beside w.side (pumped n w) (w.letter ∷ []) ++ w.v) h.context.before.over
      (over_append k (beside w.side (pumped n w) (w.letter ∷ [])) w.v
      (over_beside w.side k (pumped n w) (w.letter ∷ []) (op n) oa) h.context.behind.over)

  pub no_level : (n : ℕ) → ¬ Suffices k L (SameSubwords n)
  no_level n s =
      by (told_apart n).apart.one
      (s.alike (first_word n w) (second_word n w) (over_first n) (over_second n)
      (told_apart n).apart.subwords)
    where
      by : ExactlyOne (L (first_word n w)) (L (second_word n w))
          → L (first_word n w) ↔ L (second_word n w) → ⊥
      by (inl (p, m)) f = m (f.0 p)
      by (inr (m, p)) f = m (f.1 p)

  pub not_trivial_on : ¬ IsTrivialOn w.side k (Syntactic k L)
  not_trivial_on t =
      h.round.letter.holds.1
      (t.one w.s (beside w.side w.s (w.letter ∷ [])) os os_a h.round.letter.holds.0)

-- a witness that was found is told apart at every level
pub found_apart : (side : Side) (k : ℕ) (L : List ℕ → Type 0) (found : Option PtWitness)
    → IsAnswerOn side k L found → IfSome found (λ w. (n : ℕ) → IsToldApart L n w)
found_apart side k L None h = tt
found_apart side k L (Some w) h = λ n. told_apart k L w h.1 n

trivial_by_j : (side : Side) (k : ℕ) (same : List ℕ → List ℕ → Type 0) → IsJTrivial k same
    → IsTrivialOn side k same
trivial_by_j Right k same j = r_trivial_by_j k same j
trivial_by_j Left k same j = l_trivial_by_j k same j

pub not_j_trivial : (k : ℕ) (L : List ℕ → Type 0) (w : PtWitness) → IsWitness k L w
    → ¬ IsJTrivial k (Syntactic k L)
not_j_trivial k L w h j = not_trivial_on k L w h (trivial_by_j w.side k (Syntactic k L) j)
