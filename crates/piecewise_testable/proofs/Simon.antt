-- Simon's theorem (1975): in a J-trivial monoid in which no chain of ideals has more than m
-- elements, words with the same subwords of at most 2 m - 1 letters are one element.
use Rattle.std.proofs.Common.{◌↔◌, ℕ, ◌-◌, ◌*◌, ◌<◌, ◌≤◌, inl, inr, List, [], ◌∷◌, ◌++◌, length, subst, subst₂, arith, append_assoc, append-nil}
use Rattle.std.proofs.lemmas.Bool.{cases_lt}
use Rattle.language_theory.specs.Words.{Over, IsSubword, done, keep, skip}
use Rattle.language_theory.specs.Congruence.{IsCongruence, Syntactic}
use Rattle.language_theory.specs.Representatives.{AreRepresentatives}
use Rattle.language_theory.proofs.Shortlex.{over_prefix, over_suffix, over_last}
use Rattle.language_theory.proofs.Deleting.{subword_itself, subword_append, subword_insert, subword_over}
use Rattle.language_theory.proofs.Congruences.{syntactic_congruence}
use Rattle.monoid_theory.specs.Green.{IsJTrivial}
use Rattle.green_relations.specs.Chains.{IsChain, IsLongestChain}
use Rattle.green_relations.proofs.ChainLaws.{chain_is_short}
use Rattle.level_search.specs.Levels.{Suffices}
use Rattle.subword_theory.specs.ShortSubwords.{SameSubwords}
use Rattle.subword_theory.proofs.SameWords.{same_symm, same_trans, same_less, same_between}
use Rattle.subword_theory.proofs.Sharing.{IsSharedOut, shared_out}
use Rattle.subword_theory.proofs.CommonWords.{IsCommonLonger, common_longer}
use Rattle.answers.specs.declared.subwords.PtAnswer.{PtAnswer}
use Rattle.answers.specs.declared.subwords.PtAnswer.TheVariants as answer
use Rattle.piecewise_testable.specs.Answers.{IsPiecewiseAnswer, IsBoundedBySimon}
use Rattle.piecewise_testable.proofs.Answering.{no_level_suffices}
use Rattle.piecewise_testable.proofs.KeptLetters.{letter_before, letter_behind}

module _ (k : ℕ) (same : List ℕ → List ℕ → Type 0) (q : IsCongruence k same)
    (words : List (List ℕ)) (l : AreRepresentatives k same words) (j : IsJTrivial k same) (m : ℕ)
    (most : (chain : List ℕ) → IsChain k same words chain → length chain ≤ m) where
  -- a letter between two words that adds no subword of at most 2 m - 1 letters
  module _ (x : List ℕ) (a : ℕ) (y : List ℕ) (o : Over k (x ++ a ∷ y)) where
    ox : Over k x
    ox = over_prefix k x (a ∷ y) o

    oay : (a < k) × Over k y
    oay = over_suffix k x (a ∷ y) o

    kept_behind : SameSubwords m x (x ++ a ∷ []) → same (x ++ y) (x ++ a ∷ y)
    kept_behind s =
        let oxa = over_last k x a ox oay.0 in
        subst (same (x ++ y)) (append_assoc x (a ∷ []) y)
        (q.right x (x ++ a ∷ []) y ox oxa oay.1
        (q.equivalence.symm (x ++ a ∷ []) x oxa ox
        (letter_behind k same q words l j m most x a ox oay.0 s)))

    kept_before : SameSubwords m y (a ∷ y) → same (x ++ y) (x ++ a ∷ y)
    kept_before s =
        q.left y (a ∷ y) x oay.1 oay ox
        (q.equivalence.symm (a ∷ y) y oay oay.1
        (letter_before k same q words l j m most a y oay.0 oay.1 s))

    kept_between : SameSubwords (2 * m - 1) (x ++ y) (x ++ a ∷ y) → same (x ++ y) (x ++ a ∷ y)
    kept_between s = by (shared_out (2 * m - 1) x a y s)
      where
        by : IsSharedOut (2 * m - 1) x a y → same (x ++ y) (x ++ a ∷ y)
        by (i, n, e, f, g) = elim (cases_lt i m) [
          | inr c ↦ kept_behind (same_less m c f)
          | inl c ↦ kept_before (same_less m (omega arith) g)
        ]

  -- words with the same subwords of at most 2 m - 1 letters are one element
  abbrev AreOne : List ℕ → List ℕ → Type 0
  AreOne u w = Over k w → SameSubwords (2 * m - 1) u w → same u w

  one_after : (x : List ℕ) (a : ℕ) (u w : List ℕ)
      → AreOne ((x ++ a ∷ []) ++ u) ((x ++ a ∷ []) ++ w) → AreOne (x ++ a ∷ u) (x ++ a ∷ w)
  one_after x a u w h = subst₂ AreOne (append_assoc x (a ∷ []) u) (append_assoc x (a ∷ []) w) h

  -- a word and a subword of it: the letters that it has more are put in one at a time
  climbs : (x : List ℕ) {u w : List ℕ} → IsSubword u w → AreOne (x ++ u) (x ++ w)
  climbs x done o s = q.equivalence.refl (x ++ []) o
  climbs x (keep {a = a} {u = u} {v = w} h) o s = one_after x a u w (climbs (x ++ a ∷ []) h) o s
  climbs x (skip {a = a} {u = u} {v = w} h) o s =
      q.equivalence.trans (x ++ u) (x ++ a ∷ u) (x ++ a ∷ w)
      (subword_over k (subword_insert x a u) there) there o (kept_between x a u there near)
      (one_after x a u w (climbs (x ++ a ∷ []) h) o (same_trans (same_symm near) s))
    where
      above : IsSubword (x ++ a ∷ u) (x ++ a ∷ w)
      above = subword_append (subword_itself x) (keep h)

      there : Over k (x ++ a ∷ u)
      there = subword_over k above o

      near : SameSubwords (2 * m - 1) (x ++ u) (x ++ a ∷ u)
      near = same_between (subword_insert x a u) above s

  -- both words climb to a common longer one
  pub simons_theorem : (u v : List ℕ) → Over k u → Over k v → SameSubwords (2 * m - 1) u v
      → same u v
  simons_theorem u v ou ov s = by (common_longer (2 * m - 1) u v s)
    where
      by : (w : List ℕ) × IsCommonLonger (2 * m - 1) u v w → same u v
      by (w, h) =
          let ow = h.over k ou ov in
          q.equivalence.trans u w v ou ow ov (climbs [] h.first ow h.same)
          (q.equivalence.symm v w ov ow
          (climbs [] h.second ow (same_trans (same_symm s) h.same)))

-- a language whose syntactic monoid is J-trivial
module _ (k : ℕ) (L : List ℕ → Type 0) (words : List (List ℕ))
    (l : AreRepresentatives k (Syntactic k L) words) where
  -- where no chain of ideals has more than m elements, level 2 m - 1 suffices
  level_by_bound : IsJTrivial k (Syntactic k L) → (m : ℕ)
      → ((chain : List ℕ) → IsChain k (Syntactic k L) words chain → length chain ≤ m)
      → Suffices k L (SameSubwords (2 * m - 1))
  level_by_bound j m most = record { alike = alike }
    where
      alike : (u v : List ℕ) → Over k u → Over k v → SameSubwords (2 * m - 1) u v → L u ↔ L v
      alike u v ou ov s =
          subst₂ (λ (x y : List ℕ). L x ↔ L y) (append-nil u) (append-nil v)
          (simons_theorem k (Syntactic k L) (syntactic_congruence k L) words l j m most u v ou ov
          s [] [] tt tt)

  -- a chain is no longer than the list of elements
  pub some_level_suffices : IsJTrivial k (Syntactic k L)
      → (n : ℕ) × Suffices k L (SameSubwords n)
  some_level_suffices j = (
    2 * length words - 1,
    level_by_bound j (length words)
        (chain_is_short k (Syntactic k L) (syntactic_congruence k L) words l),
  )

-- where n is the number of elements of the longest chain of ideals, level 2 n - 1 suffices
pub simons_level_suffices : (k : ℕ) (L : List ℕ → Type 0) (words : List (List ℕ))
    (chain : List ℕ) → AreRepresentatives k (Syntactic k L) words
    → IsLongestChain k (Syntactic k L) words chain → IsJTrivial k (Syntactic k L)
    → Suffices k L (SameSubwords (2 * length chain - 1))
simons_level_suffices k L words chain l h j = level_by_bound k L words l j (length chain) h.most

-- an answer of a search that goes up to this level
pub bounded_by_simon : (k : ℕ) (L : List ℕ → Type 0) (words : List (List ℕ)) (most last : ℕ)
    (a : PtAnswer) → AreRepresentatives k (Syntactic k L) words
    → IsPiecewiseAnswer k L most last a → IsBoundedBySimon k L words last a
bounded_by_simon k L words most last a l g chain h j high n e =
    let none : IsPiecewiseAnswer k L most last (answer.NoneTo n) =
    subst (IsPiecewiseAnswer k L most last) e g in
    no_level_suffices k L most last n none (2 * length chain - 1) (omega (arith, none.1.0, high))
    (simons_level_suffices k L words chain l h j)
