-- Subwords of words that are read backwards.
use Rattle.std.proofs.Common.{◌≡◌, ℕ, ◌≤◌, List, [], ◌∷◌, ◌++◌, reverse, length, sym, subst, subst₂}
use Rattle.std.proofs.lemmas.List.{reverse-append, reverse-reverse, length-reverse}
use Rattle.language_theory.specs.Words.{Over, IsSubword, done, keep, skip}
use Rattle.language_theory.proofs.Shortlex.{over_last}
use Rattle.language_theory.proofs.Deleting.{subword_itself, subword_trans, subword_append}
use Rattle.subword_theory.specs.ShortSubwords.{SameSubwords}
use Rattle.subword_theory.proofs.SameWords.{same_symm}
use Rattle.subword_theory.proofs.Pumping.{subword_front}

pub reverse_first : (a : ℕ) (u : List ℕ) → reverse (a ∷ u) ≡ reverse u ++ a ∷ []
reverse_first a u = reverse-append (a ∷ []) u

pub over_reverse : (k : ℕ) (u : List ℕ) → Over k u → Over k (reverse u)
over_reverse k [] o = tt
over_reverse k (a ∷ u) o =
    subst (Over k) (sym (reverse_first a u))
    (over_last k (reverse u) a (over_reverse k u o.1) o.0)

pub subword_reverse : {u v : List ℕ} → IsSubword u v → IsSubword (reverse u) (reverse v)
subword_reverse done = done
subword_reverse (keep {a = a} {u = u} {v = v} h) =
    subst₂ IsSubword (sym (reverse_first a u)) (sym (reverse_first a v))
    (subword_append (subword_reverse h) (subword_itself (a ∷ [])))
subword_reverse (skip {a = a} {u = u} {v = v} h) =
    subst (IsSubword (reverse u)) (sym (reverse_first a v))
    (subword_trans (subword_reverse h) (subword_front (reverse v) (a ∷ [])))

pub same_reverse : {n : ℕ} {u v : List ℕ} → SameSubwords n u v
    → SameSubwords n (reverse u) (reverse v)
same_reverse {n} {u} {v} s =
    record { of = λ x l. (half u v s x l, half v u (same_symm s) x l) }
  where
    half : (u v : List ℕ) → SameSubwords n u v → (x : List ℕ) → length x ≤ n
        → IsSubword x (reverse u) → IsSubword x (reverse v)
    half u v s x l h =
        let short : length (reverse x) ≤ n =
        subst (λ (m : ℕ). m ≤ n) (sym (length-reverse x)) l in
        let there : IsSubword (reverse x) u =
        subst (IsSubword (reverse x)) (reverse-reverse u) (subword_reverse h) in
        subst (λ (w : List ℕ). IsSubword w (reverse v)) (reverse-reverse x)
        (subword_reverse ((s.of (reverse x) short).0 there))
