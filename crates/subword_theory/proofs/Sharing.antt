-- A letter that is put in between two words and adds no short subword is shared out between them
-- (Simon 1975).
use Rattle.std.proofs.Common.{◌⊎◌, inl, inr, ℕ, zero, suc, ◌+◌, ◌-◌, ◌<◌, ◌≤◌, List, [], ◌∷◌, ◌++◌, length, sym, subst, arith, length-append}
use Rattle.language_theory.specs.Words.{IsSubword, keep, skip}
use Rattle.language_theory.proofs.Deleting.{subword_itself, subword_append}
use Rattle.subword_theory.specs.ShortSubwords.{SameSubwords}
use Rattle.subword_theory.proofs.SameWords.{same_of_subword, same_zero}
use Rattle.subword_theory.proofs.Pumping.{subword_front}
use Rattle.subword_theory.proofs.Endings.{EndsIn, ends_in}
use Rattle.subword_theory.proofs.Finding.{HasShort, LacksShort, has_or_lacks, passes}

-- the letter a behind u adds no subword of at most i letters, and x a is no subword of u where x is
-- one of at most i letters
pub record IsLastKept (u : List ℕ) (a i : ℕ) (x : List ℕ) : Type 0 where
  pub kept : SameSubwords i u (u ++ a ∷ [])
  pub long : length x ≤ i
  pub is : IsSubword x u
  pub not : ¬ IsSubword (x ++ a ∷ []) u

-- the letter a behind u adds a subword of at most n letters
abbrev AddsShort : ℕ → List ℕ → ℕ → Type 0
AddsShort n u a = (i : ℕ) × (i < n) × (x : List ℕ) × IsLastKept u a i x

kept_or_added : (n : ℕ) (u : List ℕ) (a : ℕ) → SameSubwords n u (u ++ a ∷ []) ⊎ AddsShort n u a
kept_or_added zero u a = inl (same_zero u (u ++ a ∷ []))
kept_or_added (suc n) u a = by (kept_or_added n u a) (has_or_lacks (suc n) (u ++ a ∷ []) u)
  where
    added : SameSubwords n u (u ++ a ∷ []) → (z : List ℕ) → length z ≤ suc n → ¬ IsSubword z u
        → EndsIn u a z → AddsShort (suc n) u a
    added s z l m (inl h) = absurd (m h)
    added s z l m (inr (x, h, e)) =
        let long : length (x ++ a ∷ []) ≤ suc n =
        subst (λ (w : List ℕ). length w ≤ suc n) e l in
        let one = length-append x (a ∷ []) in (
          n,
          omega arith,
          x,
          record {
            kept = s;
            long = omega arith;
            is = h;
            not = λ g. m (subst (λ (w : List ℕ). IsSubword w u) (sym e) g);
          },
        )

    by : SameSubwords n u (u ++ a ∷ []) ⊎ AddsShort n u a
        → HasShort (suc n) (u ++ a ∷ []) u ⊎ LacksShort (suc n) (u ++ a ∷ []) u
        → SameSubwords (suc n) u (u ++ a ∷ []) ⊎ AddsShort (suc n) u a
    by (inr (i, l, x, h)) y = inr (i, omega arith, x, h)
    by (inl s) (inl f) =
        inl (same_of_subword (suc n) u (u ++ a ∷ []) (subword_front u (a ∷ [])) f)
    by (inl s) (inr (z, l, h, m)) = inr (added s z l m (ends_in u a z h))

-- how the letter a between u and v is shared out: behind u it adds no subword of at most i letters,
-- before v none of at most j
abbrev pub IsSharedOut : ℕ → List ℕ → ℕ → List ℕ → Type 0
IsSharedOut n u a v = (i j : ℕ) × (n ≤ i + j) × SameSubwords i u (u ++ a ∷ [])
    × SameSubwords j v (a ∷ v)

pub shared_out : (n : ℕ) (u : List ℕ) (a : ℕ) (v : List ℕ)
    → SameSubwords n (u ++ v) (u ++ a ∷ v) → IsSharedOut n u a v
shared_out n u a v s = by (kept_or_added n u a)
  where
    behind : (i : ℕ) (x : List ℕ) → i < n → IsLastKept u a i x → HasShort (n - i) (a ∷ v) v
    behind i x l h y m (skip g) = g
    behind i x l h y m (keep {u = t} g) =
        let size = length-append x (a ∷ t) in
        let short : length (x ++ a ∷ t) ≤ n = omega (arith, h.long, size) in
        let there : IsSubword (x ++ a ∷ t) (u ++ v) =
        (s.of (x ++ a ∷ t) short).1 (subword_append h.is (keep g)) in
        elim (passes x u a t v there) [ inl e ↦ absurd (h.not e) | inr e ↦ e ]

    by : SameSubwords n u (u ++ a ∷ []) ⊎ AddsShort n u a → IsSharedOut n u a v
    by (inl h) = (n, 0, omega arith, h, same_zero v (a ∷ v))
    by (inr (i, l, x, h)) = (
      i,
      n - i,
      omega arith,
      h.kept,
      same_of_subword (n - i) v (a ∷ v) (skip (subword_itself v)) (behind i x l h),
    )
