-- Two words with the same short subwords are both subwords of a third one that has the same ones
-- (Simon 1975).
use Rattle.std.proofs.Common.{◌≡◌, ◌≢◌, ◌⊎◌, inl, inr, ℕ, zero, suc, ◌+◌, ◌<◌, ◌≤◌, List, [], ◌∷◌, ◌++◌, length, sym, subst, subst₂, arith, append_assoc, length-append}
use Rattle.std.proofs.lemmas.Bool.{cases_lt}
use Rattle.language_theory.specs.Words.{Over, IsSubword, keep, skip}
use Rattle.language_theory.proofs.Numbers.{equal_or_not}
use Rattle.language_theory.proofs.Shortlex.{over_append, over_prefix, over_suffix}
use Rattle.language_theory.proofs.Deleting.{subword_nil, subword_itself, subword_trans, subword_append, subword_split, subword_insert, subword_further}
use Rattle.subword_theory.specs.ShortSubwords.{SameSubwords}
use Rattle.subword_theory.proofs.SameWords.{same_refl, same_symm, same_trans, same_of_subword}
use Rattle.subword_theory.proofs.Finding.{HasShort, LacksShort, has_or_lacks, passes}

-- ---- a letter that cannot be put in

-- r b t is short, r is in x and t in z, but x z does not have it: so b cannot be put in between
pub record IsMissed (n : ℕ) (x : List ℕ) (b : ℕ) (z r t : List ℕ) : Type 0 where
  pub short : length r + length t + 1 ≤ n
  pub before : IsSubword r x
  pub after : IsSubword t z
  pub not_before : ¬ IsSubword (r ++ b ∷ []) x
  pub not : ¬ IsSubword (r ++ b ∷ t) (x ++ z)

abbrev Misses : ℕ → List ℕ → ℕ → List ℕ → Type 0
Misses n x b z = (r t : List ℕ) × IsMissed n x b z r t

missed : (n : ℕ) (x : List ℕ) (b : ℕ) (z w : List ℕ) → length w ≤ n → IsSubword w (x ++ b ∷ z)
    → ¬ IsSubword w (x ++ z) → Misses n x b z
missed n x b z w l h m = by (subword_split x (b ∷ z) w h)
  where
    parts : (r s : List ℕ) → r ++ s ≡ w → IsSubword r x → IsSubword s (b ∷ z) → Misses n x b z
    parts r s e f (skip g) =
        absurd (m (subst (λ (y : List ℕ). IsSubword y (x ++ z)) e (subword_append f g)))
    parts r s e f (keep {u = t} g) = (
      r,
      t,
      record {
        short = (let size = length-append r (b ∷ t) in let i = whole in omega arith);
        before = f;
        after = g;
        not_before = λ i. lacks (rw append_assoc at (subword_append i g));
        not = lacks;
      },
    )
      where
        whole : length (r ++ b ∷ t) ≤ n
        whole = subst (λ (y : List ℕ). length y ≤ n) (sym e) l

        lacks : ¬ IsSubword (r ++ b ∷ t) (x ++ z)
        lacks i = m (subst (λ (y : List ℕ). IsSubword y (x ++ z)) e i)

    by : (r s : List ℕ) × (r ++ s ≡ w) × IsSubword r x × IsSubword s (b ∷ z) → Misses n x b z
    by (r, s, e, f, g) = parts r s e f g

-- a letter can be put in, or a short subword is missed
fits_or_misses : (n : ℕ) (x : List ℕ) (b : ℕ) (z : List ℕ)
    → SameSubwords n (x ++ z) (x ++ b ∷ z) ⊎ Misses n x b z
fits_or_misses n x b z = by (has_or_lacks n (x ++ b ∷ z) (x ++ z))
  where
    by : HasShort n (x ++ b ∷ z) (x ++ z) ⊎ LacksShort n (x ++ b ∷ z) (x ++ z)
        → SameSubwords n (x ++ z) (x ++ b ∷ z) ⊎ Misses n x b z
    by (inl f) = inl (same_of_subword n (x ++ z) (x ++ b ∷ z) (subword_insert x b z) f)
    by (inr (w, l, h, m)) = inr (missed n x b z w l h m)

-- ---- where two words part

-- t is in a p, so in a word that begins with a and goes on in p
begun : (a : ℕ) (p t : List ℕ) → IsSubword t (a ∷ p) → (y : List ℕ) × IsSubword t (a ∷ y)
    × IsSubword y p × (length y ≤ length t)
begun a p t (keep {u = y} h) = (y, subword_itself (a ∷ y), h, omega arith)
begun a p t (skip h) = (t, skip (subword_itself t), h, omega arith)

-- the words x a p and x b q part after x, and have the same subwords of at most n letters
pub record Part (n : ℕ) (x : List ℕ) (a b : ℕ) (p q : List ℕ) : Type 0 where
  pub differ : a ≢ b
  pub same : SameSubwords n (x ++ a ∷ p) (x ++ b ∷ q)

parted_turned : {n : ℕ} {x : List ℕ} {a b : ℕ} {p q : List ℕ} → Part n x a b p q
    → Part n x b a q p
parted_turned h = record { differ = λ e. h.differ (sym e); same = same_symm h.same }

-- x b a p does not miss r b t where s a is not in x and is short enough
no_miss : (n : ℕ) (x : List ℕ) (a b : ℕ) (p q r t s : List ℕ) → Part n x a b p q
    → IsMissed n x b (a ∷ p) r t → IsSubword s x → ¬ IsSubword (s ++ a ∷ []) x
    → length s + length t + 1 ≤ n → ⊥
no_miss n x a b p q r t s d h f m l = by (begun a p t h.after)
  where
    by : (y : List ℕ) × IsSubword t (a ∷ y) × IsSubword y p × (length y ≤ length t) → ⊥
    by (y, g, i, c) =
        let s_size = length-append s (a ∷ y) in
        let r_size = length-append r (b ∷ t) in
        let there : IsSubword (s ++ a ∷ y) (x ++ b ∷ q) =
        (d.same.of (s ++ a ∷ y) (omega arith)).0 (subword_append f (keep i)) in
        let behind : IsSubword (a ∷ y) (b ∷ q) =
        elim (passes s x a y (b ∷ q) there) [ inl e ↦ absurd (m e) | inr e ↦ e ] in
        let whole : IsSubword (r ++ b ∷ t) (x ++ b ∷ q) =
        subword_append h.before (keep (subword_trans g (subword_further d.differ behind))) in
        h.not ((d.same.of (r ++ b ∷ t) (omega (arith, h.short, r_size))).1 whole)

not_both_miss : (n : ℕ) (x : List ℕ) (a b : ℕ) (p q r t s y : List ℕ) → Part n x a b p q
    → IsMissed n x b (a ∷ p) r t → IsMissed n x a (b ∷ q) s y → ⊥
not_both_miss n x a b p q r t s y d h g = elim (cases_lt n (length s + length t + 1)) [
  | inr l ↦ no_miss n x a b p q r t s d h g.before g.not_before l
  | inl l ↦ no_miss n x b a q p s y r (parted_turned d) g h.before h.not_before
      (omega (arith, l, h.short, g.short))
]

-- one of the letters at which two words part can be put into the other word
abbrev OneFits : ℕ → List ℕ → ℕ → ℕ → List ℕ → List ℕ → Type 0
OneFits n x a b p q =
    SameSubwords n (x ++ a ∷ p) (x ++ b ∷ (a ∷ p)) ⊎ SameSubwords n (x ++ b ∷ q) (x ++ a ∷ (b ∷ q))

one_fits : (n : ℕ) (x : List ℕ) (a b : ℕ) (p q : List ℕ) → Part n x a b p q → OneFits n x a b p q
one_fits n x a b p q d = by (fits_or_misses n x b (a ∷ p)) (fits_or_misses n x a (b ∷ q))
  where
    by : SameSubwords n (x ++ a ∷ p) (x ++ b ∷ (a ∷ p)) ⊎ Misses n x b (a ∷ p)
        → SameSubwords n (x ++ b ∷ q) (x ++ a ∷ (b ∷ q)) ⊎ Misses n x a (b ∷ q)
        → OneFits n x a b p q
    by (inl s) y = inl s
    by (inr h) (inl s) = inr s
    by (inr (r, t, h)) (inr (s, y, g)) = absurd (not_both_miss n x a b p q r t s y d h g)

-- ---- the common longer word

-- both words are subwords of w, which has the same subwords of at most n letters as u, and no
-- letters of its own
pub record IsCommonLonger (n : ℕ) (u v w : List ℕ) : Type 0 where
  pub first : IsSubword u w
  pub second : IsSubword v w
  pub same : SameSubwords n u w
  pub over : (k : ℕ) → Over k u → Over k v → Over k w

over_put : (k : ℕ) (x : List ℕ) (b : ℕ) (z : List ℕ) → Over k (x ++ z) → b < k
    → Over k (x ++ b ∷ z)
over_put k x b z o l =
    over_append k x (b ∷ z) (over_prefix k x z o) (l, over_suffix k x z o)

-- if the words have the same subwords of at most n letters, then they have a common longer word
abbrev Meet : ℕ → List ℕ → List ℕ → Type 0
Meet n u v = SameSubwords n u v → (w : List ℕ) × IsCommonLonger n u v w

meet_after : (n : ℕ) (x : List ℕ) (c : ℕ) (p q : List ℕ)
    → Meet n ((x ++ c ∷ []) ++ p) ((x ++ c ∷ []) ++ q) → Meet n (x ++ c ∷ p) (x ++ c ∷ q)
meet_after n x c p q h =
    subst₂ (Meet n) (append_assoc x (c ∷ []) p) (append_assoc x (c ∷ []) q) h

module _ (n : ℕ) (x : List ℕ) (a b : ℕ) (p q : List ℕ)
    (s : SameSubwords n (x ++ a ∷ p) (x ++ b ∷ q)) where
  put_into_first : Meet n (x ++ b ∷ (a ∷ p)) (x ++ b ∷ q)
      → SameSubwords n (x ++ a ∷ p) (x ++ b ∷ (a ∷ p))
      → (w : List ℕ) × IsCommonLonger n (x ++ a ∷ p) (x ++ b ∷ q) w
  put_into_first meet e = by (meet (same_trans (same_symm e) s))
    where
      by : (w : List ℕ) × IsCommonLonger n (x ++ b ∷ (a ∷ p)) (x ++ b ∷ q) w
          → (w : List ℕ) × IsCommonLonger n (x ++ a ∷ p) (x ++ b ∷ q) w
      by (w, h) = (
        w,
        record {
          first = subword_trans (subword_insert x b (a ∷ p)) h.first;
          second = h.second;
          same = same_trans e h.same;
          over = λ k ou ov. h.over k
              (over_put k x b (a ∷ p) ou (over_suffix k x (b ∷ q) ov).0) ov;
        },
      )

  put_into_second : Meet n (x ++ a ∷ p) (x ++ a ∷ (b ∷ q))
      → SameSubwords n (x ++ b ∷ q) (x ++ a ∷ (b ∷ q))
      → (w : List ℕ) × IsCommonLonger n (x ++ a ∷ p) (x ++ b ∷ q) w
  put_into_second meet e = by (meet (same_trans s e))
    where
      by : (w : List ℕ) × IsCommonLonger n (x ++ a ∷ p) (x ++ a ∷ (b ∷ q)) w
          → (w : List ℕ) × IsCommonLonger n (x ++ a ∷ p) (x ++ b ∷ q) w
      by (w, h) = (
        w,
        record {
          first = h.first;
          second = subword_trans (subword_insert x a (b ∷ q)) h.second;
          same = h.same;
          over = λ k ou ov. h.over k ou
              (over_put k x a (b ∷ q) ov (over_suffix k x (a ∷ p) ou).0);
        },
      )

-- the words x p and x q, where p and q have at most m letters together
meet_within : (m n : ℕ) (x p q : List ℕ) → length p + length q ≤ m → Meet n (x ++ p) (x ++ q)
meet_within m n x [] q l s = (
  x ++ q,
  record {
    first = subword_append (subword_itself x) (subword_nil q);
    second = subword_itself (x ++ q);
    same = s;
    over = λ k ou ov. ov;
  },
)
meet_within m n x (a ∷ p) [] l s = (
  x ++ a ∷ p,
  record {
    first = subword_itself (x ++ a ∷ p);
    second = subword_append (subword_itself x) (subword_nil (a ∷ p));
    same = same_refl n (x ++ a ∷ p);
    over = λ k ou ov. ou;
  },
)
meet_within zero n x (a ∷ p) (b ∷ q) l s = absurd (omega arith)
meet_within (suc m) n x (a ∷ p) (b ∷ q) l s =
    by (equal_or_not a b)
    (meet_after n x a p q (meet_within m n (x ++ a ∷ []) p q (omega arith)))
    (meet_after n x b (a ∷ p) q (meet_within m n (x ++ b ∷ []) (a ∷ p) q (omega arith)))
    (meet_after n x a p (b ∷ q) (meet_within m n (x ++ a ∷ []) p (b ∷ q) (omega arith)))
  where
    by : (a ≡ b) ⊎ (a ≢ b) → Meet n (x ++ a ∷ p) (x ++ a ∷ q)
        → Meet n (x ++ b ∷ (a ∷ p)) (x ++ b ∷ q) → Meet n (x ++ a ∷ p) (x ++ a ∷ (b ∷ q))
        → (w : List ℕ) × IsCommonLonger n (x ++ a ∷ p) (x ++ b ∷ q) w
    by (inl e) f g h = subst (λ (c : ℕ). Meet n (x ++ a ∷ p) (x ++ c ∷ q)) e f s
    by (inr d) f g h =
        elim (one_fits n x a b p q (record { differ = d; same = s })) [
          | inl e ↦ put_into_first n x a b p q s g e
          | inr e ↦ put_into_second n x a b p q s h e
        ]

pub common_longer : (n : ℕ) (u v : List ℕ) → SameSubwords n u v
    → (w : List ℕ) × IsCommonLonger n u v w
common_longer n u v s = meet_within (length u + length v) n [] u v (omega arith) s
