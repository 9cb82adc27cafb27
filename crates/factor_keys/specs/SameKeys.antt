-- To have the same key is a right congruence. It stands here since the law of a trait may cite no
-- file of proofs.
use Rattle.std.proofs.Common.{◌≡◌, ◌↔◌, ◌⊎◌, inl, inr, ℕ, ◌+◌, ◌-◌, ◌<◌, ◌≤◌, List, [], ◌∷◌, ◌++◌, length, take, drop, refl, ap, sym, subst, ◌∙◌, arith, append_assoc}
use Rattle.std.proofs.lemmas.List.{append-nil, take-append-drop, same_from_push, take_at, length-take-le, length_push}
use Rattle.std.proofs.lemmas.Bool.{cases_lt}
use Rattle.language_theory.specs.Words.{IsFactor}
use Rattle.language_theory.specs.Congruence.{IsRightCongruence}
use Rattle.language_theory.proofs.Shortlex.{last_letter}
use Rattle.language_theory.proofs.Congruences.{both_directions, other_direction}
use Rattle.factor_keys.specs.Keys.{prefix, suffix, SameParts, SameKey}
use Rattle.factor_keys.specs.WordParts.{factor_behind, factor_there, factor_short, prefix_whole, prefix_front, suffix_whole, suffix_back, suffix_length, suffix_ends}

-- ---- the parts of a key

pub parts_refl : (n : ℕ) (u : List ℕ) → SameParts n u u
parts_refl n u = record { prefix = refl; suffix = refl; factors = λ x l. (λ f. f, λ f. f) }

pub parts_symm : (n : ℕ) (u v : List ℕ) → SameParts n u v → SameParts n v u
parts_symm n u v h =
    record {
      prefix = sym h.prefix;
      suffix = sym h.suffix;
      factors =
          λ x l. other_direction (h.factors x l);
    }

pub parts_trans : (n : ℕ) (u v w : List ℕ) → SameParts n u v → SameParts n v w → SameParts n u w
parts_trans n u v w h g =
    record {
      prefix = h.prefix ∙ g.prefix;
      suffix = h.suffix ∙ g.suffix;
      factors =
          λ x l. both_directions (h.factors x l) (g.factors x l);
    }

-- a word with the same parts as a shorter one than n is shorter too
short_too : (n : ℕ) (u v : List ℕ) → length u < n → SameParts n u v → length v < n
short_too n u v l h = by (cases_lt (length v) n)
  where
    by : (length v < n) ⊎ (n ≤ length v) → length v < n
    by (inl m) = m
    by (inr m) =
        let e : length (take n v) ≡ n = length-take-le n v m in
        let b : IsFactor (take n v) v =
        factor_there (take n v) v (drop n v, take-append-drop n v) in
        let s = factor_short (take n v) u ((h.factors (take n v) e).1 b) in
        absurd (omega arith)

-- the parts of a word that is shorter than n are the word
parts_of_short : (n : ℕ) (u v : List ℕ) → length u < n → length v < n → SameParts n u v → u ≡ v
parts_of_short n u v l m h = sym (prefix_whole (n - 1) u (omega arith))
    ∙ (h.prefix ∙ prefix_whole (n - 1) v (omega arith))

-- words have the same key exactly where they have the same parts, whatever their lengths
pub key_parts : (n : ℕ) (u v : List ℕ) → SameKey n u v ↔ SameParts n u v
key_parts n u v = (to, from)
  where
    to : SameKey n u v → SameParts n u v
    to (inl (l, m, e)) = subst (SameParts n u) e (parts_refl n u)
    to (inr (l, m, h)) = h

    from : SameParts n u v → SameKey n u v
    from h = elim (cases_lt (length u) n) [
      | inl l ↦ (let m = short_too n u v l h in inl (l, m, parts_of_short n u v l m h))
      | inr l ↦ elim (cases_lt (length v) n) [
        | inl m ↦ (let s = short_too n v u m (parts_symm n u v h) in absurd (omega arith))
        | inr m ↦ inr (l, m, h)
      ]
    ]

-- ---- a letter more

-- x ends w
abbrev pub Ends : List ℕ → List ℕ → Type 0
Ends x w = (p : List ℕ) × (p ++ x ≡ w)

pub ends_suffix : (x w : List ℕ) → Ends x w ↔ (suffix (length x) w ≡ x)
ends_suffix x w = (to, from)
  where
    to : Ends x w → suffix (length x) w ≡ x
    to (p, e) = ap (suffix (length x)) (sym e)
        ∙ (suffix_back (length x) p x (omega arith) ∙ suffix_whole (length x) x (omega arith))

    from : suffix (length x) w ≡ x → Ends x w
    from e = (
      take (length w - length x) w,
      ap (λ (y : List ℕ). take (length w - length x) w ++ y)
          (sym e) ∙ suffix_ends (length x) w,
    )

-- a factor of a word with a letter behind it lies in the word, or ends with the letter
pub factor_last : (y : List ℕ) (b : ℕ) (w : List ℕ) (a : ℕ) → IsFactor (y ++ b ∷ []) (w ++ a ∷ [])
    ↔ (IsFactor (y ++ b ∷ []) w ⊎ ((b ≡ a) × Ends y w))
factor_last y b w a = (to, from)
  where
    to : IsFactor (y ++ b ∷ []) (w ++ a ∷ []) → IsFactor (y ++ b ∷ []) w ⊎ ((b ≡ a) × Ends y w)
    to (p, q, e) = by (last_letter q)
      where
        by : (q ≡ []) ⊎ ((r : List ℕ) × (c : ℕ) × (q ≡ r ++ c ∷ [])) → IsFactor (y ++ b ∷ []) w
            ⊎ ((b ≡ a) × Ends y w)
        by (inl f) =
            let whole : (p ++ y) ++ b ∷ [] ≡ w ++ a ∷ [] =
            append_assoc p y (b ∷ [])
            ∙ (ap (λ (z : List ℕ). p ++ z)
            (sym (append-nil (y ++ b ∷ [])) ∙ ap (λ (r : List ℕ). (y ++ b ∷ []) ++ r) (sym f))
            ∙ e) in
            let (g, h) = same_from_push (p ++ y) w b a whole in
            inr (h, (p, g))
        by (inr (r, c, f)) =
            let whole : (p ++ ((y ++ b ∷ []) ++ r)) ++ c ∷ [] ≡ w ++ a ∷ [] =
            append_assoc p ((y ++ b ∷ []) ++ r) (c ∷ [])
            ∙ (ap (λ (z : List ℕ). p ++ z)
            (append_assoc (y ++ b ∷ []) r (c ∷ [])
            ∙ ap (λ (z : List ℕ). (y ++ b ∷ []) ++ z) (sym f)) ∙ e) in
            let (g, h) = same_from_push (p ++ ((y ++ b ∷ []) ++ r)) w c a whole in
            inl (p, r, g)

    from : IsFactor (y ++ b ∷ []) w ⊎ ((b ≡ a) × Ends y w) → IsFactor (y ++ b ∷ []) (w ++ a ∷ [])
    from (inl f) = factor_behind (y ++ b ∷ []) w (a ∷ []) f
    from (inr (f, (p, e))) = (
      p,
      [],
      ap (λ (z : List ℕ). p ++ z) (append-nil (y ++ b ∷ []))
          ∙ (sym (append_assoc p y (b ∷ []))
          ∙ (ap (λ (z : List ℕ). z ++ b ∷ []) e ∙ ap (λ (c : ℕ). w ++ c ∷ []) f)),
    )

-- the prefix of a word with a letter behind it is fixed by the prefix and the letter
pub prefix_last : (n : ℕ) (w : List ℕ) (a : ℕ) → prefix n (w ++ a ∷ [])
    ≡ prefix n (prefix n w ++ a ∷ [])
prefix_last n w a = elim (cases_lt (length w) n) [
  | inl l ↦ ap (λ (v : List ℕ). prefix n (v ++ a ∷ [])) (sym (prefix_whole n w (omega arith)))
  | inr l ↦ prefix_front n w (a ∷ []) l
      ∙ sym (take_at (prefix n w) (a ∷ []) n (length-take-le n w l))
]

-- the suffix is fixed by the suffix and the letter
pub suffix_last : (n : ℕ) (w : List ℕ) (a : ℕ) → suffix n (w ++ a ∷ [])
    ≡ suffix n (suffix n w ++ a ∷ [])
suffix_last n w a = elim (cases_lt (length w) n) [
  | inl l ↦ ap (λ (v : List ℕ). suffix n (v ++ a ∷ [])) (sym (suffix_whole n w (omega arith)))
  | inr l ↦ (
      let long : length (suffix n w ++ a ∷ []) ≡ n + 1 =
      length_push (suffix n w) a ∙ ap (λ (i : ℕ). i + 1) (suffix_length n w l) in
      ap (λ (v : List ℕ). suffix n (v ++ a ∷ [])) (sym (suffix_ends n w))
      ∙ (ap (suffix n) (append_assoc (take (length w - n) w) (suffix n w) (a ∷ []))
      ∙ suffix_back n (take (length w - n) w) (suffix n w ++ a ∷ []) (omega arith)))
]

-- factors of n letters of a word with a letter behind it are fixed by those of the word, its suffix
-- of n - 1 letters and the letter
factors_last : (n : ℕ) (u v : List ℕ) (a : ℕ) → 1 ≤ n → SameParts n u v → (x : List ℕ) → length x
    ≡ n → IsFactor x (u ++ a ∷ []) → IsFactor x (v ++ a ∷ [])
factors_last n u v a pos h x l f = by (last_letter x)
  where
    by : (x ≡ []) ⊎ ((y : List ℕ) × (b : ℕ) × (x ≡ y ++ b ∷ [])) → IsFactor x (v ++ a ∷ [])
    by (inl e) = let none : length x ≡ 0 = ap length e in absurd (omega arith)
    by (inr (y, b, e)) =
        let more : length (y ++ b ∷ []) ≡ length y + 1 = length_push y b in
        let long : length y ≡ n - 1 = let i = ap length e in omega arith in
        let same : suffix (length y) u ≡ suffix (length y) v =
        subst (λ (m : ℕ). suffix m u ≡ suffix m v) (sym long) h.suffix in
        let g : IsFactor (y ++ b ∷ []) (u ++ a ∷ []) =
        subst (λ (z : List ℕ). IsFactor z (u ++ a ∷ [])) e f in
        let there : IsFactor (y ++ b ∷ []) (v ++ a ∷ []) =
        (factor_last y b v a).1 (elim ((factor_last y b u a).0 g) [
          | inl i ↦ inl ((h.factors (y ++ b ∷ []) (sym (ap length e) ∙ l)).0 i)
          | inr i ↦ inr (i.0, (ends_suffix y v).1 (sym same ∙ (ends_suffix y u).0 i.1))
        ]) in
        subst (λ (z : List ℕ). IsFactor z (v ++ a ∷ [])) (sym e) there

-- the parts of a word with a letter behind it are fixed by the parts of the word and the letter
pub parts_last : (n : ℕ) (u v : List ℕ) (a : ℕ) → 1 ≤ n → SameParts n u v
    → SameParts n (u ++ a ∷ []) (v ++ a ∷ [])
parts_last n u v a pos h = record {
  prefix = prefix_last (n - 1) u a
      ∙ (ap (λ (w : List ℕ). prefix (n - 1) (w ++ a ∷ [])) h.prefix
      ∙ sym (prefix_last (n - 1) v a));
  suffix = suffix_last (n - 1) u a
      ∙ (ap (λ (w : List ℕ). suffix (n - 1) (w ++ a ∷ [])) h.suffix
      ∙ sym (suffix_last (n - 1) v a));
  factors =
      λ x l. (factors_last n u v a pos h x l, factors_last n v u a pos (parts_symm n u v h) x l);
}

pub parts_behind : (n : ℕ) (u v w : List ℕ) → 1 ≤ n → SameParts n u v
    → SameParts n (u ++ w) (v ++ w)
parts_behind n u v [] pos h = subst (λ (x : List ℕ). SameParts n x (v ++ [])) (sym (append-nil u))
    (subst (SameParts n u) (sym (append-nil v)) h)
parts_behind n u v (a ∷ w) pos h =
    let rest : SameParts n ((u ++ a ∷ []) ++ w) ((v ++ a ∷ []) ++ w) =
    parts_behind n (u ++ a ∷ []) (v ++ a ∷ []) w pos (parts_last n u v a pos h) in
    subst (λ (x : List ℕ). SameParts n x (v ++ a ∷ w)) (append_assoc u (a ∷ []) w)
    (subst (SameParts n ((u ++ a ∷ []) ++ w)) (append_assoc v (a ∷ []) w) rest)

-- ---- the law

pub key_congruence : (k n : ℕ) → 1 ≤ n → IsRightCongruence k (SameKey n)
key_congruence k n pos = record {
  equivalence = record {
    refl = λ u o. (key_parts n u u).1 (parts_refl n u);
    symm = λ u v ou ov h. (key_parts n v u).1 (parts_symm n u v ((key_parts n u v).0 h));
    trans = λ u v w ou ov ow h g. (key_parts n u w).1
        (parts_trans n u v w ((key_parts n u v).0 h) ((key_parts n v w).0 g));
  };
  right = λ u v w ou ov ow h. (key_parts n (u ++ w) (v ++ w)).1
      (parts_behind n u v w pos ((key_parts n u v).0 h));
}
