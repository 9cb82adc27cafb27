-- The steps from an element and from a class, letter by letter and member by member.
use Rattle.std.proofs.Common.{◌≡◌, ◌≢◌, ℕ, ◌+◌, ◌<◌, ◌≤◌, ◌⊎◌, inl, inr, List, [], ◌∷◌, ◌++◌}
use Rattle.std.proofs.Common.{length, slice_index, set, sym, ap, subst, arith, ◌∙◌}
use Rattle.std.proofs.lemmas.List.{get_or_append_left, length-append, get_or_push, length-set}
use Rattle.std.proofs.lemmas.List.{get_or-set_same, get_or-set_other}
use Rattle.std.proofs.lemmas.Bool.{cases_lt, cases_eq}
use Rattle.language_theory.specs.ShortlexGraph.{target}
use Rattle.cayley_tables.specs.CayleyGraphs.{CayleyGraphs}
use Rattle.simon_bound.specs.MemberLists.{IsLast, AreMemberLists}
use Rattle.simon_bound.specs.Steps.{Gains, IsStep, IsStepDown}
use Rattle.simon_bound.proofs.Gains.{gains_then, gains_as}

-- one member more
pub members_next : (labels : List ℕ) (n i c : ℕ) (lasts before : List ℕ)
    → AreMemberLists labels n i lasts before → c < n → c ≡ slice_index labels i
    → AreMemberLists labels n (i + 1) (set lasts c (i + 1)) (before ++ slice_index lasts c ∷ [])
members_next labels n i c lasts before h cn e = record {
  classes = length-set lasts c (i + 1) ∙ h.classes;
  long = omega (arith, length-append before (slice_index lasts c ∷ []), h.long);
  last = λ d dn. last d dn (cases_eq d c);
  earlier = λ x b. earlier x b (cases_eq x i);
}
  where
    last : (d : ℕ) → d < n → (d ≡ c) ⊎ (d ≢ c)
        → IsLast labels (i + 1) d (slice_index (set lasts c (i + 1)) d)
    last d dn (inl s) =
        subst (λ (r : ℕ). IsLast labels (i + 1) d r)
        (sym (ap (λ (z : ℕ). slice_index (set lasts c (i + 1)) z) s
        ∙ get_or-set_same lasts c (i + 1) 0 (omega (arith, h.classes)))) (record {
          below = omega arith;
          greatest = λ x b f. omega arith;
          member = λ x f. let same : x ≡ i = omega arith in
              ap (λ (z : ℕ). slice_index labels z) same ∙ (sym e ∙ sym s);
        })
    last d dn (inr o) =
        subst (λ (r : ℕ). IsLast labels (i + 1) d r)
        (sym (get_or-set_other lasts c d (i + 1) 0 o)) (record {
          below = omega (arith, (h.last d dn).below);
          greatest = λ x b f. older x f (cases_eq x i) b;
          member = (h.last d dn).member;
        })
      where
        older : (x : ℕ) → slice_index labels x ≡ d → (x ≡ i) ⊎ (x ≢ i) → x < i + 1
            → x < slice_index lasts d
        older x f (inl s) b =
            absurd (o (sym f ∙ (ap (λ (z : ℕ). slice_index labels z) s ∙ sym e)))
        older x f (inr s) b = (h.last d dn).greatest x (omega arith) f

    earlier : (x : ℕ) → x < i + 1 → (x ≡ i) ⊎ (x ≢ i)
        → IsLast labels x (slice_index labels x)
        (slice_index (before ++ slice_index lasts c ∷ []) x)
    earlier x b (inl s) =
        subst (λ (z : ℕ). IsLast labels z (slice_index labels z)
        (slice_index (before ++ slice_index lasts c ∷ []) z)) (sym s)
        (subst (λ (r : ℕ). IsLast labels i (slice_index labels i) r)
        (sym (get_or_push before (slice_index lasts c) 0 i h.long))
        (subst (λ (d : ℕ). IsLast labels i d (slice_index lasts c)) e (h.last c cn)))
    earlier x b (inr s) =
        subst (λ (r : ℕ). IsLast labels x (slice_index labels x) r)
        (sym (get_or_append_left before (slice_index lasts c ∷ []) 0 x (omega (arith, h.long))))
        (h.earlier x (omega arith))

-- one letter more
pub step_next : (g : CayleyGraphs) (labels : List ℕ) (b x u v own : ℕ) (xs ys zs ws : List ℕ)
    → u ≡ slice_index labels (target g.right x b) → v ≡ slice_index labels (target g.left x b)
    → own ≡ slice_index labels x → Gains (IsStep g labels b x) xs ys
    → Gains (λ t. (t ≡ u) × (own ≢ t)) ys zs → Gains (λ t. (t ≡ v) × (own ≢ t)) zs ws
    → Gains (IsStep g labels (b + 1) x) xs ws
step_next g labels b x u v own xs ys zs ws eu ev eo h f d =
    gains_as All (IsStep g labels (b + 1) x) xs ws to from
    (gains_then Before (λ t. (t ≡ v) × (own ≢ t)) xs zs ws
    (gains_then (IsStep g labels b x) (λ t. (t ≡ u) × (own ≢ t)) xs ys zs h f) d)
  where
    Before : ℕ → Type 0
    Before t = IsStep g labels b x t ⊎ ((t ≡ u) × (own ≢ t))

    All : ℕ → Type 0
    All t = Before t ⊎ ((t ≡ v) × (own ≢ t))

    to : (t : ℕ) → All t → IsStep g labels (b + 1) x t
    to t (inl (inl s)) = record {
      letter = s.letter;
      below = omega (arith, s.below);
      into = s.into;
      other = s.other;
    }
    to t (inl (inr (e, o))) = record {
      letter = b;
      below = omega arith;
      into = inl (e ∙ eu);
      other = λ q. o (eo ∙ q);
    }
    to t (inr (e, o)) = record {
      letter = b;
      below = omega arith;
      into = inr (e ∙ ev);
      other = λ q. o (eo ∙ q);
    }

    from : (t : ℕ) → IsStep g labels (b + 1) x t → All t
    from t s = by (cases_eq s.letter b) s.into
      where
        by : (s.letter ≡ b) ⊎ (s.letter ≢ b)
            → (t ≡ slice_index labels (target g.right x s.letter))
            ⊎ (t ≡ slice_index labels (target g.left x s.letter)) → All t
        by (inl e) (inl i) = inl (inr (
          i ∙ (ap (λ (z : ℕ). slice_index labels (target g.right x z)) e ∙ sym eu),
          λ q. s.other (sym eo ∙ q),
        ))
        by (inl e) (inr i) = inr (
          i ∙ (ap (λ (z : ℕ). slice_index labels (target g.left x z)) e ∙ sym ev),
          λ q. s.other (sym eo ∙ q),
        )
        by (inr n) i = inl (inl (record {
          letter = s.letter;
          below = omega (arith, s.below);
          into = i;
          other = s.other;
        }))

-- one member more
pub step_down_next : (g : CayleyGraphs) (labels : List ℕ) (c x r q : ℕ) (xs ys zs : List ℕ)
    → r ≡ x + 1 → slice_index labels x ≡ c → x < length g.words → IsLast labels x c q
    → Gains (IsStepDown g labels r c) xs ys → Gains (IsStep g labels g.right.letters x) ys zs
    → Gains (IsStepDown g labels q c) xs zs
step_down_next g labels c x r q xs ys zs er ec b l h f =
    gains_as All (IsStepDown g labels q c) xs zs to from
    (gains_then (IsStepDown g labels r c) (IsStep g labels g.right.letters x) xs ys zs h f)
  where
    All : ℕ → Type 0
    All t = IsStepDown g labels r c t ⊎ IsStep g labels g.right.letters x t

    to : (t : ℕ) → All t → IsStepDown g labels q c t
    to t (inl s) = record {
      member = s.member;
      from = omega (arith, s.from, l.below);
      within = s.within;
      inside = s.inside;
      step = s.step;
    }
    to t (inr s) = record {
      member = x;
      from = l.below;
      within = b;
      inside = ec;
      step = s;
    }

    from : (t : ℕ) → IsStepDown g labels q c t → All t
    from t s = by (cases_lt s.member x) (cases_eq s.member x)
      where
        by : (s.member < x) ⊎ (x ≤ s.member) → (s.member ≡ x) ⊎ (s.member ≢ x) → All t
        by (inl lt) e = absurd (omega (arith, s.from, l.greatest s.member lt s.inside))
        by (inr ge) (inl e) =
            inr (subst (λ (z : ℕ). IsStep g labels g.right.letters z t) e s.step)
        by (inr ge) (inr n) = inl (record {
          member = s.member;
          from = omega arith;
          within = s.within;
          inside = s.inside;
          step = s.step;
        })
