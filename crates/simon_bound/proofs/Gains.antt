-- What a list gains, and the rows of a flat list.
use Rattle.std.proofs.Common.{◌≡◌, ◌≢◌, ℕ, ◌+◌, ◌-◌, ◌<◌, ◌≤◌, ◌⊎◌, inl, inr}
use Rattle.std.proofs.Common.{List, [], ◌∷◌, ◌++◌}
use Rattle.std.proofs.Common.{length, slice_index, refl, sym, ap, subst, arith, ◌∙◌, append_assoc}
use Rattle.std.proofs.lemmas.List.{get_or_append_left, get_or-append-add, get_or-append_right}
use Rattle.std.proofs.lemmas.List.{length-append, get_or_push}
use Rattle.std.proofs.lemmas.Bool.{cases_lt, cases_eq}
use Rattle.cayley_tables.specs.CayleyGraphs.{CayleyGraphs}
use Rattle.simon_bound.specs.Steps.{Gains, IsRow, IsStepDown, AreSteps}

pub gains_as : (P Q : ℕ → Type 0) (xs ys : List ℕ) → ((t : ℕ) → P t → Q t)
    → ((t : ℕ) → Q t → P t) → Gains P xs ys → Gains Q xs ys
gains_as P Q xs ys to from a = record {
  more = a.more;
  joined = a.joined;
  each = λ p h. to (slice_index a.more p) (a.each p h);
  all = λ t h. a.all t (from t h);
}

pub gains_then : (P Q : ℕ → Type 0) (xs ys zs : List ℕ) → Gains P xs ys → Gains Q ys zs
    → Gains (λ t. P t ⊎ Q t) xs zs
gains_then P Q xs ys zs a b = record {
  more = a.more ++ b.more;
  joined = b.joined
      ∙ (ap (λ (l : List ℕ). l ++ b.more) a.joined ∙ append_assoc xs a.more b.more);
  each = λ p h. each p h (cases_lt p (length a.more));
  all = all;
}
  where
    each : (p : ℕ) → p < length (a.more ++ b.more) → (p < length a.more) ⊎ (length a.more ≤ p)
        → P (slice_index (a.more ++ b.more) p) ⊎ Q (slice_index (a.more ++ b.more) p)
    each p h (inl l) = inl (subst P (sym (get_or_append_left a.more b.more 0 p l)) (a.each p l))
    each p h (inr g) =
        inr (subst Q (sym (get_or-append_right a.more b.more (length a.more) p 0 refl g))
        (b.each (p - length a.more) (omega (arith, length-append a.more b.more))))

    all : (t : ℕ) → P t ⊎ Q t → (p : ℕ) × (p < length (a.more ++ b.more))
        × (slice_index (a.more ++ b.more) p ≡ t)
    all t (inl h) =
        let (p, l, e) = a.all t h in (
          p,
          omega (arith, length-append a.more b.more),
          get_or_append_left a.more b.more 0 p l ∙ e,
        )
    all t (inr h) =
        let (p, l, e) = b.all t h in (
          length a.more + p,
          omega (arith, length-append a.more b.more),
          get_or-append-add a.more b.more p 0 ∙ e,
        )

-- what was gained is a row
row_gained : (has : ℕ → Type 0) (xs ys : List ℕ) → Gains has xs ys
    → IsRow has (length xs) (length ys) ys
row_gained has xs ys a = record {
  order = omega (arith, long);
  inside = omega arith;
  each = λ p f b. subst has (sym (at p f)) (a.each (p - length xs) (omega (arith, long)));
  all = λ t h. found t (a.all t h);
}
  where
    long : length ys ≡ length xs + length a.more
    long = ap (λ (l : List ℕ). length l) a.joined ∙ length-append xs a.more

    at : (p : ℕ) → length xs ≤ p → slice_index ys p ≡ slice_index a.more (p - length xs)
    at p f = ap (λ (l : List ℕ). slice_index l p) a.joined
        ∙ get_or-append_right xs a.more (length xs) p 0 refl f

    found : (t : ℕ) → (p : ℕ) × (p < length a.more) × (slice_index a.more p ≡ t)
        → (p : ℕ) × (length xs ≤ p) × (p < length ys) × (slice_index ys p ≡ t)
    found t (p, l, e) = (
      length xs + p,
      omega arith,
      omega (arith, long),
      ap (λ (l : List ℕ). slice_index l (length xs + p)) a.joined
          ∙ (get_or-append-add xs a.more p 0 ∙ e),
    )

row_kept : (has : ℕ → Type 0) (f t : ℕ) (xs ys more : List ℕ) → ys ≡ xs ++ more → IsRow has f t xs
    → IsRow has f t ys
row_kept has f t xs ys more j r = record {
  order = r.order;
  inside = omega (arith, r.inside, long);
  each = λ p a b. subst has (sym (at p (omega (arith, r.inside)))) (r.each p a b);
  all = λ x h. found x (r.all x h);
}
  where
    long : length ys ≡ length xs + length more
    long = ap (λ (l : List ℕ). length l) j ∙ length-append xs more

    at : (p : ℕ) → p < length xs → slice_index ys p ≡ slice_index xs p
    at p l = ap (λ (l : List ℕ). slice_index l p) j ∙ get_or_append_left xs more 0 p l

    found : (x : ℕ) → (p : ℕ) × (f ≤ p) × (p < t) × (slice_index xs p ≡ x)
        → (p : ℕ) × (f ≤ p) × (p < t) × (slice_index ys p ≡ x)
    found x (p, a, b, e) = (p, a, b, at p (omega (arith, r.inside)) ∙ e)

row_as : (has : ℕ → Type 0) (f g t u : ℕ) (xs : List ℕ) → g ≡ f → u ≡ t → IsRow has f t xs
    → IsRow has g u xs
row_as has f g t u xs e d r =
    subst (λ (z : ℕ). IsRow has z u xs) (sym e) (subst (λ (z : ℕ). IsRow has f z xs) (sym d) r)

-- the row of one class more
pub steps_next : (g : CayleyGraphs) (labels : List ℕ) (i : ℕ) (starts xs ys : List ℕ)
    → AreSteps g labels i starts xs → Gains (IsStepDown g labels 0 i) xs ys
    → AreSteps g labels (i + 1) (starts ++ length ys ∷ []) ys
steps_next g labels i starts xs ys h a = record {
  long = omega (arith, length-append starts (length ys ∷ []), h.long);
  end = last;
  row = λ c b. row c b (cases_eq c i);
}
  where
    last : slice_index (starts ++ length ys ∷ []) (i + 1) ≡ length ys
    last = get_or_push starts (length ys) 0 (i + 1) h.long

    kept : (c : ℕ) → c < i + 1
        → slice_index (starts ++ length ys ∷ []) c ≡ slice_index starts c
    kept c b = get_or_append_left starts (length ys ∷ []) 0 c (omega (arith, h.long))

    row : (c : ℕ) → c < i + 1 → (c ≡ i) ⊎ (c ≢ i)
        → IsRow (IsStepDown g labels 0 c) (slice_index (starts ++ length ys ∷ []) c)
        (slice_index (starts ++ length ys ∷ []) (c + 1)) ys
    row c b (inl e) =
        let first : slice_index (starts ++ length ys ∷ []) c ≡ length xs =
        kept c b ∙ (ap (λ (z : ℕ). slice_index starts z) e ∙ h.end) in
        let after : slice_index (starts ++ length ys ∷ []) (c + 1) ≡ length ys =
        ap (λ (z : ℕ). slice_index (starts ++ length ys ∷ []) (z + 1)) e ∙ last in
        row_as (IsStepDown g labels 0 c) (length xs) _ (length ys) _ ys first after
        (subst (λ (z : ℕ). IsRow (IsStepDown g labels 0 z) (length xs) (length ys) ys) (sym e)
        (row_gained (IsStepDown g labels 0 i) xs ys a))
    row c b (inr n) =
        row_as (IsStepDown g labels 0 c) (slice_index starts c) _ (slice_index starts (c + 1)) _ ys
        (kept c b) (kept (c + 1) (omega arith))
        (row_kept (IsStepDown g labels 0 c) (slice_index starts c) (slice_index starts (c + 1)) xs
        ys a.more a.joined (h.row c (omega arith)))
