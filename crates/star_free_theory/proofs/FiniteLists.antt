-- Finite lists of elements: membership, counting, and the local divisor as a list.
use Rattle.std.proofs.Common.{◌≡◌, ℕ, suc, ◌≤◌, ◌<◌, Bool, true, List, [], ◌∷◌, sym, subst, ◌∙◌, ap}
use Rattle.std.proofs.Common.{refl, ◌⊎◌, inl, inr, arith, length, map}
use Rattle.std.proofs.lemmas.Bool.Decides.{eqb_tells}
use Rattle.std.proofs.lemmas.Bool.{eq-eqb, cases_Bool}
use Rattle.star_free_theory.specs.Construction.{factor, has, keep, local_elements, local_product}
use Rattle.star_free_theory.specs.Construction.{without}
use Rattle.star_free_theory.specs.Instance.{Among, Distinct}
use Rattle.star_free_theory.specs.LocalDivisor.{HasSettlingPowers, InLocal, IsLocal, IsMonoid}
use Rattle.star_free_theory.proofs.LocalDivisor.{identity_not_local, local_in}

pub among_has : (xs : List ℕ) (x : ℕ) → Among xs x → has xs x ≡ true
among_has [] x i = elim i [ ]
among_has (y ∷ ys) x (inl e) = rw (eq-eqb x y e) refl
among_has (y ∷ ys) x (inr i) = elim (eqb_tells x y)
    [ inl k ↦ rw k.0 refl | inr k ↦ rw k.0 (among_has ys x i) ]

pub has_among : (xs : List ℕ) (x : ℕ) → has xs x ≡ true → Among xs x
has_among [] x e = cc
has_among (y ∷ ys) x e = elim (eqb_tells x y)
    [ inl k ↦ inl k.1 | inr k ↦ inr (has_among ys x (rw k.0 at e)) ]

pub among_or : (xs : List ℕ) (x : ℕ) → Among xs x ⊎ ¬ (Among xs x)
among_or [] x = inr (λ i. i)
among_or (y ∷ ys) x = elim (eqb_tells x y) [
  | inl k ↦ inl (inl k.1)
  | inr k ↦ elim (among_or ys x)
      [ inl i ↦ inl (inr i) | inr n ↦ inr (elim [ inl e ↦ k.1 e | inr i ↦ n i ]) ]
]

pub among_map : (f : ℕ → ℕ) (xs : List ℕ) (x : ℕ) → Among xs x → Among (map f xs) (f x)
among_map f [] x i = elim i [ ]
among_map f (y ∷ ys) x (inl e) = inl (ap f e)
among_map f (y ∷ ys) x (inr i) = inr (among_map f ys x i)

pub map_among : (f : ℕ → ℕ) (xs : List ℕ) (a : ℕ) → Among (map f xs) a → (s : ℕ) × Among xs s
    × (a ≡ f s)
map_among f [] a i = elim i [ ]
map_among f (y ∷ ys) a (inl e) = (y, inl refl, e)
map_among f (y ∷ ys) a (inr i) = let r = map_among f ys a i in (r.0, inr r.1, r.2)

pub among_keep : (p : ℕ → Bool) (xs : List ℕ) (x : ℕ) → Among xs x → p x ≡ true
    → Among (keep p xs) x
among_keep p [] x i e = elim i [ ]
among_keep p (y ∷ ys) x i e = elim (cases_Bool (p y)) [
  | inl k ↦ rw k (elim i [ inl f ↦ inl f | inr j ↦ inr (among_keep p ys x j e) ])
  | inr k ↦ rw k (elim i
      [ inl f ↦ absurd (let g : p x ≡ p y = ap p f in cc) | inr j ↦ among_keep p ys x j e ])
]

pub keep_among : (p : ℕ → Bool) (xs : List ℕ) (x : ℕ) → Among (keep p xs) x → Among xs x
    × (p x ≡ true)
keep_among p [] x i = elim i [ ]
keep_among p (y ∷ ys) x i = elim (cases_Bool (p y)) [
  | inl k ↦ elim (rw k at i) [
    | inl f ↦ (inl f, ap p f ∙ k)
    | inr j ↦ let r = keep_among p ys x j in
        (inr r.0, r.1)
  ]
  | inr k ↦ let r = keep_among p ys x (rw k at i) in (inr r.0, r.1)
]

pub distinct_keep : (p : ℕ → Bool) (xs : List ℕ) → Distinct xs → Distinct (keep p xs)
distinct_keep p [] d = tt
distinct_keep p (y ∷ ys) d = elim (cases_Bool (p y)) [
  | inl k ↦ rw k ((λ i. d.0 (keep_among p ys y i).0), distinct_keep p ys d.1)
  | inr k ↦ rw k (distinct_keep p ys d.1)
]

pub without_among : (c : ℕ) (xs : List ℕ) (x : ℕ) → Among (without c xs) x → Among xs x × ¬ (x ≡ c)
without_among c [] x i = elim i [ ]
without_among c (y ∷ ys) x i = elim (eqb_tells y c) [
  | inl k ↦ let r = without_among c ys x (rw k.0 at i) in (inr r.0, r.1)
  | inr k ↦ elim (rw k.0 at i) [
    | inl e ↦ (inl e, λ f. k.1 (sym e ∙ f))
    | inr j ↦ let r = without_among c ys x j in
        (inr r.0, r.1)
  ]
]

pub among_without : (c : ℕ) (xs : List ℕ) (x : ℕ) → Among xs x → ¬ (x ≡ c) → Among (without c xs) x
among_without c [] x i n = elim i [ ]
among_without c (y ∷ ys) x i n = elim (eqb_tells y c) [
  | inl k ↦ rw k.0 (elim i [ inl e ↦ absurd (n (e ∙ k.1)) | inr j ↦ among_without c ys x j n ])
  | inr k ↦ rw k.0 (elim i [ inl e ↦ inl e | inr j ↦ inr (among_without c ys x j n) ])
]

pub distinct_without : (c : ℕ) (xs : List ℕ) → Distinct xs → Distinct (without c xs)
distinct_without c [] d = tt
distinct_without c (y ∷ ys) d = elim (eqb_tells y c) [
  | inl k ↦ rw k.0 (distinct_without c ys d.1)
  | inr k ↦ rw k.0 ((λ i. d.0 (without_among c ys y i).0), distinct_without c ys d.1)
]

without_absent : (c : ℕ) (xs : List ℕ) → ¬ Among xs c → without c xs ≡ xs
without_absent c [] n = refl
without_absent c (y ∷ ys) n = elim (eqb_tells y c) [
  | inl k ↦ absurd (n (inl (sym k.1)))
  | inr k ↦ rw k.0 (ap (◌∷◌ y) (without_absent c ys (λ i. n (inr i))))
]

pub length-without : (c : ℕ) (xs : List ℕ) → Distinct xs → Among xs c
    → suc (length (without c xs)) ≡ length xs
length-without c [] d i = elim i [ ]
length-without c (y ∷ ys) d i = elim (eqb_tells y c) [
  | inl k ↦ rw k.0 (ap (λ (zs : List ℕ). suc (length zs))
      (without_absent c ys (subst (λ z. ¬ Among ys z) k.1 d.0)))
  | inr k ↦ rw k.0 (elim i
      [ inl e ↦ absurd (k.1 (sym e)) | inr j ↦ ap suc (length-without c ys d.1 j) ])
]

-- distinct elements of a list are no more than the list's
pub no_more : (xs ys : List ℕ) → Distinct ys → Distinct xs → ((x : ℕ) → Among xs x → Among ys x)
    → length xs ≤ length ys
no_more [] ys b d f = omega arith
no_more (x ∷ xs) ys b d f =
    let e = length-without x ys b (f x (inl refl)) in
    let l : length xs ≤ length (without x ys) = no_more xs (without x ys) (distinct_without x ys b)
    d.1 (λ z i. among_without x ys z (f z (inr i)) (λ e. d.0 (subst (Among xs) e i))) in
    omega arith

-- and fewer where one of the list's is missing
pub fewer : (xs ys : List ℕ) (o : ℕ) → Distinct ys → Distinct xs
    → ((x : ℕ) → Among xs x → Among ys x) → Among ys o → ¬ (Among xs o) → length xs < length ys
fewer xs ys o b d f i n = no_more (o ∷ xs) ys b (n, d)
    (λ z. elim [ inl e ↦ subst (Among ys) (sym e) i | inr j ↦ f z j ])

module _ (els : List ℕ) (mul : ℕ → ℕ → ℕ) (one : ℕ) (h : IsMonoid (Among els) mul one) (m : ℕ)
    (m_in : Among els m) where
  pub local_among : (a : ℕ) → InLocal (Among els) mul m a → Among (local_elements mul m els) a
  local_among a i = among_keep (has (m ∷ map (λ s. mul (mul m s) m) els)) els a
      (local_in (Among els) mul one h m m_in a i)
      (among_has (m ∷ map (λ s. mul (mul m s) m) els) a (listed i))
    where
      listed : InLocal (Among els) mul m a → Among (m ∷ map (λ s. mul (mul m s) m) els) a
      listed (inl e) = inl e
      listed (inr (s, j, e))
          = inr (subst (Among (map (λ s. mul (mul m s) m) els)) (sym e)
          (among_map (λ s. mul (mul m s) m) els s j))

  pub among_local : (a : ℕ) → Among (local_elements mul m els) a → InLocal (Among els) mul m a
  among_local a i = found
      (has_among (m ∷ map (λ s. mul (mul m s) m) els) a
      (keep_among (has (m ∷ map (λ s. mul (mul m s) m) els)) els a i).1)
    where
      found : Among (m ∷ map (λ s. mul (mul m s) m) els) a → InLocal (Among els) mul m a
      found (inl e) = inl e
      found (inr j) = inr (map_among (λ s. mul (mul m s) m) els a j)

  factor_at : (ys : List ℕ) (y b : ℕ) → Among ys y → mul m y ≡ b → Among ys (factor mul m ys b)
      × (mul m (factor mul m ys b) ≡ b)
  factor_at [] y b i e = elim i [ ]
  factor_at (z ∷ zs) y b i e = elim (eqb_tells (mul m z) b) [
    | inl k ↦ rw k.0 (inl refl, k.1)
    | inr k ↦ rw k.0 (elim i [
      | inl f ↦ absurd (k.1 (ap (mul m) (sym f) ∙ e))
      | inr j ↦ let r = factor_at zs y b j e in
          (inr r.0, r.1)
    ])
  ]

  -- the local product, by a search for the factor
  pub local_product_joins : IsLocal (Among els) mul m (local_product mul m els)
  local_product_joins = record {
    joins = λ x y i j.
        let r = factor_at els y (mul m y) j refl in
        h.assoc x m (factor mul m els (mul m y)) i m_in r.0 ∙ ap (mul x) r.1
        ∙ sym (h.assoc x m y i m_in j);
  }

  -- the local divisor at m has fewer elements
  pub local_fewer : HasSettlingPowers (Among els) mul one → ¬ (m ≡ one) → Distinct els
      → length (local_elements mul m els) < length els
  local_fewer a n d =
      fewer (local_elements mul m els) els one d
      (distinct_keep (has (m ∷ map (λ s. mul (mul m s) m) els)) els d)
      (λ x i. (keep_among (has (m ∷ map (λ s. mul (mul m s) m) els)) els x i).0) h.one_in
      (λ i. identity_not_local (Among els) mul one h m m_in a n (among_local one i))
