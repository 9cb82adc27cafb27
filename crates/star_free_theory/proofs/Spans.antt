-- The submonoid that images generate, found by rounds.
use Rattle.std.proofs.Common.{◌≡◌, ℕ, zero, suc, ◌≤◌, ◌<◌, List, [], ◌∷◌, ◌++◌, sym, subst, ◌∙◌, ap}
use Rattle.std.proofs.Common.{refl, ◌⊎◌, inl, inr, arith, length, map}
use Rattle.star_free_theory.specs.Construction.{has, products, reach, span}
use Rattle.star_free_theory.specs.Instance.{AllAmong, Among, Distinct, value}
use Rattle.star_free_theory.specs.LocalDivisor.{IsMonoid}
use Rattle.star_free_theory.proofs.FiniteLists.{among_has, among_keep, among_map, among_or}
use Rattle.star_free_theory.proofs.FiniteLists.{distinct_keep, fewer, has_among, keep_among}
use Rattle.star_free_theory.proofs.FiniteLists.{map_among, no_more}
use Rattle.star_free_theory.proofs.Parts.{IsSpan}

append_among : (xs ys : List ℕ) (x : ℕ) → Among (xs ++ ys) x → Among xs x ⊎ Among ys x
append_among [] ys x i = inr i
append_among (z ∷ xs) ys x (inl e) = inl (inl e)
append_among (z ∷ xs) ys x (inr i) = elim (append_among xs ys x i)
    [ inl j ↦ inl (inr j) | inr j ↦ inr j ]

among_left : (xs ys : List ℕ) (x : ℕ) → Among xs x → Among (xs ++ ys) x
among_left [] ys x i = elim i [ ]
among_left (z ∷ xs) ys x (inl e) = inl e
among_left (z ∷ xs) ys x (inr i) = inr (among_left xs ys x i)

among_right : (xs ys : List ℕ) (x : ℕ) → Among ys x → Among (xs ++ ys) x
among_right [] ys x i = i
among_right (z ∷ xs) ys x i = inr (among_right xs ys x i)

all_or : (xs ys : List ℕ) → ((x : ℕ) → Among xs x → Among ys x)
    ⊎ ((o : ℕ) × Among xs o × ¬ (Among ys o))
all_or [] ys = inl (λ x i. absurd i)
all_or (z ∷ xs) ys = elim (among_or ys z) [
  | inr n ↦ inr (z, inl refl, n)
  | inl i ↦ elim (all_or xs ys) [
    | inl f ↦ inl (λ x. elim [ inl e ↦ subst (Among ys) (sym e) i | inr j ↦ f x j ])
    | inr (o, j, n) ↦ inr (o, inr j, n)
  ]
]

some_in : (xs : List ℕ) (x : ℕ) → Among xs x → 1 ≤ length xs
some_in [] x i = elim i [ ]
some_in (y ∷ ys) x i = omega arith

module _ (mul : ℕ → ℕ → ℕ) (img : ℕ → ℕ) where
  among_products : (S ls : List ℕ) (a y : ℕ) → Among ls a → Among S y
      → Among (products mul img S ls) (mul (img a) y)
  among_products S [] a y i j = elim i [ ]
  among_products S (b ∷ ls) a y (inl e) j = among_left (map (mul (img b)) S) (products mul img S ls)
      (mul (img a) y) (subst (λ z. Among (map (mul (img b)) S) (mul (img z) y)) (sym e)
      (among_map (mul (img b)) S y j))
  among_products S (b ∷ ls) a y (inr i) j = among_right (map (mul (img b)) S)
      (products mul img S ls) (mul (img a) y) (among_products S ls a y i j)

  products_among : (S ls : List ℕ) (x : ℕ) → Among (products mul img S ls) x → (a y : ℕ)
      × Among ls a × Among S y × (x ≡ mul (img a) y)
  products_among S [] x i = elim i [ ]
  products_among S (b ∷ ls) x i
      = elim (append_among (map (mul (img b)) S) (products mul img S ls) x i) [
        | inl j ↦ let r = map_among (mul (img b)) S x j in (b, r.0, inl refl, r.1, r.2)
        | inr j ↦ let r = products_among S ls x j in (r.0, r.1, inr r.2, r.3, r.4)
      ]

module _ (mul : ℕ → ℕ → ℕ) (one : ℕ) (img : ℕ → ℕ) (letters els : List ℕ)
    (h : IsMonoid (Among els) mul one) (d : Distinct els)
    (images : (a : ℕ) → Among letters a → Among els (img a)) where
  abbrev R : ℕ → List ℕ
  R n = reach mul one img letters els n

  abbrev more : ℕ → List ℕ
  more n = R n ++ products mul img (R n) letters

  R_in : (n x : ℕ) → Among (R n) x → Among els x
  unfolding reach
  R_in zero x i = (keep_among (has (one ∷ [])) els x i).0
  R_in (suc n) x i = (keep_among (has (more n)) els x i).0

  R_distinct : (n : ℕ) → Distinct (R n)
  unfolding reach
  R_distinct zero = distinct_keep (has (one ∷ [])) els d
  R_distinct (suc n) = distinct_keep (has (more n)) els d

  R_more : (n x : ℕ) → Among els x → Among (more n) x → Among (R (suc n)) x
  unfolding reach
  R_more n x i j = among_keep (has (more n)) els x i (among_has (more n) x j)

  R_from : (n x : ℕ) → Among (R (suc n)) x → Among (R n) x
      ⊎ ((a y : ℕ) × Among letters a × Among (R n) y × (x ≡ mul (img a) y))
  unfolding reach
  R_from n x i = elim (append_among (R n) (products mul img (R n) letters) x
      (has_among (more n) x (keep_among (has (more n)) els x i).1)) [
        | inl j ↦ inl j
        | inr j ↦ inr (products_among mul img (R n) letters x j)
      ]

  R_grows : (n x : ℕ) → Among (R n) x → Among (R (suc n)) x
  R_grows n x i = R_more n x (R_in n x i) (among_left (R n) (products mul img (R n) letters) x i)

  R_step : (n a y : ℕ) → Among letters a → Among (R n) y → Among (R (suc n)) (mul (img a) y)
  R_step n a y i j = R_more n (mul (img a) y) (h.mul_in (img a) y (images a i) (R_in n y j))
      (among_right (R n) (products mul img (R n) letters) (mul (img a) y)
      (among_products mul img (R n) letters a y i j))

  R_one : (n : ℕ) → Among (R n) one
  unfolding reach
  R_one zero = among_keep (has (one ∷ [])) els one h.one_in (among_has (one ∷ []) one (inl refl))
  R_one (suc n) = R_grows n one (R_one n)

  R_spelled : (n x : ℕ) → Among (R n) x → (ls : List ℕ) × AllAmong letters ls
      × (value mul one img ls ≡ x)
  unfolding reach
  R_spelled zero x i = elim (has_among (one ∷ []) x (keep_among (has (one ∷ [])) els x i).1)
      [ inl e ↦ ([], tt, sym e) | inr j ↦ absurd j ]
  R_spelled (suc n) x i = elim (R_from n x i) [
    | inl j ↦ R_spelled n x j
    | inr (a, y, ia, j, e) ↦ let r = R_spelled n y j in
        (a ∷ r.0, (ia, r.1), ap (mul (img a)) r.2 ∙ sym e)
  ]

  abbrev IsClosed : ℕ → Type 0
  IsClosed n = (a y : ℕ) → Among letters a → Among (R n) y → Among (R n) (mul (img a) y)

  closed_next : (n : ℕ) → IsClosed n → IsClosed (suc n)
  closed_next n k a y i j = elim (R_from n y j) [
    | inl l ↦ R_grows n (mul (img a) y) (k a y i l)
    | inr (b, z, ib, l, e) ↦ R_grows n (mul (img a) y)
        (k a y i (subst (Among (R n)) (sym e) (k b z ib l)))
  ]

  -- after n rounds nothing new comes, or there are more than n elements
  closed_or : (n : ℕ) → IsClosed n ⊎ (suc n ≤ length (R n))
  closed_or zero = inr (some_in (R zero) one (R_one zero))
  closed_or (suc n) = elim (closed_or n) [
    | inl k ↦ inl (closed_next n k)
    | inr l ↦ elim (all_or (R (suc n)) (R n)) [
      | inl f ↦ inl (closed_next n (λ a y i j. f (mul (img a) y) (R_step n a y i j)))
      | inr (o, i, k) ↦ let m : length (R n) < length (R (suc n)) = fewer (R n) (R (suc n)) o
          (R_distinct (suc n)) (R_distinct n) (R_grows n) i k in inr (omega arith)
    ]
  ]

  closed_all : IsClosed (length els)
  closed_all = elim (closed_or (length els)) [
    | inl k ↦ k
    | inr l ↦ absurd (let m : length (R (length els)) ≤ length els = no_more (R (length els)) els d
        (R_distinct (length els)) (R_in (length els)) in omega arith)
  ]

  R_holds : (ls : List ℕ) → AllAmong letters ls → Among (R (length els)) (value mul one img ls)
  R_holds [] i = R_one (length els)
  R_holds (a ∷ ls) i = closed_all a (value mul one img ls) i.0 (R_holds ls i.1)

  pub span_spans : IsSpan mul one img letters (span mul one img letters els)
  unfolding span
  span_spans = record {
    distinct = R_distinct (length els);
    spelled = R_spelled (length els);
    holds
        = R_holds;
  }
