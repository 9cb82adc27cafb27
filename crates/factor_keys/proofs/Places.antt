-- Rising lists of places.
use Rattle.std.proofs.Common.{◌≡◌, ◌↔◌, ◌⊎◌, inl, inr, ℕ, suc, ◌+◌, ◌*◌, ◌/◌, ◌%◌, ◌^◌, ◌<◌, ◌≤◌, Bool, true, false, List, [], ◌∷◌, length, drop, get_or, refl, ap, sym, subst, ◌∙◌, arith}
use Rattle.std.proofs.lemmas.Bool.{cases_lt}
use Rattle.std.proofs.lemmas.List.{drop_more}
use Rattle.std.proofs.Math.Nat.{le-mul_of_pos_right, mul-le-mul_right, pow-zero, pow-succ', add-mul, one-mul, mul_assoc}
use Rattle.std.proofs.lemmas.Nat.{div-mul-add, mod-mul-add}
use Rattle.language_theory.specs.Words.{Over}
use Rattle.std.proofs.lemmas.Grind.{common_steps}
use Rattle.factor_keys.specs.FactorKeys.{with_place, place_from, place}

-- what is still to be written of a set with one place more
abbrev pub left_over : Bool → ℕ → List ℕ → List ℕ
left_over true p qs = qs
left_over false p qs = with_place p qs

-- ---- places of words

-- a place only grows with more letters
pub place_grows : (k p : ℕ) (w : List ℕ) → 1 ≤ k → p ≤ place_from k p w
place_grows k p [] h = omega arith
place_grows k p (a ∷ w) h =
    let more : p ≤ p * k = le-mul_of_pos_right {m = k} p (omega arith) in
    let rest = place_grows k (p * k + a) w h in
    omega arith

-- ---- rising lists

-- the list rises from above p
abbrev pub Above : ℕ → List ℕ → Type 0
Above p [] = Unit {0}
Above p (q ∷ qs) = (p < q) × Above q qs

abbrev pub Rises : List ℕ → Type 0
Rises [] = Unit {0}
Rises (p ∷ ps) = Above p ps

abbrev pub Among : ℕ → List ℕ → Type 0
Among x [] = ⊥
Among x (p ∷ ps) = (x ≡ p) ⊎ Among x ps

three : (p q : ℕ) → (p < q) ⊎ ((p ≡ q) ⊎ (q < p))
three p q = elim (cases_lt p q) [
  | inl l ↦ inl l
  | inr l ↦ elim (cases_lt q p) [ inl m ↦ inr (inr m) | inr m ↦ inr (inl (omega arith)) ]
]

with_less : (p q : ℕ) (qs : List ℕ) → p < q → with_place p (q ∷ qs) ≡ p ∷ q ∷ qs
with_less p q qs h = grind (arith, common_steps)

with_same : (p q : ℕ) (qs : List ℕ) → p ≡ q → with_place p (q ∷ qs) ≡ q ∷ qs
with_same p q qs h = grind (arith, common_steps)

with_more : (p q : ℕ) (qs : List ℕ) → q < p → with_place p (q ∷ qs) ≡ q ∷ with_place p qs
with_more p q qs h = grind (arith, common_steps)

above_with : (r p : ℕ) (qs : List ℕ) → r < p → Above r qs → Above r (with_place p qs)
above_with r p [] l h = (l, tt)
above_with r p (q ∷ qs) l h = by (three p q) (above_with q p qs)
  where
    by : (p < q) ⊎ ((p ≡ q) ⊎ (q < p)) → (q < p → Above q qs → Above q (with_place p qs))
        → Above r (with_place p (q ∷ qs))
    by (inl m) rest = subst (Above r) (sym (with_less p q qs m)) (l, (m, h.1))
    by (inr (inl e)) rest = subst (Above r) (sym (with_same p q qs e)) h
    by (inr (inr m)) rest = subst (Above r) (sym (with_more p q qs m)) (h.0, rest m h.1)

pub rises_with : (p : ℕ) (qs : List ℕ) → Rises qs → Rises (with_place p qs)
rises_with p [] h = tt
rises_with p (q ∷ qs) h = elim (three p q) [
  | inl m ↦ subst Rises (sym (with_less p q qs m)) (m, h)
  | inr r ↦ elim r [
    | inl e ↦ subst Rises (sym (with_same p q qs e)) h
    | inr m ↦ subst Rises (sym (with_more p q qs m)) (above_with q p qs m h)
  ]
]

pub among_with : (x p : ℕ) (qs : List ℕ) → Among x (with_place p qs) ↔ ((x ≡ p) ⊎ Among x qs)
among_with x p [] = (λ h. h, λ h. h)
among_with x p (q ∷ qs) = by (three p q) (among_with x p qs)
  where
    later : Among x (with_place p qs) ↔ ((x ≡ p) ⊎ Among x qs) → (x ≡ q) ⊎ Among x (with_place p qs)
        → (x ≡ p) ⊎ ((x ≡ q) ⊎ Among x qs)
    later rest (inl e) = inr (inl e)
    later rest (inr h) = elim (rest.0 h) [ inl e ↦ inl e | inr m ↦ inr (inr m) ]

    sooner : Among x (with_place p qs) ↔ ((x ≡ p) ⊎ Among x qs) → (x ≡ p) ⊎ ((x ≡ q) ⊎ Among x qs)
        → (x ≡ q) ⊎ Among x (with_place p qs)
    sooner rest (inl e) = inr (rest.1 (inl e))
    sooner rest (inr (inl e)) = inl e
    sooner rest (inr (inr m)) = inr (rest.1 (inr m))

    drop_same : p ≡ q → (x ≡ p) ⊎ ((x ≡ q) ⊎ Among x qs) → (x ≡ q) ⊎ Among x qs
    drop_same e (inl f) = inl (f ∙ e)
    drop_same e (inr h) = h

    by : (p < q) ⊎ ((p ≡ q) ⊎ (q < p)) → Among x (with_place p qs) ↔ ((x ≡ p) ⊎ Among x qs)
        → Among x (with_place p (q ∷ qs)) ↔ ((x ≡ p) ⊎ ((x ≡ q) ⊎ Among x qs))
    by (inl m) rest = subst (λ (l : List ℕ). Among x l ↔ ((x ≡ p) ⊎ ((x ≡ q) ⊎ Among x qs)))
        (sym (with_less p q qs m)) (λ h. h, λ h. h)
    by (inr (inl e)) rest = subst (λ (l : List ℕ). Among x l ↔ ((x ≡ p) ⊎ ((x ≡ q) ⊎ Among x qs)))
        (sym (with_same p q qs e)) (inr, drop_same e)
    by (inr (inr m)) rest = subst (λ (l : List ℕ). Among x l ↔ ((x ≡ p) ⊎ ((x ≡ q) ⊎ Among x qs)))
        (sym (with_more p q qs m)) (later rest, sooner rest)

above_among : (p x : ℕ) (qs : List ℕ) → Above p qs → Among x qs → p < x
above_among p x [] h m = absurd m
above_among p x (q ∷ qs) h (inl e) = let l : p < q = h.0 in omega arith
above_among p x (q ∷ qs) h (inr m) = let l : p < q = h.0 in let r = above_among q x qs h.1 m in
    omega arith

rises_rest : (p : ℕ) (qs : List ℕ) → Above p qs → Rises qs
rises_rest p [] h = tt
rises_rest p (q ∷ qs) h = h.1

-- rising lists with the same members are equal
pub one_rising : (xs ys : List ℕ) → Rises xs → Rises ys → ((x : ℕ) → Among x xs → Among x ys)
    → ((x : ℕ) → Among x ys → Among x xs) → xs ≡ ys
one_rising [] [] h g f b = refl
one_rising [] (y ∷ ys) h g f b = absurd (b y (inl refl))
one_rising (x ∷ xs) [] h g f b = absurd (f x (inl refl))
one_rising (x ∷ xs) (y ∷ ys) h g f b =
    cc (heads, one_rising xs ys (rises_rest x xs h) (rises_rest y ys g) there back)
  where
    heads : x ≡ y
    heads = elim (f x (inl refl)) [
      | inl e ↦ e
      | inr m ↦ elim (b y (inl refl)) [
        | inl e ↦ sym e
        | inr n ↦ (let l = above_among y x ys g m in let r = above_among x y xs h n in
            absurd (omega arith))
      ]
    ]

    there : (z : ℕ) → Among z xs → Among z ys
    there z m = elim (f z (inr m)) [
      | inl e ↦ (let l = above_among x z xs h m in let s = heads in absurd (omega arith))
      | inr n ↦ n
    ]

    back : (z : ℕ) → Among z ys → Among z xs
    back z m = elim (b z (inr m)) [
      | inl e ↦ (let l = above_among y z ys g m in let s = heads in absurd (omega arith))
      | inr n ↦ n
    ]

-- ---- words of one length have places of their own

pub one_place : (k p q : ℕ) (x y : List ℕ) → Over k x → Over k y → length x ≡ length y
    → place_from k p x ≡ place_from k q y → (p ≡ q) × (x ≡ y)
one_place k p q [] [] ox oy l e = (e, refl)
one_place k p q [] (b ∷ y) ox oy l e = absurd (omega arith)
one_place k p q (a ∷ x) [] ox oy l e = absurd (omega arith)
one_place k p q (a ∷ x) (b ∷ y) ox oy l e =
    let (f, g) = one_place k (p * k + a) (q * k + b) x y ox.1 oy.1 (omega arith) e in
    let h : p ≡ q = sym (div-mul-add p k a ox.0)
    ∙ (ap (λ (i : ℕ). i / k) f ∙ div-mul-add q k b oy.0) in
    let i : a ≡ b = sym (mod-mul-add p k a ox.0)
    ∙ (ap (λ (i : ℕ). i % k) f ∙ mod-mul-add q k b oy.0) in
    (h, cc)

place_below : (k p : ℕ) (x : List ℕ) → Over k x → place_from k p x < (p + 1) * k ^ length x
place_below k p [] o = let e : k ^ 0 ≡ 1 = pow-zero k in rw e (omega arith)
place_below k p (a ∷ x) o =
    let rest : place_from k (p * k + a) x < (p * k + a + 1) * k ^ length x =
    place_below k (p * k + a) x o.1 in
    let low : p * k + a + 1 ≤ (p + 1) * k =
    (let l : a < k = o.0 in let e : (p + 1) * k ≡ p * k + k =
    add-mul p 1 k ∙ ap (λ (i : ℕ). p * k + i) (one-mul k) in omega arith) in
    let up : (p * k + a + 1) * k ^ length x ≤ ((p + 1) * k) * k ^ length x =
    mul-le-mul_right {m = p * k + a + 1} {n = (p + 1) * k} (k ^ length x) low in
    let same : ((p + 1) * k) * k ^ length x ≡ (p + 1) * k ^ suc (length x) =
    mul_assoc (p + 1) k (k ^ length x)
    ∙ ap (λ (i : ℕ). (p + 1) * i) (sym (pow-succ' k (length x))) in
    omega arith

-- a word's place is less than the number of the words of its length
pub place_within : (k : ℕ) (x : List ℕ) → Over k x → place k x < k ^ length x
place_within k x o = let h = place_below k 0 x o in let e : (0 + 1) * k ^ length x ≡ k ^ length x =
    one-mul (k ^ length x) in omega arith

-- what a loop over a word has of its place is no greater than the place of the word
pub place_room : (k p i : ℕ) (w : List ℕ) → 1 ≤ k → i < length w → place_from k p (drop i w)
    ≡ place k w → place k w < 32768 → p * k + get_or w i 0 < 32768
place_room k p i w pos l e h =
    let more : place_from k p (drop i w) ≡ place_from k (p * k + get_or w i 0) (drop (i + 1) w) =
    ap (place_from k p) (drop_more w i 0 l) in
    let grows = place_grows k (p * k + get_or w i 0) (drop (i + 1) w) pos in
    let same : place_from k (p * k + get_or w i 0) (drop (i + 1) w) ≡ place k w = sym more ∙ e in
    omega arith
