-- What flat tables hold after one more entry.
use Rattle.std.proofs.Common.{◌≡◌, ◌∙◌, ◌<◌, ◌≤◌, ◌+◌, ℕ, zero, suc, Bool, true, false, cond, eqb}
use Rattle.std.proofs.Common.{List, [], ◌∷◌, ◌++◌, length, slice_index, set}
use Rattle.std.proofs.Common.{replicate, refl, sym, ap, subst, append_assoc, ◌⊎◌, inl, inr, arith}
use Rattle.std.proofs.lemmas.Bool.{cases_Bool, cases_lt}
use Rattle.std.proofs.lemmas.Bool.Decides.{eqb_tells}
use Rattle.std.proofs.lemmas.List.{length-set, get_or-set_same, get_or-set_other, append-nil}
use Rattle.std.proofs.lemmas.List.{get_or-replicate, length-replicate, get_or_append_left}
use Rattle.language_theory.specs.Automaton.{is_marked}
use Rattle.star_free_theory.specs.Instance.{Among, Distinct, AllAmong, value}
use Rattle.star_free_theory.specs.Construction.{has, keep, count_from}
use Rattle.star_free_theory.proofs.FiniteLists.{no_more}
use Rattle.star_free_theory.proofs.Whole.{count_among, count_distinct, length-count}
use Rattle.local_divisors.specs.Instances.{Multiplication, times, AreLocalFactors}
use Rattle.local_divisors.specs.Instances.{IsSearch, GoesOn, IsNoted, AreSpanMarks}

pub among_push : (xs : List ℕ) (y x : ℕ) → Among (xs ++ y ∷ []) x → Among xs x ⊎ (x ≡ y)
among_push [] y x (inl e) = inr e
among_push [] y x (inr i) = absurd i
among_push (z ∷ xs) y x (inl e) = inl (inl e)
among_push (z ∷ xs) y x (inr i) = elim (among_push xs y x i) [ inl j ↦ inl (inr j) | inr e ↦ inr e ]

pub push_among : (xs : List ℕ) (y x : ℕ) → Among xs x ⊎ (x ≡ y) → Among (xs ++ y ∷ []) x
push_among [] y x (inl i) = absurd i
push_among [] y x (inr e) = inl e
push_among (z ∷ xs) y x (inl (inl e)) = inl e
push_among (z ∷ xs) y x (inl (inr i)) = inr (push_among xs y x (inl i))
push_among (z ∷ xs) y x (inr e) = inr (push_among xs y x (inr e))

has-push : (ys : List ℕ) (j x : ℕ) → has (ys ++ j ∷ []) x ≡ cond (eqb x j) true (has ys x)
has-push [] j x = refl
has-push (y ∷ ys) j x = elim (cases_Bool (eqb x y)) [
  | inl e ↦ rw e (elim (cases_Bool (eqb x j)) [ inl f ↦ rw f refl | inr f ↦ rw f refl ])
  | inr e ↦ rw e (has-push ys j x)
]

pub marks_more : (marks : List Bool) (ys : List ℕ) (j : ℕ) → j < length marks
    → ((x : ℕ) → is_marked marks x ≡ has ys x) → (x : ℕ) → is_marked (set marks j true) x
    ≡ has (ys ++ j ∷ []) x
marks_more marks ys j l h x = elim (eqb_tells x j) [
  | inl e ↦ subst (λ (z : ℕ). is_marked (set marks j true) z ≡ true) (sym e.1)
      (get_or-set_same marks j true false l) ∙ sym (has-push ys j x ∙ rw e.0 refl)
  | inr e ↦ get_or-set_other marks j x true false e.1 ∙ h x ∙ sym (has-push ys j x ∙ rw e.0 refl)
]

pub keep_same : (p q : ℕ → Bool) (els : List ℕ) → ((x : ℕ) → Among els x → p x ≡ q x)
    → keep p els ≡ keep q els
keep_same p q [] h = refl
keep_same p q (x ∷ xs) h = rw (h x (inl refl), keep_same p q xs (λ y i. h y (inr i))) refl

pub local_more : (p : Multiplication) (m : ℕ) (els list : List ℕ) (z : ℕ) → z < p.table.side
    → times p m z < p.table.side → slice_index p.factors z < p.table.side
    → AreLocalFactors p m els list
    → AreLocalFactors p m (els ++ z ∷ []) (set list (times p m z) (slice_index p.factors z))
local_more p m els list z iz im iw h = record {
  long = length-set list (times p m z) (slice_index p.factors z) ∙ h.long;
  within = λ y l. elim (eqb_tells y (times p m z)) [
    | inl e ↦ subst (λ (b : ℕ). slice_index (set list (times p m z) (slice_index p.factors z)) b <
        p.table.side) (sym e.1) (let g = get_or-set_same list (times p m z) (slice_index p.factors
        z) 0 (let f = h.long in omega arith) in omega arith)
    | inr e ↦ let g = get_or-set_other list (times p m z) y (slice_index p.factors z) 0 e.1 in
        let f = h.within y l in omega arith
  ];
  found = λ y i. elim (eqb_tells (times p m y) (times p m z)) [
    | inl e ↦ (
      z,
      push_among els z z (inr refl),
      sym e.1,
      ap (slice_index (set list (times p m z) (slice_index p.factors z))) e.1
          ∙ get_or-set_same list (times p m z) (slice_index p.factors z) 0 (let f = h.long in
          omega arith),
    )
    | inr e ↦ elim (among_push els z y i) [
      | inl j ↦ let r = h.found y j in (
        r.0,
        push_among els z r.0 (inl r.1),
        r.2,
        get_or-set_other
            list (times p m z) (times p m y) (slice_index p.factors z) 0 e.1 ∙ r.3,
      )
      | inr f ↦ absurd (e.1 (ap (times p m) f))
    ]
  ];
}

distinct_push : (xs : List ℕ) (y : ℕ) → Distinct xs → ¬ (Among xs y) → Distinct (xs ++ y ∷ [])
distinct_push [] y d n = ((λ i. i), tt)
distinct_push (x ∷ xs) y d n = (
  (λ i. elim (among_push xs y x i) [
    | inl j ↦ d.0 j
    | inr e ↦ n (inl (sym e))
  ]),
  distinct_push xs y d.1 (λ i. n (inr i)),
)

module _ (p : Multiplication) (one : ℕ) (letters images : List ℕ) where
  pub search_more : (found : List ℕ) (marks : List Bool) (x a : ℕ)
      → times p (slice_index images a) x < p.table.side
      → is_marked marks (times p (slice_index images a) x) ≡ false → Among found x → Among letters a
      → IsSearch p one letters images found marks
      → IsSearch p one letters images (found ++ times p (slice_index images a) x ∷ [])
      (set marks (times p (slice_index images a) x) true)
  search_more found marks x a l e ix ia h =
      let y = times p (slice_index images a) x in
      let fresh : ¬ (Among found y) = λ i. let f : is_marked marks y ≡ true = h.marked y i in
      let g : true ≡ false = sym f ∙ e in cc in
      let lm : y < length marks = let f = h.long in omega arith in
      record {
        long = length-set marks y true ∙ h.long;
        first = push_among found y one (inl h.first);
        distinct = distinct_push found y h.distinct fresh;
        within = λ z i. elim (among_push found y z i) [
          | inl j ↦ h.within z j
          | inr f ↦ subst (λ (b : ℕ). b < p.table.side) (sym f) l
        ];
        marked = λ z i. elim (among_push found y z i) [
          | inl j ↦ get_or-set_other marks y z true false (λ f. fresh (subst (Among found) f j))
              ∙ h.marked z j
          | inr f ↦ ap (is_marked (set marks y true)) f ∙ get_or-set_same marks y true false lm
        ];
        listed = λ z i m. elim (eqb_tells z y) [
          | inl f ↦ push_among found y z (inr f.1)
          | inr f ↦ push_among found y z
              (inl (h.listed z i (sym (get_or-set_other marks y z true false f.1) ∙ m)))
        ];
        spelled = λ z i. elim (among_push found y z i) [
          | inl j ↦ h.spelled z j
          | inr f ↦ let r = h.spelled x ix in
              (a ∷ r.0, (ia, r.1), ap (times p (slice_index images a)) r.2 ∙ sym f)
        ];
      }

  pub found_few : (found : List ℕ) (marks : List Bool) → IsSearch p one letters images found marks
      → length found ≤ p.table.side
  found_few found marks h =
      let n = p.table.side in
      let r : length found ≤ length (count_from 0 n) = no_more found (count_from 0 n)
      (count_distinct 0 n) h.distinct (λ x i. count_among 0 n x (omega arith) (let f =
      h.within x i in omega arith)) in
      let e = length-count 0 n in
      omega arith

  -- a place of a listed number
  pub place_of : (xs : List ℕ) (x : ℕ) → Among xs x
      → (j : ℕ) × (j < length xs) × (slice_index xs j ≡ x)
  place_of [] x i = absurd i
  place_of (y ∷ xs) x (inl e) = (0, omega arith, sym e)
  place_of (y ∷ xs) x (inr i) = let r = place_of xs x i in (
    suc r.0,
    (let l = r.1 in omega arith),
    r.2,
  )

  -- a search that is done has marked the products of images
  pub search_done : (found : List ℕ) (marks : List Bool) (n : ℕ) → length found ≤ n
      → IsSearch p one letters images found marks
      → ((j a : ℕ) → j < n → Among letters a → Among found (times p (slice_index images a)
      (slice_index found j))) → AreSpanMarks p one letters images marks
  search_done found marks n l h s = record {
    long = h.long;
    spelled = λ x i m. h.spelled x (h.listed x i m);
    holds = λ ls i. h.marked (value (times p) one (slice_index images) ls) (all ls i);
  }
    where
      all : (ls : List ℕ) → AllAmong letters ls
          → Among found (value (times p) one (slice_index images) ls)
      all [] i = h.first
      all (a ∷ ls) i =
          let v = value (times p) one (slice_index images) ls in
          let r = place_of found v (all ls i.1) in
          subst (λ (z : ℕ). Among found (times p (slice_index images a) z)) r.2
          (s r.0 a (let k = r.1 in omega arith) i.0)

pub append_among : (xs ys : List ℕ) (x : ℕ) → Among xs x → Among (xs ++ ys) x
append_among [] ys x i = absurd i
append_among (z ∷ xs) ys x (inl e) = inl e
append_among (z ∷ xs) ys x (inr i) = inr (append_among xs ys x i)

pub goes_none : (p : Multiplication) (images : List ℕ) (x : ℕ) (found : List ℕ)
    → GoesOn p [] images x found found
goes_none p images x found = record {
  keeps = ([], sym (append-nil found));
  steps = λ a i. absurd i;
}

-- the next letter's product is there, or is put behind
pub goes_more : (p : Multiplication) (letters images : List ℕ) (x a : ℕ) (old found rest : List ℕ)
    → Among (found ++ rest) (times p (slice_index images a) x) → GoesOn p letters images x old found
    → GoesOn p (letters ++ a ∷ []) images x old (found ++ rest)
goes_more p letters images x a old found rest i h = record {
  keeps = (h.keeps.0 ++ rest, ap (λ zs. zs ++ rest) h.keeps.1 ∙ append_assoc old h.keeps.0 rest);
  steps = λ b j. elim (among_push letters a b j) [
    | inl k ↦ append_among found rest (times p (slice_index images b) x) (h.steps b k)
    | inr e ↦ subst (λ (z : ℕ). Among (found ++ rest) (times p (slice_index images z) x)) (sym e) i
  ];
}

pub goes_on_same : (p : Multiplication) (letters images : List ℕ) (x a : ℕ) (old found : List ℕ)
    → Among found (times p (slice_index images a) x) → GoesOn p letters images x old found
    → GoesOn p (letters ++ a ∷ []) images x old found
goes_on_same p letters images x a old found i h =
    subst (GoesOn p (letters ++ a ∷ []) images x old) (append-nil found) (goes_more p letters images
    x a old found [] (subst (λ zs. Among zs (times p (slice_index images a) x))
    (sym (append-nil found)) i) h)

pub among_at : (xs : List ℕ) (i : ℕ) → i < length xs → Among xs (slice_index xs i)
among_at [] i l = absurd (omega arith)
among_at (x ∷ xs) zero l = inl refl
among_at (x ∷ xs) (suc i) l = inr (among_at xs i (omega arith))

module _ (p : Multiplication) (one : ℕ) (letters images : List ℕ) (x a i : ℕ) (y : ℕ)
    (is : y ≡ times p (slice_index images a) x) (old found : List ℕ) (marks : List Bool)
    (found' : List ℕ) (marks' : List Bool) (noted : IsNoted y found marks found' marks') where
  pub noted_long : length marks' ≡ length marks
  noted_long = elim noted [
    | inl (m, e, f) ↦ ap (λ (ms : List Bool). length ms) f
    | inr (m, e, f) ↦ ap (λ (ms : List Bool). length ms) f ∙ length-set marks y true
  ]

  pub noted_search : y < p.table.side → Among found x → Among letters a
      → IsSearch p one letters images found marks → IsSearch p one letters images found' marks'
  noted_search l ix ia h = elim noted [
    | inl (m, e, f) ↦ rw (e, f) h
    | inr (m, e, f) ↦
        let s = search_more p one letters images found marks x a
        (subst (λ (z : ℕ). z < p.table.side) is l) (subst (λ (z : ℕ). is_marked marks z ≡ false)
        is m) ix ia h in
        rw (e, f) (subst (λ (z : ℕ). IsSearch p one letters images (found ++ z ∷ [])
        (set marks z true)) (sym is) s)
  ]

  pub noted_goes : (some : List ℕ) → y < p.table.side → IsSearch p one letters images found marks
      → GoesOn p some images x old found → GoesOn p (some ++ a ∷ []) images x old found'
  noted_goes some l h g = elim noted [
    | inl (m, e, f) ↦ rw e (goes_on_same p some images x a old found (subst (Among found) is
        (h.listed y l m)) g)
    | inr (m, e, f) ↦ rw e (goes_more p some images x a old found (y ∷ [])
        (push_among found y (times p (slice_index images a) x) (inr (sym is))) g)
  ]

pub search_first : (p : Multiplication) (one : ℕ) (letters images found : List ℕ)
    (marks : List Bool) → found ≡ one ∷ [] → marks ≡ set (replicate p.table.side false) one true
    → one < p.table.side → IsSearch p one letters images found marks
search_first p one letters images found marks e f l = rw (e, f) (record {
  long = length-set (replicate p.table.side false) one true ∙ length-replicate p.table.side false;
  first = inl refl;
  distinct = ((λ i. i), tt);
  within = λ z i. elim i [
    | inl g ↦ subst (λ (b : ℕ). b < p.table.side) (sym g) l
    | inr j ↦ absurd j
  ];
  marked = λ z i. elim i [
    | inl g ↦ ap (is_marked (set (replicate p.table.side false) one true)) g
        ∙ get_or-set_same (replicate p.table.side false) one true false (let k = length-replicate
        p.table.side false in omega arith)
    | inr j ↦ absurd j
  ];
  listed = λ z i m. elim (eqb_tells z one) [
    | inl g ↦ inl g.1
    | inr g ↦ absurd (let k : is_marked (set (replicate p.table.side false) one true) z ≡ false =
        get_or-set_other (replicate p.table.side false) one z true false g.1
        ∙ get_or-replicate p.table.side z false false i in let n : true ≡ false = sym m ∙ k in cc)
  ];
  spelled = λ z i. elim i [ inl g ↦ ([], tt, sym g) | inr j ↦ absurd j ];
})

-- the next element's products are found too
pub steps_more : (p : Multiplication) (letters images found found' : List ℕ) (n : ℕ)
    → n < length found
    → ((j a : ℕ) → j < n → Among letters a → Among found (times p (slice_index images a)
    (slice_index found j))) → GoesOn p letters images (slice_index found n) found found'
    → (j a : ℕ) → j < n + 1 → Among letters a
    → Among found' (times p (slice_index images a) (slice_index found' j))
steps_more p letters images found found' n l h g j a k ia =
    let same : slice_index found' j ≡ slice_index found j = ap (λ zs. slice_index zs j) g.keeps.1
    ∙ get_or_append_left found g.keeps.0 0 j (omega arith) in
    subst (λ (z : ℕ). Among found' (times p (slice_index images a) z)) (sym same)
    (elim (cases_lt j n) [
      | inl m ↦ subst (λ zs. Among zs (times p (slice_index images a) (slice_index found j)))
          (sym g.keeps.1) (append_among found g.keeps.0 (times p (slice_index images a)
          (slice_index found j)) (h j a m ia))
      | inr m ↦ let e : j ≡ n = omega arith in
          subst (λ (z : ℕ). Among found' (times p (slice_index images a) (slice_index found z)))
          (sym e) (g.steps a ia)
    ])
