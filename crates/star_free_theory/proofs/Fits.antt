-- Both instances made from one that fits fit again, and one step is right.
use Rattle.std.proofs.Common.{◌≡◌, ℕ, List, [], ◌∷◌, ◌++◌, ◌↔◌, sym, subst, ◌∙◌, ap, refl, inl, inr}
use Rattle.std.proofs.Common.{arith, length}
use Rattle.std.proofs.lemmas.Bool.Decides.{eqb_tells}
use Rattle.star_free_theory.specs.Construction.{local_elements, local_product, without}
use Rattle.star_free_theory.specs.Instance.{AllAmong, Among, Instance, IsFit, IsGenerated, Piece}
use Rattle.star_free_theory.specs.Instance.{image, value}
use Rattle.star_free_theory.specs.LocalDivisor.{InLocal, IsLocal, IsMonoid}
use Rattle.star_free_theory.specs.StarFree.{Concat}
use Rattle.star_free_theory.proofs.Cutting.{free_universe, opened_universe}
use Rattle.star_free_theory.proofs.FiniteLists.{among_local, among_without, distinct_keep}
use Rattle.star_free_theory.proofs.FiniteLists.{distinct_without, local_among, local_product_joins}
use Rattle.star_free_theory.proofs.FiniteLists.{without_among}
use Rattle.star_free_theory.proofs.LocalDivisor.{loc_ends, local_aperiodic, local_in, local_monoid}
use Rattle.star_free_theory.proofs.LocalDivisor.{local_mul_in}
use Rattle.star_free_theory.proofs.Parts.{Behind, Free, IsExact, IsInstance, IsRight, IsSpan}
use Rattle.star_free_theory.proofs.Parts.{Letters, Opened, Whole, Without, first, joined_up, second}
use Rattle.star_free_theory.proofs.Step.{Has-alike, behind_letters, image_in, letters_behind}
use Rattle.star_free_theory.proofs.Step.{step_exact, universe_alike}

pub monoid_alike : (In Is : ℕ → Type 0) (mul : ℕ → ℕ → ℕ) (one : ℕ) → ((x : ℕ) → In x ↔ Is x)
    → IsMonoid In mul one → IsMonoid Is mul one
monoid_alike In Is mul one f h = record {
  one_in = (f one).0 h.one_in;
  mul_in = λ x y i j. (f (mul x y)).0 (h.mul_in x y ((f x).1 i) ((f y).1 j));
  assoc = λ x y z i j k. h.assoc x y z ((f x).1 i) ((f y).1 j) ((f z).1 k);
  left = λ x i. h.left x ((f x).1 i);
  right = λ x i. h.right x ((f x).1 i);
}

pub exact_alike : (In Is : ℕ → Type 0) (mul : ℕ → ℕ → ℕ) (one : ℕ) (P Q : ℕ → List ℕ → Type 0)
    (img : ℕ → ℕ) (E F : ℕ → List ℕ → Type 0) → ((x : ℕ) → Is x → In x)
    → ((a : ℕ) (x : List ℕ) → P a x ↔ Q a x) → ((p : ℕ) (w : List ℕ) → E p w ↔ F p w)
    → IsExact In mul one P img E → IsExact Is mul one Q img F
exact_alike In Is mul one P Q img E F f g k h = record {
  means = λ p i w. (
    λ e. Has-alike P Q mul one img (λ a x. (g a x).0) p w ((h.means p (f p i) w).0 ((k p w).1 e)),
    λ e. (k p w).0 ((h.means p (f p i) w).1 (Has-alike Q P mul one img (λ a x. (g a x).1) p w e)),
  );
}

pub Concat-more : (L M N K : List ℕ → Type 0) → ((w : List ℕ) → L w → N w)
    → ((w : List ℕ) → M w → K w) → (w : List ℕ) → Concat L M w → Concat N K w
Concat-more L M N K f g w (u, v, i, j, e) = (u, v, f u i, g v j, e)

pub Whole-more : (In Loc Is Lac : ℕ → Type 0) (mul : ℕ → ℕ → ℕ) (N K : List ℕ → Type 0)
    (E F : ℕ → List ℕ → Type 0) → ((x : ℕ) → In x → Is x) → ((x : ℕ) → Loc x → Lac x)
    → ((w : List ℕ) → N w → K w) → (p : ℕ) (w : List ℕ) → Whole In Loc mul N E F p w
    → Whole Is Lac mul K E F p w
Whole-more In Loc Is Lac mul N K E F f g k p w (inl (i, e)) = inl (f p i, e)
Whole-more In Loc Is Lac mul N K E F f g k p w
    (inr (q, u, i, e, (w0, w1, j, (r, t, ir, it, d, c), a))) =
    inr (
      q,
      u,
      f q i,
      e,
      (
        w0,
        w1,
        j,
        (
          r,
          t,
          g r ir,
          f t it,
          d,
          Concat-more (F r) (Concat N (E t)) (F r)
              (Concat K (E t)) (λ w i. i) (Concat-more N (E t) K (E t) k (λ w i. i)) w1 c,
        ),
        a,
      ),
    )

AllAmong-append : (xs ls ks : List ℕ) → AllAmong xs ls → AllAmong xs ks → AllAmong xs (ls ++ ks)
AllAmong-append xs [] ks i j = j
AllAmong-append xs (a ∷ ls) ks i j = (i.0, AllAmong-append xs ls ks i.1 j)

module _ (I : Instance) (h : IsGenerated I.elements I.letters I.product I.identity I.image) where
  pub has_instance : IsInstance (Among I.elements) I.product I.identity (Piece I) I.image
  has_instance = record { monoid = h.monoid; images = λ a x p. h.images a p.0 }

  pub value_in : (ls : List ℕ) → AllAmong I.letters ls
      → Among I.elements (value I.product I.identity I.image ls)
  value_in [] i = h.monoid.one_in
  value_in (a ∷ ls) i = h.monoid.mul_in (I.image a) (value I.product I.identity I.image ls)
      (h.images a i.0) (value_in ls i.1)

  value-append : (ls ks : List ℕ) → AllAmong I.letters ls → AllAmong I.letters ks
      → value I.product I.identity I.image (ls ++ ks) ≡ I.product
      (value I.product I.identity I.image ls) (value I.product I.identity I.image ks)
  value-append [] ks i j
      = sym (h.monoid.left (value I.product I.identity I.image ks) (value_in ks j))
  value-append (a ∷ ls) ks i j =
      ap (I.product (I.image a)) (value-append ls ks i.1 j)
      ∙ sym (h.monoid.assoc (I.image a) (value I.product I.identity I.image ls)
      (value I.product I.identity I.image ks) (h.images a i.0) (value_in ls i.1)
      (value_in ks j))

  module _ (c : ℕ) (c_in : Among I.letters c) (els : List ℕ)
      (s : IsSpan I.product I.identity I.image (without c I.letters) els) where
    others : (ls : List ℕ) → AllAmong (without c I.letters) ls → AllAmong I.letters ls
    others [] i = tt
    others (a ∷ ls) i = ((without_among c I.letters a i.0).0, others ls i.1)

    pub span_in : (x : ℕ) → Among els x → Among I.elements x
    span_in x i = let r = s.spelled x i in
        subst (Among I.elements) r.2 (value_in r.0 (others r.0 r.1))

    -- the other letters generate their submonoid
    pub first_generated : IsGenerated els (without c I.letters) I.product I.identity I.image
    first_generated = record {
      monoid = record {
        one_in = s.holds [] tt;
        mul_in = λ x y i j.
            let p = s.spelled x i in
            let q = s.spelled y j in
            subst (Among els) (value-append p.0 q.0 (others p.0 p.1) (others q.0 q.1)
            ∙ ap (λ z. I.product z (value I.product I.identity I.image q.0)) p.2
            ∙ ap (I.product x) q.2)
            (s.holds (p.0 ++ q.0) (AllAmong-append (without c I.letters) p.0 q.0 p.1 q.1));
        assoc = λ x y z i j k. h.monoid.assoc x y z (span_in x i) (span_in y j) (span_in z k);
        left = λ x i. h.monoid.left x (span_in x i);
        right = λ x i. h.monoid.right x (span_in x i);
      };
      distinct = s.distinct;
      once = distinct_without c I.letters h.once;
      images = λ a i. subst (Among els)
          (h.monoid.right (I.image a) (h.images a (without_among c I.letters a i).0))
          (s.holds (a ∷ []) (i, tt));
      spelled = s.spelled;
    }

    abbrev pub m : ℕ
    m = I.image c

    pub m_in : Among I.elements m
    m_in = h.images c c_in

    abbrev pub loc : ℕ → ℕ → ℕ
    loc = local_product I.product m I.elements

    pub loc_joins : IsLocal (Among I.elements) I.product m loc
    loc_joins = local_product_joins I.elements I.product I.identity h.monoid m m_in

    pub locals : (x : ℕ) → InLocal (Among I.elements) I.product m x
        ↔ Among (local_elements I.product m I.elements) x
    locals x = (
      local_among I.elements I.product I.identity h.monoid m m_in x,
      among_local
          I.elements I.product I.identity h.monoid m m_in x,
    )

    abbrev pub mid : ℕ → ℕ
    mid t = I.product (I.product m t) m

    abbrev In : ℕ → Type 0
    In = Among I.elements

    local_value_in : (ts : List ℕ) → AllAmong els ts → InLocal In I.product m (value loc m mid ts)
    local_value_in [] i = inl refl
    local_value_in (t ∷ ts) i = local_mul_in In I.product I.identity h.monoid m m_in loc loc_joins
        (mid t) (value loc m mid ts) (inr (t, span_in t i.0, refl)) (local_value_in ts i.1)

    -- m t m times R is m t R
    mid_times : (t R : ℕ) → Among els t → InLocal In I.product m R
        → loc (mid t) R ≡ I.product (I.product m t) R
    mid_times t R i k = loc_ends In I.product I.identity h.monoid m m_in loc loc_joins (mid t) R
        (I.product m t) (h.monoid.mul_in m t m_in (span_in t i)) refl k

    -- a product of letters, times m, is an element without c times a product of local letters
    respelled : (ls : List ℕ) → AllAmong I.letters ls → (t : ℕ) × (ts : List ℕ) × Among els t
        × AllAmong els ts × (I.product (value I.product I.identity I.image ls) m ≡ I.product t
        (value loc m mid ts))
    respelled [] i = (I.identity, [], s.holds [] tt, tt, refl)
    respelled (a ∷ ls) i =
        let (t, ts, it, its, e) = respelled ls i.1 in
        let v = value I.product I.identity I.image ls in
        let iv : In v = value_in ls i.1 in
        let ia : In (I.image a) = h.images a i.0 in
        let R = value loc m mid ts in
        let iR = local_value_in ts its in
        let jR : In R = local_in In I.product I.identity h.monoid m m_in R iR in
        let jt : In t = span_in t it in
        let step : I.product (I.product (I.image a) v) m ≡ I.product (I.product (I.image a) t) R =
        h.monoid.assoc (I.image a) v m ia iv m_in ∙ ap (I.product (I.image a)) e
        ∙ sym (h.monoid.assoc (I.image a) t R ia jt jR) in
        elim (eqb_tells a c) [
          | inl k ↦ (
            I.identity,
            t ∷ ts,
            s.holds [] tt,
            (it, its),
            step ∙ ap (λ z. I.product (I.product (I.image z) t) R) k.1 ∙ sym (mid_times t R it iR)
                ∙ sym (h.monoid.left (loc (mid t) R)
                (local_in In I.product I.identity h.monoid m m_in (loc (mid t) R)
                (local_value_in (t ∷ ts) (it, its)))),
          )
          | inr k ↦
              let p = s.spelled t it in
              let at : Among els (I.product (I.image a) t)
              = subst (λ z. Among els (I.product (I.image a) z)) p.2
              (s.holds (a ∷ p.0) (among_without c I.letters a i.0 k.1, p.1)) in
              (I.product (I.image a) t, ts, at, its, step)
        ]

    local_spelled : (x : ℕ) → InLocal In I.product m x → (ts : List ℕ) × AllAmong els ts
        × (value loc m mid ts ≡ x)
    local_spelled x (inl e) = ([], tt, sym e)
    local_spelled x (inr (y, i, e)) =
        let p = h.spelled y i in
        let (t, ts, it, its, f) = respelled p.0 p.1 in
        let R = value loc m mid ts in
        let iR = local_value_in ts its in (
          t ∷ ts,
          (it, its),
          mid_times t R it iR
              ∙ h.monoid.assoc m t R m_in (span_in t it)
              (local_in In I.product I.identity h.monoid m m_in R iR)
              ∙ ap (I.product m) (sym f ∙ ap (λ z. I.product z m) p.2)
              ∙ sym (h.monoid.assoc m y m m_in i m_in)
              ∙ sym e,
        )

    -- the elements of that submonoid, as letters, generate the local divisor
    pub second_generated : IsGenerated (local_elements I.product m I.elements) els loc m mid
    second_generated = record {
      monoid = monoid_alike (InLocal (Among I.elements) I.product m)
          (Among (local_elements I.product m I.elements)) loc m locals
          (local_monoid (Among I.elements) I.product I.identity h.monoid m m_in loc loc_joins);
      distinct = distinct_keep _ I.elements h.distinct;
      once = s.distinct;
      images = λ t i. (locals (mid t)).0 (inr (t, span_in t i, refl));
      spelled = λ x i. local_spelled x ((locals x).1 i);
    }

module _ (I : Instance) (h : IsFit I) where
  -- with one element, all words of the universe have it as their image
  pub one_right : length I.elements ≡ 1 → IsRight I (λ p. I.universe)
  one_right e = record {
    exact = record {
      means = λ p i w. (
        λ u. let r = (h.universe.covers w).0 u in (
          r.0,
          r.1,
          r.2,
          single I.elements (image I.product I.identity I.image r.0) p e
              (image_in (Among I.elements) I.product I.identity (Piece I) I.image
              (has_instance I h.generated) r.0 r.1) i,
        ),
        λ r. (h.universe.covers w).1 (r.0, r.1, r.2),
      );
    };
  }
    where
      single : (xs : List ℕ) (x y : ℕ) → length xs ≡ 1 → Among xs x → Among xs y → x ≡ y
      single [] x y e i j = elim i [ ]
      single (z ∷ []) x y e (inl f) (inl g) = f ∙ sym g
      single (z ∷ []) x y e (inl f) (inr j) = elim j [ ]
      single (z ∷ []) x y e (inr i) j = elim i [ ]
      single (z ∷ zs ∷ zz) x y e i j = absurd (omega arith)

  module _ (c : ℕ) (c_in : Among I.letters c) (els : List ℕ)
      (s : IsSpan I.product I.identity I.image (without c I.letters) els) where
    pieces_without : (a : ℕ) (x : List ℕ) → Without (Piece I) c a x ↔ Piece (first I c els) a x
    pieces_without a x = (
      λ p. (among_without c I.letters a p.0.0 p.1, p.0.1),
      λ p. let r = without_among c I.letters
          a p.0 in ((r.0, p.1), r.1),
    )

    free_same : (w : List ℕ) → Free I.universe (Piece I c) w ↔ Free I.universe (I.language c) w
    free_same w = (
      λ (u, n). (
        u,
        λ k. n
            (Concat-more (Concat I.universe (I.language c)) I.universe
            (Concat I.universe (Piece I c))
            I.universe (Concat-more I.universe (I.language c) I.universe (Piece I c) (λ w i. i)
            (λ w i. (c_in, i))) (λ w i. i) w k),
      ),
      λ (u, n). (
        u,
        λ k. n
            (Concat-more (Concat I.universe (Piece I c)) I.universe
            (Concat I.universe (I.language c))
            I.universe (Concat-more I.universe (Piece I c) I.universe (I.language c) (λ w i. i)
            (λ w i. i.1)) (λ w i. i) w k),
      ),
    )

    abbrev In' : ℕ → Type 0
    In' = Among I.elements

    abbrev mm : ℕ
    mm = I.image c

    abbrev loc' : ℕ → ℕ → ℕ
    loc' = local_product I.product mm I.elements

    abbrev mid' : ℕ → ℕ
    mid' t = I.product (I.product mm t) mm

    in_m : Among I.elements mm
    in_m = m_in I h.generated c c_in els s

    joins' : IsLocal (Among I.elements) I.product mm loc'
    joins' = loc_joins I h.generated c c_in els s

    locals' : (x : ℕ) → InLocal (Among I.elements) I.product mm x
        ↔ Among (local_elements I.product mm I.elements) x
    locals' = locals I h.generated c c_in els s

    pub first_fits : IsFit (first I c els)
    first_fits = record {
      generated = first_generated I h.generated c c_in els s;
      aperiodic = record {
        settles = λ x i. h.aperiodic.settles x
            (span_in I h.generated c c_in els s x i);
      };
      universe = universe_alike (Without (Piece I) c) (Piece (first I c els))
          (Free I.universe (Piece I c)) (Free I.universe (I.language c)) pieces_without free_same
          (free_universe I.product I.identity I.image c (Piece I) I.universe h.universe);
    }

    module _ (E : ℕ → List ℕ → Type 0) (r : IsRight (first I c els) E) where
      exact_without : IsExact (Among els) I.product I.identity (Without (Piece I) c) I.image E
      exact_without = exact_alike (Among els) (Among els) I.product I.identity
          (Piece (first I c els)) (Without (Piece I) c) I.image E E (λ x i. i)
          (λ a x. ((pieces_without a x).1, (pieces_without a x).0)) (λ p w. (λ e. e, λ e. e))
          r.exact

      first_instance : IsInstance (Among els) I.product I.identity (Without (Piece I) c) I.image
      first_instance = record {
        monoid = first_fits.generated.monoid;
        images = λ a x p. first_fits.generated.images a
            (among_without c I.letters a p.0.0 p.1);
      }

      abbrev second_piece : ℕ → List ℕ → Type 0
      second_piece = Piece (second I c els E)

      pieces_letters : (t : ℕ) (y : List ℕ) → Letters (Among els) (Piece I c) E t y
          ↔ second_piece t y
      pieces_letters t y = (
        λ p. (
          p.0,
          Concat-more (Piece I c) (E t) (I.language c) (E t) (λ w i. i.1) (λ w i. i) y
              p.1,
        ),
        λ p. (
          p.0,
          Concat-more (I.language c) (E t) (Piece I c) (E t) (λ w i. (c_in, i)) (λ w i. i)
              y p.1,
        ),
      )

      pieces_behind : (t : ℕ) (y : List ℕ) → Behind (Piece I) c I.product I.identity I.image t y
          ↔ second_piece t y
      pieces_behind t y = (
        λ b. (pieces_letters t y).0
            (behind_letters In' I.product I.identity (Piece I) I.image (has_instance I h.generated)
            c in_m loc' joins' (Among els) E E first_instance exact_without t y b),
        λ p. letters_behind In' I.product I.identity (Piece I) I.image (has_instance I h.generated)
            c in_m loc' joins' (Among els) E E first_instance exact_without t y
            ((pieces_letters t y).1 p),
      )

      opened_same : (w : List ℕ) → Opened I.universe (Piece I c) w
          ↔ Opened I.universe (I.language c) w
      opened_same w = (
        elim [
          | inl k ↦ inl (Concat-more (Piece I c) I.universe (I.language c) I.universe
              (λ w i. i.1) (λ w i. i) w k)
          | inr e ↦ inr e
        ],
        elim [
          | inl k ↦ inl (Concat-more (I.language c) I.universe (Piece I c) I.universe
              (λ w i. (c_in, i)) (λ w i. i) w k)
          | inr e ↦ inr e
        ],
      )

      pub second_fits : IsFit (second I c els E)
      second_fits = record {
        generated = second_generated I h.generated c c_in els s;
        aperiodic = record {
          settles = λ x i.
              (local_aperiodic In' I.product I.identity h.generated.monoid mm in_m loc' joins'
              h.aperiodic).settles x ((locals' x).1 i);
        };
        universe = universe_alike (Behind (Piece I) c I.product I.identity I.image) second_piece
            (Opened I.universe (Piece I c)) (Opened I.universe (I.language c)) pieces_behind
            opened_same
            (opened_universe I.product I.identity I.image c (Piece I) I.universe h.universe);
      }

      -- both instances together give the words with each image
      pub step_right : (F : ℕ → List ℕ → Type 0) → IsRight (second I c els E) F
          → IsRight I (joined_up I c els E F)
      step_right F q = record {
        exact =
            let ef : IsExact (InLocal In' I.product mm) loc' mm (Letters (Among els) (Piece I c) E)
            mid' F =
            exact_alike (Among (local_elements I.product mm I.elements)) (InLocal In' I.product mm)
            loc' mm second_piece (Letters (Among els) (Piece I c) E) mid' F F
            (λ x i. (locals' x).0 i) (λ t y. ((pieces_letters t y).1, (pieces_letters t y).0))
            (λ p w. (λ e. e, λ e. e)) q.exact in
            exact_alike In' In' I.product I.identity (Piece I) (Piece I) I.image
            (Whole (Among els) (InLocal In' I.product mm) I.product (Piece I c) E F)
            (joined_up I c els E F)
            (λ x i. i) (λ a x. (λ i. i, λ i. i))
            (λ p w. (
              Whole-more (Among els) (InLocal In' I.product mm) (Among els)
                  (Among (local_elements I.product mm I.elements)) I.product (Piece I c)
                  (I.language c) E F (λ x i. i) (λ x i. (locals' x).0 i) (λ w i. i.1) p w,
              Whole-more (Among els) (Among (local_elements I.product mm I.elements)) (Among els)
                  (InLocal In' I.product mm) I.product (I.language c) (Piece I c) E F (λ x i. i)
                  (λ x i. (locals' x).1 i) (λ w i. (c_in, i)) p w,
            ))
            (step_exact In' I.product I.identity (Piece I) I.image (has_instance I h.generated) c
            in_m loc' joins' (Among els) E F first_instance exact_without ef);
      }
