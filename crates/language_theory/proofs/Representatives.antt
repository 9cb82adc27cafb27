-- The laws of lists of least representatives.
use Rattle.std.proofs.Common.{◌≡◌, ◌≢◌, ℕ, zero, suc, ◌<◌, ◌≤◌, ◌⊎◌, inl, inr, List, [], ◌∷◌, ◌++◌, length, refl, sym, subst, ◌∙◌, arith}
use Rattle.std.proofs.lemmas.Bool.{cases_lt}
use Rattle.language_theory.specs.Words.{Over, word_at, IsFactor, ◌⊏◌}
use Rattle.language_theory.specs.Representatives.{IsPlaceOf, AreRepresentatives, IsReduced, AreApart, HasMoreClasses, HaveAsManyClasses}
use Rattle.language_theory.specs.Congruence.{IsEquivalence, IsRightCongruence, IsCongruence, Agree}
use Rattle.language_theory.proofs.Shortlex.{shortlex_irrefl, shortlex_asymm, shortlex_trichotomy, shortlex_nil, shortlex_neither, shortlex_append_word, shortlex_before, over_or_not, over_append, over_prefix, over_suffix}
use Rattle.language_theory.proofs.Congruences.{right_congruence, agree_turned}
use Rattle.language_theory.proofs.Numbers.{pigeonhole, equal_or_not}

-- a word has one place
pub place_is_one : (same : List ℕ → List ℕ → Type 0) (words : List (List ℕ)) (w : List ℕ) (i j : ℕ)
    → IsPlaceOf same words w i → IsPlaceOf same words w j → i ≡ j
place_is_one same words w i j a b = b.only i a.within a.related

-- the empty word is reduced
pub empty_is_reduced : (k : ℕ) (same : List ℕ → List ℕ → Type 0) → IsReduced k same []
empty_is_reduced k same = record { over = tt; least = λ v o s. shortlex_nil v }

-- two rising lists with the same words are equal
abbrev pub Rises : List (List ℕ) → Type 0
Rises words = (i j : ℕ) → i < j → j < length words → word_at words i ⊏ word_at words j

abbrev pub HasAll : List (List ℕ) → List (List ℕ) → Type 0
HasAll words others =
    (i : ℕ) → i < length words → (j : ℕ) × (j < length others)
    × (word_at others j ≡ word_at words i)

rises_tail : (x : List ℕ) (xs : List (List ℕ)) → Rises (x ∷ xs) → Rises xs
rises_tail x xs r i j h g = r (suc i) (suc j) (omega arith) (omega arith)

first_alike : (x y : List ℕ) (xs ys : List (List ℕ)) → Rises (x ∷ xs) → Rises (y ∷ ys)
    → HasAll (x ∷ xs) (y ∷ ys) → HasAll (y ∷ ys) (x ∷ xs) → x ≡ y
first_alike x y xs ys r s f g = by (f 0 (omega arith)) (g 0 (omega arith))
  where
    by : (j : ℕ) × (j < length (y ∷ ys)) × (word_at (y ∷ ys) j ≡ x)
        → (i : ℕ) × (i < length (x ∷ xs)) × (word_at (x ∷ xs) i ≡ y) → x ≡ y
    by (zero, h, e) q = sym e
    by (suc j, h, e) (zero, l, d) = d
    by (suc j, h, e) (suc i, l, d) =
        absurd (shortlex_asymm x y (subst (λ (w : List ℕ). x ⊏ w) d (r 0 (suc i) (omega arith) l))
        (subst (λ (w : List ℕ). y ⊏ w) e (s 0 (suc j) (omega arith) h)))

has_all_tail : (x y : List ℕ) (xs ys : List (List ℕ)) → Rises (x ∷ xs) → x ≡ y
    → HasAll (x ∷ xs) (y ∷ ys) → HasAll xs ys
has_all_tail x y xs ys r same f i l = by (f (suc i) (omega arith))
  where
    by : (j : ℕ) × (j < length (y ∷ ys)) × (word_at (y ∷ ys) j ≡ word_at xs i)
        → (j : ℕ) × (j < length ys) × (word_at ys j ≡ word_at xs i)
    by (zero, h, e) =
        absurd (shortlex_irrefl x (subst (λ (w : List ℕ). x ⊏ w) (sym (same ∙ e))
        (r 0 (suc i) (omega arith) (omega arith))))
    by (suc j, h, e) = (j, omega arith, e)

pub rising_lists_equal : (xs ys : List (List ℕ)) → Rises xs → Rises ys → HasAll xs ys → HasAll ys xs
    → xs ≡ ys
rising_lists_equal [] [] r s f g = refl
rising_lists_equal [] (y ∷ ys) r s f g = absurd (let h = (g 0 (omega arith)).1 in omega arith)
rising_lists_equal (x ∷ xs) [] r s f g = absurd (let h = (f 0 (omega arith)).1 in omega arith)
rising_lists_equal (x ∷ xs) (y ∷ ys) r s f g =
    let first : x ≡ y = first_alike x y xs ys r s f g in
    let rest : xs ≡ ys = rising_lists_equal xs ys (rises_tail x xs r) (rises_tail y ys s)
    (has_all_tail x y xs ys r first f) (has_all_tail y x ys xs s (sym first) g) in
    cc

module _ (k : ℕ) (same : List ℕ → List ℕ → Type 0) (words : List (List ℕ))
    (r : AreRepresentatives k same words) where
  -- a reduced word is listed
  pub reduced_is_listed : (w : List ℕ) → IsReduced k same w → (i : ℕ) × (i < length words)
      × (word_at words i ≡ w)
  reduced_is_listed w d =
      let (i, p) = r.place w d.over in (
        i,
        p.within,
        shortlex_neither (word_at words i) w
            (d.least (word_at words i) (r.over i p.within) p.related)
            (r.least i w p.within d.over p.related),
      )

  -- a smaller word stands at a smaller place
  pub listed_order : (i j : ℕ) → i < length words → j < length words
      → word_at words i ⊏ word_at words j → i < j
  listed_order i j h g l = elim (cases_lt i j) [
    | inl a ↦ a
    | inr a ↦ elim (equal_or_not i j) [
      | inl e ↦ absurd (shortlex_irrefl (word_at words j)
          (subst (λ (n : ℕ). word_at words n ⊏ word_at words j) e l))
      | inr n ↦ absurd (shortlex_asymm (word_at words i) (word_at words j) l
          (r.rise j i (omega arith) h))
    ]
  ]

  -- no word stands at two places
  pub listed_once : (i j : ℕ) → i < length words → j < length words
      → word_at words i ≡ word_at words j → i ≡ j
  listed_once i j h g e = elim (cases_lt i j) [
    | inl a ↦ absurd (shortlex_irrefl (word_at words j)
        (subst (λ (w : List ℕ). w ⊏ word_at words j) e (r.rise i j a g)))
    | inr a ↦ elim (cases_lt j i) [
      | inl b ↦ absurd (shortlex_irrefl (word_at words j)
          (subst (λ (w : List ℕ). word_at words j ⊏ w) e (r.rise j i b h)))
      | inr b ↦ omega arith
    ]
  ]

  abbrev place_number : (w : List ℕ) → Over k w ⊎ ¬ Over k w → ℕ
  place_number w (inl o) = (r.place w o).0
  place_number w (inr n) = 0

  place_number_is : (w : List ℕ) (d : Over k w ⊎ ¬ Over k w) → Over k w
      → IsPlaceOf same words w (place_number w d)
  place_number_is w (inl o) p = (r.place w o).1
  place_number_is w (inr n) p = absurd (n p)

  abbrev pub word_place : List ℕ → ℕ
  word_place w = place_number w (over_or_not k w)

  -- the place of a word, as a function
  pub word_place_is : (w : List ℕ) → Over k w → IsPlaceOf same words w (word_place w)
  word_place_is w o = place_number_is w (over_or_not k w) o

  -- some word is listed
  pub list_is_not_empty : 0 < length words
  list_is_not_empty = let (i, p) = r.place [] tt in let h = p.within in omega arith

  module _ (q : IsEquivalence k same) where
    pub listed_is_reduced : (i : ℕ) → i < length words → IsReduced k same (word_at words i)
    listed_is_reduced i h =
        record {
          over = r.over i h;
          least =
              λ v o s. r.least i v h o (q.symm v (word_at words i) o (r.over i h) s);
        }

    -- a listed word is related to no other listed word
    pub listed_apart : (i j : ℕ) → i < length words → j < length words
        → same (word_at words i) (word_at words j) → i ≡ j
    listed_apart i j h g s =
        let (p, at) = r.place (word_at words j) (r.over j g) in
        at.only i h s ∙ sym (at.only j g (q.refl (word_at words j) (r.over j g)))

    -- a listed word has its own place
    pub place_of_listed : (i : ℕ) → i < length words → IsPlaceOf same words (word_at words i) i
    place_of_listed i h = let o = r.over i h in let (j, p) = r.place (word_at words i) o in
        subst (IsPlaceOf same words (word_at words i))
        (sym (p.only i h (q.refl (word_at words i) o))) p

    -- the empty word is listed first
    pub first_is_empty : word_at words 0 ≡ []
    first_is_empty = by (r.place [] tt)
      where
        empty_at : (i : ℕ) → IsPlaceOf same words [] i → word_at words i ≡ []
        empty_at i p = elim (shortlex_trichotomy (word_at words i) []) [
          | inl h ↦ absurd (shortlex_nil (word_at words i) h)
          | inr (inl h) ↦ h
          | inr (inr h) ↦ absurd (r.least i [] p.within tt p.related h)
        ]

        by : (i : ℕ) × IsPlaceOf same words [] i → word_at words 0 ≡ []
        by (zero, p) = empty_at zero p
        by (suc i, p) =
            absurd (shortlex_nil (word_at words 0)
            (subst (λ (w : List ℕ). word_at words 0 ⊏ w) (empty_at (suc i) p)
            (r.rise 0 (suc i) (omega arith) p.within)))

    pub place_of_empty : IsPlaceOf same words [] 0
    place_of_empty =
        subst (λ (w : List ℕ). IsPlaceOf same words w 0) first_is_empty
        (place_of_listed 0 list_is_not_empty)

    -- related words have one place
    pub place_of_related : (u v : List ℕ) (i : ℕ) → Over k u → Over k v → same u v
        → IsPlaceOf same words u i → IsPlaceOf same words v i
    place_of_related u v i ou ov s p = record {
      within = p.within;
      related = q.trans (word_at words i) u v (r.over i p.within) ou ov p.related s;
      only = λ j h g. p.only j h (q.trans (word_at words j) v u (r.over j h) ov ou g
          (q.symm u v ou ov s));
    }

    pub same_place_related : (u v : List ℕ) (i : ℕ) → Over k u → Over k v → IsPlaceOf same words u i
        → IsPlaceOf same words v i → same u v
    same_place_related u v i ou ov p s =
        q.trans u (word_at words i) v ou (r.over i p.within) ov
        (q.symm (word_at words i) u (r.over i p.within) ou p.related) s.related

    -- the list decides the relation
    pub related_or_not : (u v : List ℕ) → Over k u → Over k v → same u v ⊎ ¬ same u v
    related_or_not u v ou ov =
        let (i, p) = r.place u ou in
        let (j, s) = r.place v ov in
        elim (equal_or_not i j) [
          | inl e ↦ inl (same_place_related u v i ou ov p
              (subst (λ (n : ℕ). IsPlaceOf same words v n) (sym e) s))
          | inr n ↦ inr (λ h. n (s.only i p.within (place_of_related u v i ou ov h p).related))
        ]

    -- there are not more classes than listed words
    pub no_more_classes : (others : List (List ℕ)) → AreApart k same others
        → length others ≤ length words
    no_more_classes others a =
        pigeonhole (length others) (length words) (λ i. word_place (word_at others i))
        (λ i h. (at i h).within) other
      where
        at : (i : ℕ) → i < length others → IsPlaceOf same words (word_at others i)
            (word_place (word_at others i))
        at i h = word_place_is (word_at others i) (a.over i h)

        other : (i j : ℕ) → i < j → j < length others → word_place (word_at others i) ≢ word_place
            (word_at others j)
        other i j h g e =
            a.apart i j h g (same_place_related (word_at others i) (word_at others j)
            (word_place (word_at others j)) (a.over i (omega arith)) (a.over j g)
            (subst (λ (n : ℕ). IsPlaceOf same words (word_at others i) n) e
            (at i (omega arith))) (at j g))

    pub not_more_classes : ¬ HasMoreClasses k same (length words)
    not_more_classes (others, h, a) = let l = no_more_classes others a in omega arith

    pub listed_are_apart : AreApart k same words
    listed_are_apart =
        record {
          over = r.over;
          apart = λ i j h g s. let e = listed_apart i j (omega arith) g s in
              omega arith;
        }

    pub has_more_classes : (m : ℕ) → m < length words → HasMoreClasses k same m
    has_more_classes m h = (words, h, listed_are_apart)

-- two lists of representatives of one equivalence are equal
pub one_list : (k : ℕ) (same : List ℕ → List ℕ → Type 0) (xs ys : List (List ℕ))
    → IsEquivalence k same → AreRepresentatives k same xs → AreRepresentatives k same ys → xs ≡ ys
one_list k same xs ys q r s =
    rising_lists_equal xs ys r.rise s.rise (λ i h. reduced_is_listed k same ys s (word_at xs i)
    (listed_is_reduced k same xs r q i h)) (λ i h. reduced_is_listed k same xs r (word_at ys i)
    (listed_is_reduced k same ys s q i h))

-- relations that agree on words over k letters
module _ (k : ℕ) (same alike : List ℕ → List ℕ → Type 0) (a : Agree k same alike) where
  pub agreeing_equivalence : IsEquivalence k same → IsEquivalence k alike
  agreeing_equivalence q = record {
    refl = λ u o. (a.both u u o o).0 (q.refl u o);
    symm = λ u v ou ov h. (a.both v u ov ou).0 (q.symm u v ou ov ((a.both u v ou ov).1 h));
    trans = λ u v w ou ov ow h g. (a.both u w ou ow).0
        (q.trans u v w ou ov ow ((a.both u v ou ov).1 h) ((a.both v w ov ow).1 g));
  }

  pub agreeing_list : (words : List (List ℕ)) → AreRepresentatives k same words
      → AreRepresentatives k alike words
  agreeing_list words r = record {
    over = r.over;
    rise = r.rise;
    place = λ w o. let (i, p) = r.place w o in (
      i,
      record {
        within = p.within;
        related = (a.both (word_at words i) w (r.over i p.within) o).0 p.related;
        only = λ j h s. p.only j h ((a.both (word_at words j) w (r.over j h) o).1 s);
      },
    );
    least = λ i w h o s. r.least i w h o ((a.both (word_at words i) w (r.over i h) o).1 s);
  }

agreeing_more_classes : (k : ℕ) (same alike : List ℕ → List ℕ → Type 0) → Agree k same alike
    → (n : ℕ) → HasMoreClasses k same n → HasMoreClasses k alike n
agreeing_more_classes k same alike a n (words, h, p) = (
  words,
  h,
  record {
    over = p.over;
    apart = λ i j g l s. p.apart i j g l
        ((a.both (word_at words i) (word_at words j) (p.over i (omega arith)) (p.over j l)).1 s);
  },
)

-- and have as many classes
pub agreeing_classes : (k : ℕ) (same alike : List ℕ → List ℕ → Type 0) → Agree k same alike
    → HaveAsManyClasses k same alike
agreeing_classes k same alike a =
    record {
      both = λ n. (
        agreeing_more_classes k same alike a n,
        agreeing_more_classes k alike same
            (agree_turned k same alike a) n,
      );
    }

-- a prefix of a reduced word of a right congruence is reduced
pub reduced_prefix : (k : ℕ) (same : List ℕ → List ℕ → Type 0) (u v : List ℕ)
    → IsRightCongruence k same → IsReduced k same (u ++ v) → IsReduced k same u
reduced_prefix k same u v c r =
    let ou = over_prefix k u v r.over in
    let ov = over_suffix k u v r.over in
    record {
      over = ou;
      least = λ w o s h. r.least (w ++ v) (over_append k w v o ov)
          (c.right w u v o ou ov s) (shortlex_append_word w u v h);
    }

-- a suffix of a reduced word of a congruence is reduced
pub reduced_suffix : (k : ℕ) (same : List ℕ → List ℕ → Type 0) (u v : List ℕ) → IsCongruence k same
    → IsReduced k same (u ++ v) → IsReduced k same v
reduced_suffix k same u v c r =
    let ou = over_prefix k u v r.over in
    let ov = over_suffix k u v r.over in
    record {
      over = ov;
      least = λ w o s h. r.least (u ++ w) (over_append k u w ou o)
          (c.left w v u o ov ou s) (shortlex_before u w v ∙ h);
    }

-- a factor of a reduced word of a congruence is reduced
pub reduced_factor : (k : ℕ) (same : List ℕ → List ℕ → Type 0) (u w : List ℕ) → IsCongruence k same
    → IsReduced k same w → IsFactor u w → IsReduced k same u
reduced_factor k same u w c r (p, q, e) =
    reduced_prefix k same u q (right_congruence k same c)
    (reduced_suffix k same p (u ++ q) c (subst (λ (x : List ℕ). IsReduced k same x) (sym e) r))
