-- The least element with another one in its class, by the labels of the classes.
use Rattle.std.proofs.Common.{◌≡◌, ◌≢◌, ◌↔◌, ℕ, ◌+◌, ◌<◌, ◌≤◌, ◌⊎◌, inl, inr, List, length, slice_index, ap, sym, subst, ◌∙◌, arith}
use Rattle.std.specs.Prelude.{min, ◌==◌, IsTrue}
use Rattle.std.proofs.lemmas.Grind.{common_steps}
use Rattle.std.proofs.lemmas.Bool.{cases_lt}
use Rattle.language_theory.specs.Words.{Over, word_at}
use Rattle.language_theory.specs.Languages.{IsLeastWord}
use Rattle.language_theory.specs.Congruence.{IsEquivalence, IsCongruence}
use Rattle.language_theory.specs.Representatives.{AreRepresentatives, IsPlaceOf}
use Rattle.language_theory.proofs.Representatives.{listed_apart}
use Rattle.monoid_theory.proofs.Trivial.{trivial_by_listed}
use Rattle.green_relations.specs.GreenClasses.{AreLeastMates}
use Rattle.green_relations.proofs.Mates.{share_related}
use Rattle.answers.specs.declared.subwords.Side.{Side}
use Rattle.piecewise_testable.specs.Sides.{IsMate, IsTrivialOn, IsOther, HasOther}
use Rattle.piecewise_testable.proofs.BothSides.{mate_equivalence, mate_of_related}
use Rattle.piecewise_testable.proofs.LeastPlaces.{least_by_place}

-- Of the first c elements, `first` is the least one whose class has another one of them, if it is
-- below n.
pub record IsFirstShared (labels : List ℕ) (n c first : ℕ) : Type 0 where
  pub within : first ≤ n
  pub shared : first < n → (j : ℕ) × (j < c) × (slice_index labels j ≡ first) × (first < j)
  pub least : (j : ℕ) → j < c → slice_index labels j < j → first ≤ slice_index labels j

pub none_shared : (labels : List ℕ) (n : ℕ) → IsFirstShared labels n 0 n
none_shared labels n = record {
  within = omega arith;
  shared = λ l. absurd (omega arith);
  least = λ j l. absurd (omega arith);
}

less : (labels : List ℕ) (n c first : ℕ) → IsFirstShared labels n c first
    → slice_index labels c < c
    → IsFirstShared labels n (c + 1) (min first (slice_index labels c))
less labels n c first h l = record {
  within = let w = h.within in omega arith;
  shared = λ m. shared m (cases_lt (slice_index labels c) first);
  least = λ j m d. least j m d (cases_lt j c);
}
  where
    shared : min first (slice_index labels c) < n
        → (slice_index labels c < first) ⊎ (first ≤ slice_index labels c)
        → (j : ℕ) × (j < c + 1) × (slice_index labels j ≡ min first (slice_index labels c))
        × (min first (slice_index labels c) < j)
    shared m (inl a) = (c, omega arith, omega arith, omega arith)
    shared m (inr a) =
        let (j, b, e, f) = h.shared (omega arith) in
        (j, omega arith, omega arith, omega arith)

    least : (j : ℕ) → j < c + 1 → slice_index labels j < j → (j < c) ⊎ (c ≤ j)
        → min first (slice_index labels c) ≤ slice_index labels j
    least j m d (inl a) = let b = h.least j a d in omega arith
    least j m d (inr a) =
        subst (λ (i : ℕ). min first (slice_index labels c) ≤ slice_index labels i)
        (let e : c ≡ j = omega arith in e) (omega arith)

not_less : (labels : List ℕ) (n c first : ℕ) → IsFirstShared labels n c first
    → c ≤ slice_index labels c → IsFirstShared labels n (c + 1) first
not_less labels n c first h l = record {
  within = h.within;
  shared = λ m. (let (j, b, e, f) = h.shared m in (j, omega arith, e, f));
  least = λ j m d. least j m d (cases_lt j c);
}
  where
    least : (j : ℕ) → j < c + 1 → slice_index labels j < j → (j < c) ⊎ (c ≤ j)
        → first ≤ slice_index labels j
    least j m d (inl a) = h.least j a d
    least j m d (inr a) =
        let e : j ≡ c = omega arith in
        let f : slice_index labels c < c =
        subst (λ (i : ℕ). slice_index labels i < i) e d in
        absurd (omega arith)

-- one element more, with its label
pub shared_less : (labels : List ℕ) (n c first label new : ℕ) → IsFirstShared labels n c first
    → label ≡ slice_index labels c → new ≡ min first label → label < c
    → IsFirstShared labels n (c + 1) new
shared_less labels n c first label new h e f l =
    subst (IsFirstShared labels n (c + 1)) (sym (f ∙ ap (min first) e))
    (less labels n c first h (subst (λ (i : ℕ). i < c) e l))

pub shared_more : (labels : List ℕ) (n c first label new : ℕ) → IsFirstShared labels n c first
    → label ≡ slice_index labels c → new ≡ first → c ≤ label
    → IsFirstShared labels n (c + 1) new
shared_more labels n c first label new h e f l =
    subst (IsFirstShared labels n (c + 1)) (sym f)
    (not_less labels n c first h (subst (λ (i : ℕ). c ≤ i) e l))

module _ (side : Side) (k : ℕ) (same : List ℕ → List ℕ → Type 0) (words : List (List ℕ))
    (q : IsCongruence k same) (l : AreRepresentatives k same words) (labels : List ℕ)
    (mates : AreLeastMates (IsMate side k same) words labels) where
  e : IsEquivalence k (IsMate side k same)
  e = mate_equivalence k same q side

  share : (i j : ℕ) → i < length words → j < length words
      → (slice_index labels i ≡ slice_index labels j)
      ↔ IsMate side k same (word_at words i) (word_at words j)
  share = share_related k (IsMate side k same) words labels e l.over mates

  label_below : (i : ℕ) → i < length words → slice_index labels i ≤ i
  label_below i h = mates.least i i h h (e.refl (word_at words i) (l.over i h))

  -- a word of another place in the class
  place_of_other : (i : ℕ) → i < length words → HasOther side k same (word_at words i)
      → (j : ℕ) × (j < length words) × (slice_index labels i ≡ slice_index labels j) × (i ≢ j)
  place_of_other i h (t, ot, (m, n)) = by (l.place t ot)
    where
      by : (j : ℕ) × IsPlaceOf same words t j
          → (j : ℕ) × (j < length words) × (slice_index labels i ≡ slice_index labels j) × (i ≢ j)
      by (j, at) =
          let oi = l.over i h in
          let oj = l.over j at.within in
          let back = q.equivalence.symm (word_at words j) t oj ot at.related in (
            j,
            at.within,
            (share i j h at.within).1 (e.trans (word_at words i) t (word_at words j) oi ot oj m
                (mate_of_related k same q side t (word_at words j) ot oj back)),
            λ f. n (subst (λ (p : ℕ). same (word_at words p) t) (sym f) at.related),
          )

  -- the class of a word that is related to a listed one
  pub other_closed : (u v : List ℕ) → Over k u → Over k v → same u v → HasOther side k same u
      → HasOther side k same v
  other_closed u v ou ov h (t, ot, (m, n)) = (
    t,
    ot,
    (
      e.trans v u t ov ou ot
          (e.symm u v ou ov (mate_of_related k same q side u v ou ov h)) m,
      λ f. n (q.equivalence.trans u v t ou ov ot h f),
    ),
  )

  other_of_shared : (i j : ℕ) → j < length words → slice_index labels j ≡ i → i < j
      → HasOther side k same (word_at words i)
  other_of_shared i j h f m =
      let hi : i < length words = omega arith in (
        word_at words j,
        l.over j h,
        (
          subst (λ (p : ℕ). IsMate side k same (word_at words p) (word_at words j)) f
              (mates.related j h),
          λ s. (let g = listed_apart k same words l q.equivalence i j hi h s in omega arith),
        ),
      )

  pub first_is_least : (c first : ℕ) → c ≡ length words
      → IsFirstShared labels (length words) c first → first < length words
      → IsLeastWord k (HasOther side k same) (word_at words first)
  first_is_least c first whole all m = by (h.shared m)
    where
      h : IsFirstShared labels (length words) (length words) first
      h = subst (λ (i : ℕ). IsFirstShared labels (length words) i first) whole all

      none : (j : ℕ) → j < first → ¬ HasOther side k same (word_at words j)
      none j less o =
          let hj : j < length words = omega arith in
          let (p, hp, s, n) = place_of_other j hj o in
          let a = label_below j hj in
          let b = label_below p hp in
          elim (cases_lt j p) [
            | inl c ↦ (let d = h.least p hp (omega arith) in omega arith)
            | inr c ↦ (let d = h.least j hj (omega arith) in omega arith)
          ]

      by : (j : ℕ) × (j < length words) × (slice_index labels j ≡ first) × (first < j)
          → IsLeastWord k (HasOther side k same) (word_at words first)
      by (j, hj, f, less) =
          least_by_place k same words l q.equivalence (HasOther side k same) other_closed first m
          (other_of_shared first j hj f less) none

  pub none_is_trivial : (c first : ℕ) → c ≡ length words
      → IsFirstShared labels (length words) c first → length words ≤ first
      → IsTrivialOn side k same
  none_is_trivial c first whole all m =
      (trivial_by_listed k same (IsMate side k same) words q.equivalence l e
      (mate_of_related k same q side)).1 one
    where
      h : IsFirstShared labels (length words) (length words) first
      h = subst (λ (i : ℕ). IsFirstShared labels (length words) i first) whole all

      own : (j : ℕ) → j < length words → slice_index labels j ≡ j
      own j hj = elim (cases_lt (slice_index labels j) j) [
        | inl a ↦ (let b = h.least j hj a in let c = mates.within j hj in absurd (omega arith))
        | inr a ↦ (let b = label_below j hj in omega arith)
      ]

      one : (i j : ℕ) → i < length words → j < length words
          → IsMate side k same (word_at words i) (word_at words j) → i ≡ j
      one i j hi hj r = sym (own i hi) ∙ ((share i j hi hj).1 r ∙ own j hj)

  -- a word of a place is another element of the class of a listed one exactly where the place is
  -- another one with the same label
  other_by_place : (i t : ℕ) (w : List ℕ) → i < length words → Over k w
      → IsPlaceOf same words w t
      → ((t ≢ i) × (slice_index labels t ≡ slice_index labels i))
      ↔ IsOther side k same (word_at words i) w
  other_by_place i t w h o at = (to, from)
    where
      ot : Over k (word_at words t)
      ot = l.over t at.within

      mate : IsMate side k same (word_at words t) w
      mate = mate_of_related k same q side (word_at words t) w ot o at.related

      to : (t ≢ i) × (slice_index labels t ≡ slice_index labels i)
          → IsOther side k same (word_at words i) w
      to (n, f) = (
        e.trans (word_at words i) (word_at words t) w (l.over i h) ot o
            ((share i t h at.within).0 (sym f)) mate,
        λ s. n (sym (at.only i h s)),
      )

      from : IsOther side k same (word_at words i) w
          → (t ≢ i) × (slice_index labels t ≡ slice_index labels i)
      from (m, n) = (
        λ f. n (subst (λ (p : ℕ). same (word_at words p) w) f at.related),
        sym ((share i t h at.within).1
            (e.trans (word_at words i) w (word_at words t) (l.over i h) o ot m
            (e.symm (word_at words t) w ot o mate))),
      )

  -- the same by a test of the labels
  pub other_by_labels : (i t p r : ℕ) (w : List ℕ) → i < length words → Over k w
      → IsPlaceOf same words w t → p ≡ slice_index labels t → r ≡ slice_index labels i → t ≢ i
      → IsTrue (p == r) ↔ IsOther side k same (word_at words i) w
  other_by_labels i t p r w h o at e f n = (
    λ m. (other_by_place i t w h o at).0
        (n, sym e ∙ ((let g : p ≡ r = grind (arith, common_steps) in g) ∙ f)),
    λ m. (let g : p ≡ r = e ∙ ((other_by_place i t w h o at).1 m).1 ∙ sym f in
        grind (arith, common_steps)),
  )
