-- Labels that name classes by their least elements.
use Rattle.std.proofs.Common.{◌≡◌, ◌↔◌, ℕ, ◌<◌, ◌≤◌, List, length, slice_index, sym, subst, arith}
use Rattle.language_theory.specs.Words.{Over, word_at}
use Rattle.language_theory.specs.Congruence.{IsEquivalence}
use Rattle.components.specs.Components.{Reach, IsGraph, AreComponents, target}
use Rattle.components.proofs.Classes.{label_below}
use Rattle.monoid_theory.specs.Green.{IsR, IsL, IsH}
use Rattle.green_relations.specs.GreenClasses.{AreLeastMates}
use Rattle.green_relations.specs.EggBoxes.{Share}
use Rattle.green_relations.specs.Classes.{NameFirsts}
use Rattle.green_relations.specs.Pairs.{ArePairMates}

-- where ideals are what paths lead to, the strong components are the classes of elements that are
-- in each other's ideals
pub component_mates : (words : List (List ℕ)) (d : ℕ) (targets labels : List ℕ)
    (ideal : List ℕ → List ℕ → Type 0) → IsGraph (length words) d targets
    → AreComponents (length words) d targets labels
    → ((i m : ℕ) → i < length words → m < length words
    → ideal (word_at words m) (word_at words i) ↔ Reach d (target d targets) i m)
    → AreLeastMates (λ s t. ideal s t × ideal t s) words labels
component_mates words d targets labels ideal g a paths = record {
  long = a.long;
  within = within;
  related = λ i hi. (
    (paths i (slice_index labels i) hi (within i hi)).1 (a.least i hi).there,
    (paths (slice_index labels i) i (within i hi) hi).1 (a.least i hi).back,
  );
  least = λ i m hi hm r. (a.least i hi).least m ((paths i m hi hm).0 r.0) ((paths m i hm hi).0 r.1);
}
  where
    within : (i : ℕ) → i < length words → slice_index labels i < length words
    within i hi = label_below i g a hi

module _ (k : ℕ) (relation : List ℕ → List ℕ → Type 0) (words : List (List ℕ)) (labels : List ℕ)
    (e : IsEquivalence k relation) (over : (i : ℕ) → i < length words → Over k (word_at words i))
    (m : AreLeastMates relation words labels) where
  related_below : (x y : ℕ) → x < length words → y < length words
      → relation (word_at words x) (word_at words y) → slice_index labels x ≤ slice_index labels y
  related_below x y hx hy r =
      let w = word_at words in
      let p = slice_index labels y in
      let hp = m.within y hy in
      m.least x p hx hp (e.trans (w p) (w y) (w x) (over p hp) (over y hy) (over x hx)
      (m.related y hy) (e.symm (w x) (w y) (over x hx) (over y hy) r))

  -- two elements share a label exactly where they are related
  pub share_related : (x y : ℕ) → x < length words → y < length words
      → Share labels x y ↔ relation (word_at words x) (word_at words y)
  share_related x y hx hy = (to, from)
    where
      w : ℕ → List ℕ
      w = word_at words

      p : ℕ
      p = slice_index labels x

      hp : p < length words
      hp = m.within x hx

      to : slice_index labels x ≡ slice_index labels y → relation (w x) (w y)
      to s = e.trans (w x) (w p) (w y) (over x hx) (over p hp) (over y hy)
          (e.symm (w p) (w x) (over p hp) (over x hx) (m.related x hx))
          (subst (λ (z : ℕ). relation (w z) (w y)) (sym s) (m.related y hy))

      from : relation (w x) (w y) → slice_index labels x ≡ slice_index labels y
      from r = omega (
        arith,
        related_below x y hx hy r,
        related_below y x hy hx (e.symm (w x) (w y) (over x hx) (over y hy) r),
      )

  pub mates_name_firsts : NameFirsts (length words) labels
  mates_name_firsts = record {
    long = m.long;
    below = λ i hi. m.least i i hi hi (e.refl (word_at words i) (over i hi));
    own = λ i hi. (share_related (slice_index labels i) i (m.within i hi) hi).1 (m.related i hi);
  }

-- the classes that R and L have in common are those of H
pub pair_mates_are_h : (k : ℕ) (same : List ℕ → List ℕ → Type 0) (words : List (List ℕ))
    (r l h : List ℕ) → ((i : ℕ) → i < length words → Over k (word_at words i))
    → IsEquivalence k (IsR k same) → IsEquivalence k (IsL k same)
    → AreLeastMates (IsR k same) words r → AreLeastMates (IsL k same) words l
    → ArePairMates r l (length words) h → AreLeastMates (IsH k same) words h
pair_mates_are_h k same words r l h over er el mr ml p = record {
  long = p.long;
  within = within;
  related = λ i hi. (
    (share_r (slice_index h i) i (within i hi) hi).0 (p.one i hi),
    (share_l (slice_index h i) i (within i hi) hi).0 (p.two i hi),
  );
  least = λ i m hi hm q.
      p.least i m hi hm ((share_r m i hm hi).1 q.0) ((share_l m i hm hi).1 q.1);
}
  where
    within : (i : ℕ) → i < length words → slice_index h i < length words
    within i hi = omega (arith, p.below i hi)

    share_r : (x y : ℕ) → x < length words → y < length words
        → Share r x y ↔ IsR k same (word_at words x) (word_at words y)
    share_r = share_related k (IsR k same) words r er over mr

    share_l : (x y : ℕ) → x < length words → y < length words
        → Share l x y ↔ IsL k same (word_at words x) (word_at words y)
    share_l = share_related k (IsL k same) words l el over ml
