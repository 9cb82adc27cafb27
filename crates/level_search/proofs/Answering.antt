-- Answers of a search: there is one, and languages with the same words have the same.
use Rattle.std.proofs.Common.{◌≡◌, inl, inr, ℕ, ◌+◌, ◌≤◌, List, ap, sym, subst, ◌∙◌, arith}
use Rattle.std.proofs.lemmas.Bool.{cases_lt}
use Rattle.language_theory.specs.Representatives.{HasMoreClasses}
use Rattle.language_theory.specs.Languages.{HaveSameWords}
use Rattle.language_theory.proofs.Congruences.{both_directions, other_direction, nerode_agrees}
use Rattle.language_theory.specs.Congruence.{Agree}
use Rattle.exploration.proofs.Searching.{agree_classes}
use Rattle.level_search.specs.declared.level.Level.{Level}
use Rattle.level_search.specs.declared.level.Level.TheVariants as level
use Rattle.level_search.specs.Levels.{Suffices, SamePair, IsWide, HasManyPairs, IsSmall, IsSilent, AreSilent, IsFirst, IsAnswer}

module _ (k : ℕ) (L : List ℕ → Type 0) (width : ℕ → ℕ) (same : ℕ → List ℕ → List ℕ → Type 0)
    (most : ℕ) where
  -- a level that answers is not silent
  wide_speaks : (n : ℕ) → IsWide (width n) → IsSilent k L width same most n → ⊥
  wide_speaks n w s = s.small.narrow w

  many_speaks : (n : ℕ) → HasManyPairs k L width same most n → IsSilent k L width same most n → ⊥
  many_speaks n m s = s.small.few m.many

  yes_speaks : (n : ℕ) → Suffices k L (same n) → IsSilent k L width same most n → ⊥
  yes_speaks n y s = s.fails y

  module _ (first last : ℕ) where
    -- two first levels that speak are one
    one_first : (m n : ℕ) → IsFirst k L width same most first last m
        → IsFirst k L width same most first last n → (IsSilent k L width same most m → ⊥)
        → (IsSilent k L width same most n → ⊥) → m ≡ n
    one_first m n f g a b = elim (cases_lt m n) [
      | inl l ↦ absurd (a (g.before m f.from l))
      | inr l ↦ elim (cases_lt n m) [
        | inl h ↦ absurd (b (f.before n g.from h))
        | inr h ↦ omega arith
      ]
    ]

    -- no level speaks where none up to the last does
    none_speaks : (n : ℕ) → IsFirst k L width same most first last n
        → AreSilent k L width same most first (last + 1) → (IsSilent k L width same most n → ⊥) → ⊥
    none_speaks n f s a = let l = f.to in a (s n f.from (omega arith))

    wide_is_not_small : (n : ℕ) → IsWide (width n) → ¬ IsWide (width n) → ⊥
    wide_is_not_small n w l = l w

    pub one_answer : (a b : Level) → IsAnswer k L width same most first last a
        → IsAnswer k L width same most first last b → a ≡ b
    one_answer (level.Wide m) (level.Wide n) h g =
        ap (λ i. level.Wide i) (one_first m n h.0 g.0 (wide_speaks m h.1) (wide_speaks n g.1))
    one_answer (level.Wide m) (level.Pairs n) h g = let e =
        one_first m n h.0 g.0 (wide_speaks m h.1) (many_speaks n g.1) in
        absurd (wide_is_not_small n (subst (λ i. IsWide (width i)) e h.1) g.1.narrow)
    one_answer (level.Wide m) (level.Yes n) h g = let e =
        one_first m n h.0 g.0 (wide_speaks m h.1) (yes_speaks n g.2) in
        absurd (wide_is_not_small n (subst (λ i. IsWide (width i)) e h.1) g.1.narrow)
    one_answer (level.Wide m) (level.NoneTo n) h g =
        absurd (none_speaks m h.0 g.1 (wide_speaks m h.1))
    one_answer (level.Pairs m) (level.Wide n) h g = let e =
        one_first m n h.0 g.0 (many_speaks m h.1) (wide_speaks n g.1) in
        absurd (wide_is_not_small m (subst (λ i. IsWide (width i)) (sym e) g.1) h.1.narrow)
    one_answer (level.Pairs m) (level.Pairs n) h g =
        ap (λ i. level.Pairs i) (one_first m n h.0 g.0 (many_speaks m h.1) (many_speaks n g.1))
    one_answer (level.Pairs m) (level.Yes n) h g = let e =
        one_first m n h.0 g.0 (many_speaks m h.1) (yes_speaks n g.2) in
        absurd (g.1.few (subst (λ i. HasMoreClasses k (SamePair k L (same i)) most) e h.1.many))
    one_answer (level.Pairs m) (level.NoneTo n) h g =
        absurd (none_speaks m h.0 g.1 (many_speaks m h.1))
    one_answer (level.Yes m) (level.Wide n) h g = let e =
        one_first m n h.0 g.0 (yes_speaks m h.2) (wide_speaks n g.1) in
        absurd (wide_is_not_small m (subst (λ i. IsWide (width i)) (sym e) g.1) h.1.narrow)
    one_answer (level.Yes m) (level.Pairs n) h g = let e =
        one_first m n h.0 g.0 (yes_speaks m h.2) (many_speaks n g.1) in
        absurd (h.1.few
        (subst (λ i. HasMoreClasses k (SamePair k L (same i)) most) (sym e) g.1.many))
    one_answer (level.Yes m) (level.Yes n) h g =
        ap (λ i. level.Yes i) (one_first m n h.0 g.0 (yes_speaks m h.2) (yes_speaks n g.2))
    one_answer (level.Yes m) (level.NoneTo n) h g =
        absurd (none_speaks m h.0 g.1 (yes_speaks m h.2))
    one_answer (level.NoneTo m) (level.Wide n) h g =
        absurd (none_speaks n g.0 h.1 (wide_speaks n g.1))
    one_answer (level.NoneTo m) (level.Pairs n) h g =
        absurd (none_speaks n g.0 h.1 (many_speaks n g.1))
    one_answer (level.NoneTo m) (level.Yes n) h g =
        absurd (none_speaks n g.0 h.1 (yes_speaks n g.2))
    one_answer (level.NoneTo m) (level.NoneTo n) h g = ap (λ i. level.NoneTo i) (h.0 ∙ sym g.0)

    pub none_suffices : (n : ℕ) → IsAnswer k L width same most first last (level.NoneTo n) → (m : ℕ)
        → first ≤ m → m ≤ n → ¬ Suffices k L (same m)
    none_suffices n h m l b = let e : n ≡ last = h.0 in (h.1 m l (omega arith)).fails

-- ---- languages with the same words

module _ (k : ℕ) (L M : List ℕ → Type 0) (width : ℕ → ℕ) (same : ℕ → List ℕ → List ℕ → Type 0)
    (most : ℕ) (agree : HaveSameWords k L M) where
  suffices_agrees : (n : ℕ) → Suffices k L (same n) → Suffices k M (same n)
  suffices_agrees n s =
      record {
        alike = λ u v ou ov h.
            both_directions (other_direction (agree.both u ou))
            (both_directions (s.alike u v ou ov h) (agree.both v ov));
      }

  suffices_back : (n : ℕ) → Suffices k M (same n) → Suffices k L (same n)
  suffices_back n s =
      record {
        alike = λ u v ou ov h.
            both_directions (agree.both u ou)
            (both_directions (s.alike u v ou ov h) (other_direction (agree.both v ov)));
      }

  pairs_agree : (n : ℕ) → Agree k (SamePair k L (same n)) (SamePair k M (same n))
  pairs_agree n =
      record {
        both = λ u v ou ov. let e = (nerode_agrees k L M agree).both u v ou ov in
            (λ h. (e.0 h.0, h.1), λ h. (e.1 h.0, h.1));
      }

  pairs_back : (n : ℕ) → Agree k (SamePair k M (same n)) (SamePair k L (same n))
  pairs_back n = record { both = λ u v ou ov. other_direction ((pairs_agree n).both u v ou ov) }

  many_agrees : (n : ℕ) → HasManyPairs k L width same most n → HasManyPairs k M width same most n
  many_agrees n h =
      record {
        narrow = h.narrow;
        many =
            agree_classes k (SamePair k M (same n)) (SamePair k L (same n)) most (pairs_back n) h.many;
      }

  small_agrees : (n : ℕ) → IsSmall k L width same most n → IsSmall k M width same most n
  small_agrees n h =
      record {
        narrow = h.narrow;
        few =
            λ m. h.few
            (agree_classes k (SamePair k L (same n)) (SamePair k M (same n)) most (pairs_agree n) m);
      }

  silent_agrees : (n : ℕ) → IsSilent k L width same most n → IsSilent k M width same most n
  silent_agrees n h =
      record { small = small_agrees n h.small; fails = λ s. h.fails (suffices_back n s) }

  first_agrees : (first last n : ℕ) → IsFirst k L width same most first last n
      → IsFirst k M width same most first last n
  first_agrees first last n h =
      record { from = h.from; to = h.to; before = λ m l b. silent_agrees m (h.before m l b) }

  pub answer_agrees : (first last : ℕ) (a : Level) → IsAnswer k L width same most first last a
      → IsAnswer k M width same most first last a
  answer_agrees first last (level.Wide n) h = (first_agrees first last n h.0, h.1)
  answer_agrees first last (level.Pairs n) h = (first_agrees first last n h.0, many_agrees n h.1)
  answer_agrees first last (level.Yes n) h =
      (first_agrees first last n h.0, small_agrees n h.1, suffices_agrees n h.2)
  answer_agrees first last (level.NoneTo n) h = (h.0, λ m l b. silent_agrees m (h.1 m l b))
