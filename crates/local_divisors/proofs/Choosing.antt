-- What is chosen of an instance in flat tables.
use Rattle.std.proofs.Common.{◌≡◌, ◌<◌, ◌==◌, ℕ, List, [], ◌∷◌, length, slice_index, All, sym}
use Rattle.std.proofs.Common.{subst, inl, inr, arith, refl, ap, ◌∙◌, Bool, suc, zero}
use Rattle.std.proofs.lemmas.Bool.Decides.{eqb_tells}
use Rattle.language_theory.specs.Automaton.{is_marked}
use Rattle.star_free_theory.specs.Instance.{Among}
use Rattle.star_free_theory.specs.Construction.{keep, without, span, first_other, is_none_left}
use Rattle.star_free_theory.proofs.FiniteLists.{without_among}
use Rattle.star_free_theory.proofs.Parts.{IsSpan}
use Rattle.star_free_theory.proofs.Spans.{span_spans}
use Rattle.star_free_theory.proofs.Depths.{other_found}
use Rattle.local_divisors.specs.Instances.{Multiplication, times, AreSpanMarks}
use Rattle.local_divisors.specs.Tasks.{Flat, IsReady}
use Rattle.local_divisors.proofs.Alike.{marks_span}

pub all_among : (n : ℕ) (xs : List ℕ) (x : ℕ) → All (λ y. y < n) xs → Among xs x → x < n
all_among n [] x h i = absurd i
all_among n (y ∷ ys) x h (inl e) = subst (λ (z : ℕ). z < n) (sym e) (h 0 0 (omega arith))
all_among n (y ∷ ys) x h (inr i) = all_among n ys x (λ k d l. h (suc k) d (omega arith)) i

pub among_all : (n : ℕ) (xs : List ℕ) → ((x : ℕ) → Among xs x → x < n) → All (λ y. y < n) xs
among_all n [] h k d l = absurd (omega arith)
among_all n (y ∷ ys) h zero d l = h y (inl refl)
among_all n (y ∷ ys) h (suc k) d l = among_all n ys (λ x i. h x (inr i)) k d (omega arith)

module _ (p : Multiplication) (t : Flat) (h : IsReady p t) (many : ¬ (length t.elements ≡ 1)) where
  abbrev pub letter : ℕ
  letter = first_other (slice_index t.images) t.identity t.letters

  -- the letter that is chosen by a task's own parts
  pub letter_chosen : (xs ys : List ℕ) (i l : ℕ) → xs ≡ t.images → ys ≡ t.letters
      → i ≡ t.identity → l ≡ first_other (slice_index xs) i ys → l ≡ letter
  letter_chosen xs ys i l e f g is =
      is ∙ ap (λ (zs : List ℕ). first_other (slice_index zs) i ys) e
      ∙ ap (first_other (slice_index t.images) i) f
      ∙ ap (λ (z : ℕ). first_other (slice_index t.images) z t.letters) g

  -- and the others
  pub others_chosen : (ys os : List ℕ) (l : ℕ) → ys ≡ t.letters → l ≡ letter
      → os ≡ without l ys → os ≡ without letter t.letters
  others_chosen ys os l e f is =
      is ∙ ap (without l) e ∙ ap (λ (z : ℕ). without z t.letters) f

  pub letter_in : Among t.letters letter
  letter_in = (other_found t.elements t.letters (times p) t.identity (slice_index t.images)
      h.generated many).0

  pub letter_within : letter < length t.images
  letter_within = all_among (length t.images) t.letters letter h.letters_within letter_in

  pub image_in : Among t.elements (slice_index t.images letter)
  image_in = h.generated.images letter letter_in

  pub image_within : slice_index t.images letter < p.table.side
  image_within = h.images_within letter 0 letter_within

  pub identity_within : t.identity < p.table.side
  identity_within = all_among p.table.side t.elements t.identity h.elements_within
      h.generated.monoid.one_in

  pub others_within : All (λ a. a < length t.images) (without letter t.letters)
  others_within = among_all (length t.images) (without letter t.letters)
      (λ a i. all_among (length t.images) t.letters a h.letters_within
      (without_among letter t.letters a i).0)

  pub choice_spans : IsSpan (times p) t.identity (slice_index t.images) (without letter t.letters)
      (span (times p) t.identity (slice_index t.images) (without letter t.letters) t.elements)
  choice_spans = span_spans (times p) t.identity (slice_index t.images) (without letter t.letters)
      t.elements h.generated.monoid h.generated.distinct (λ a i. h.generated.images a
      (without_among letter t.letters a i).0)

  pub submonoid_marked : (marks : List Bool) → AreSpanMarks p t.identity (without letter t.letters)
      t.images marks
      → keep (is_marked marks) t.elements ≡ span (times p) t.identity (slice_index t.images)
      (without letter t.letters) t.elements
  submonoid_marked marks m = marks_span (times p) t.identity (slice_index t.images)
      (without letter t.letters) t.elements (is_marked marks) choice_spans
      (λ x i e. m.spelled x (all_among p.table.side t.elements x h.elements_within i) e) m.holds

pub none_left : (xs : List ℕ) → (length xs == 0) ≡ is_none_left xs
none_left [] = refl
none_left (x ∷ xs) = elim (eqb_tells (length (x ∷ xs)) 0) [
  | inl d ↦ absurd (let e = d.1 in
      omega arith)
  | inr d ↦ d.0
]
