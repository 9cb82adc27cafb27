-- Rounds by the numbers of the elements.
use Rattle.std.proofs.Common.{◌≡◌, ◌↔◌, ℕ, ◌<◌, List, [], ◌∷◌, length, sym, subst}
use Rattle.language_theory.specs.Words.{Over, word_at}
use Rattle.language_theory.specs.Languages.{IsLeastWord}
use Rattle.language_theory.specs.Congruence.{IsCongruence}
use Rattle.language_theory.specs.Representatives.{AreRepresentatives, IsPlaceOf}
use Rattle.answers.specs.declared.subwords.Side.{Side}
use Rattle.piecewise_testable.specs.Sides.{beside, IsMate, HasOther, Moves, Leads, IsLeastLetter}
use Rattle.piecewise_testable.specs.declared.rounds.Round.{Round}
use Rattle.piecewise_testable.specs.Rounds.{IsRoundOf}
use Rattle.piecewise_testable.proofs.BothSides.{over_beside, related_beside}
use Rattle.piecewise_testable.proofs.Searches.{HasNone}
use Rattle.piecewise_testable.proofs.LeastPlaces.{least_word_again, place_has, least_by_place}
use Rattle.piecewise_testable.proofs.Letters.{some_back, leads_from_related}

module _ (side : Side) (k : ℕ) (same : List ℕ → List ℕ → Type 0) (words : List (List ℕ))
    (q : IsCongruence k same) (l : AreRepresentatives k same words) where
  module _ (from to : List ℕ) (of : Over k from) (ot : Over k to) where
    -- related words lead to the same element
    leads_closed : (x y : List ℕ) → Over k x → Over k y → same x y → Leads side same from to x
        → Leads side same from to y
    leads_closed x y ox oy e h =
        q.equivalence.trans to (beside side from x) (beside side from y) ot
        (over_beside side k from x of ox) (over_beside side k from y of oy) h
        (related_beside k same q side from x y of ox oy e)

    -- where some word leads to an element, some listed one does
    pub some_leads : ((x : List ℕ) × Over k x × Leads side same from to x)
        → (i : ℕ) × (i < length words) × Leads side same from to (word_at words i)
    some_leads (x, ox, h) =
        place_has k same words l q.equivalence (Leads side same from to) leads_closed x ox h

    pub first_leads : (i : ℕ) → i < length words → Leads side same from to (word_at words i)
        → HasNone (λ j. Leads side same from to (word_at words j)) i
        → IsLeastWord k (Leads side same from to) (word_at words i)
    first_leads i h g n =
        least_by_place k same words l q.equivalence (Leads side same from to) leads_closed i h g
        n.none

  -- the place of a product tells whether it leads to a listed word
  pub leads_by_place : (i t r : ℕ) (x : List ℕ) → i < length words → t < length words → Over k x
      → IsPlaceOf same words (beside side (word_at words i) x) r
      → (r ≡ t) ↔ Leads side same (word_at words i) (word_at words t) x
  leads_by_place i t r x hi ht ox at = (
    λ e. subst (λ (p : ℕ). same (word_at words p) (beside side (word_at words i) x)) e at.related,
    λ h. sym (at.only t ht h),
  )

  -- a word leads back from the place of another element of the class
  pub back_from_place : (i t : ℕ) (w : List ℕ) → i < length words → Over k w
      → IsPlaceOf same words w t → IsMate side k same (word_at words i) w
      → (x : List ℕ) × Over k x × Leads side same (word_at words t) (word_at words i) x
  back_from_place i t w hi ow at m =
      let (x, ox, h) = some_back k same q words l side (word_at words i) w m in
      let ot = l.over t at.within in (
        x,
        ox,
        leads_from_related k same q words l side w (word_at words t) (word_at words i) x ow ot
            (l.over i hi) ox (q.equivalence.symm (word_at words t) w ot ow at.related) h,
      )

  -- the numbers of a round
  pub round_of : (r : Round) → r.element < length words → r.back < length words
      → IsPlaceOf same words (beside side (word_at words r.element) (r.letter ∷ [])) r.moved
      → IsLeastWord k (HasOther side k same) (word_at words r.element)
      → IsLeastLetter k (Moves side k same (word_at words r.element)) r.letter
      → IsLeastWord k (Leads side same (word_at words r.moved) (word_at words r.element))
      (word_at words r.back)
      → IsRoundOf side k same words r
  round_of r he hb at other letter back = record {
    element = he;
    back = hb;
    moved = at;
    round = record {
      element = other;
      letter = letter;
      back = least_word_again k (Leads side same moved s) (Leads side same (beside side s a) s)
          (word_at words r.back) alike back;
    };
  }
    where
      s : List ℕ
      s = word_at words r.element

      a : List ℕ
      a = r.letter ∷ []

      moved : List ℕ
      moved = word_at words r.moved

      os : Over k s
      os = l.over r.element he

      om : Over k moved
      om = l.over r.moved at.within

      oa : Over k (beside side s a)
      oa = over_beside side k s a os (letter.within, tt)

      alike : (x : List ℕ) → Over k x
          → Leads side same moved s x ↔ Leads side same (beside side s a) s x
      alike x ox = (
        leads_from_related k same q words l side moved (beside side s a) s x om oa os ox at.related,
        leads_from_related k same q words l side (beside side s a) moved s x oa om os ox
            (q.equivalence.symm moved (beside side s a) om oa at.related),
      )
