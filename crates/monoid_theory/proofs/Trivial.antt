-- R-, L- and J-triviality are told by the listed words.
use Rattle.std.proofs.Common.{◌≡◌, ◌↔◌, ℕ, ◌<◌, List, length, subst}
use Rattle.language_theory.specs.Words.{Over, word_at}
use Rattle.language_theory.specs.Congruence.{IsEquivalence}
use Rattle.language_theory.specs.Representatives.{AreRepresentatives, IsPlaceOf}
use Rattle.monoid_theory.specs.Green.{IsTrivial}
use Rattle.language_theory.proofs.Representatives.{listed_apart, same_place_related}

module _ (k : ℕ) (same relation : List ℕ → List ℕ → Type 0) (words : List (List ℕ))
    (q : IsEquivalence k same) (l : AreRepresentatives k same words) (e : IsEquivalence k relation)
    (wider : (s t : List ℕ) → Over k s → Over k t → same s t → relation s t) where
  pub trivial_by_listed : IsTrivial k same relation
      ↔ ((i j : ℕ) → i < length words → j < length words
      → relation (word_at words i) (word_at words j) → i ≡ j)
  trivial_by_listed = (to, from)
    where
      to : IsTrivial k same relation → (i j : ℕ) → i < length words → j < length words
          → relation (word_at words i) (word_at words j) → i ≡ j
      to t i j h g r =
          listed_apart k same words l q i j h g
          (t.one (word_at words i) (word_at words j) (l.over i h) (l.over j g) r)

      from : ((i j : ℕ) → i < length words → j < length words
          → relation (word_at words i) (word_at words j) → i ≡ j) → IsTrivial k same relation
      from f = record { one = one }
        where
          one : (s t : List ℕ) → Over k s → Over k t → relation s t → same s t
          one s t os ot r =
              let (i, a) = l.place s os in
              let (j, b) = l.place t ot in
              let oi = l.over i a.within in
              let oj = l.over j b.within in
              let there : relation (word_at words i) s =
              wider (word_at words i) s oi os a.related in
              let back : relation t (word_at words j) =
              e.symm (word_at words j) t oj ot (wider (word_at words j) t oj ot b.related) in
              let both = e.trans (word_at words i) s (word_at words j) oi os oj there
              (e.trans s t (word_at words j) os ot oj r back) in
              let one_place : i ≡ j = f i j a.within b.within both in
              same_place_related k same words l q s t j os ot
              (subst (IsPlaceOf same words s) one_place a) b
