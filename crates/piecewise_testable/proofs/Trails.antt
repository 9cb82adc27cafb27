-- Letters that are put before a word, one after the other: where the element changes, a chain of
-- ideals goes on. So in a J-trivial monoid a letter that adds no short subword keeps the element
-- (Simon 1975).
use Rattle.std.proofs.Common.{◌≡◌, ◌≢◌, ◌⊎◌, inl, inr, ℕ, ◌+◌, ◌<◌, ◌≤◌, List, [], ◌∷◌, length, sym, subst, arith}
use Rattle.language_theory.specs.Words.{Over, IsSubword, done, keep, skip}
use Rattle.language_theory.specs.Congruence.{IsEquivalence}
use Rattle.language_theory.proofs.Deleting.{subword_tails, subword_further}
use Rattle.subword_theory.specs.ShortSubwords.{SameSubwords}

-- Letters before words act on the classes of `alike`: a word is at a depth, a letter that keeps the
-- class keeps the depth, and each other letter leads one deeper.
pub record IsDescent (k : ℕ) (alike : List ℕ → List ℕ → Type 0)
    (deep : List ℕ → ℕ → Type 0) : Type 0 where
  pub equivalence : IsEquivalence k alike
  pub decided : (u v : List ℕ) → Over k u → Over k v → alike u v ⊎ ¬ alike u v
  pub acts : (a : ℕ) (v w : List ℕ) → a < k → Over k v → Over k w → alike v w
      → alike (a ∷ v) (a ∷ w)
  pub begins : deep [] 0
  pub stays : (a n : ℕ) (v : List ℕ) → a < k → Over k v → alike (a ∷ v) v → deep v n
      → deep (a ∷ v) n
  pub falls : (a n : ℕ) (v : List ℕ) → a < k → Over k v → ¬ alike (a ∷ v) v → deep v n
      → deep (a ∷ v) (n + 1)

module _ (k : ℕ) (alike : List ℕ → List ℕ → Type 0) (deep : List ℕ → ℕ → Type 0)
    (d : IsDescent k alike deep) where
  -- r has the letters of v at which the class changes, and no other letter that changes the class
  -- stands before all of r
  record IsTrail (v r : List ℕ) : Type 0 where
    pub is : IsSubword r v
    pub depth : deep v (length r)
    pub not : (a : ℕ) → a < k → ¬ alike (a ∷ v) v → ¬ IsSubword (a ∷ r) v

  -- a letter that changes the class of b v, where b keeps that of v, changes that of v, so it is
  -- not b
  passed : (b : ℕ) (v r : List ℕ) → Over k (b ∷ v) → alike (b ∷ v) v → IsTrail v r → (a : ℕ)
      → a < k → ¬ alike (a ∷ (b ∷ v)) (b ∷ v) → ¬ IsSubword (a ∷ r) (b ∷ v)
  passed b v r o e i a l m h = i.not a l other (subword_further differ h)
    where
      other : ¬ alike (a ∷ v) v
      other f = m (d.equivalence.trans (a ∷ (b ∷ v)) (a ∷ v) (b ∷ v) (l, o) (l, o.1) o
          (d.acts a (b ∷ v) v l o o.1 e)
          (d.equivalence.trans (a ∷ v) v (b ∷ v) (l, o.1) o.1 o f
          (d.equivalence.symm (b ∷ v) v o o.1 e)))

      differ : a ≢ b
      differ f = other (subst (λ (c : ℕ). alike (c ∷ v) v) (sym f) e)

  trail : (v : List ℕ) → Over k v → (r : List ℕ) × IsTrail v r
  trail [] o = ([], record { is = done; depth = d.begins; not = λ a l m h. elim h [ ] })
  trail (b ∷ v) o = by (d.decided (b ∷ v) v o o.1) (trail v o.1)
    where
      by : alike (b ∷ v) v ⊎ ¬ alike (b ∷ v) v → (r : List ℕ) × IsTrail v r
          → (r : List ℕ) × IsTrail (b ∷ v) r
      by (inl e) (r, i) = (
        r,
        record {
          is = skip i.is;
          depth = d.stays b (length r) v o.0 o.1 e i.depth;
          not = passed b v r o e i;
        },
      )
      by (inr m) (r, i) = (
        b ∷ r,
        record {
          is = keep i.is;
          depth = (let e : length r + 1 ≡ length (b ∷ r) = omega arith in
              subst (deep (b ∷ v)) e (d.falls b (length r) v o.0 o.1 m i.depth));
          not = λ a l f h. i.not b o.0 m (subword_tails h);
        },
      )

  -- a letter that adds no subword of at most m letters, where no word is as deep as m
  pub letter_keeps : (m : ℕ) → ((v : List ℕ) (n : ℕ) → deep v n → n + 1 ≤ m) → (a : ℕ)
      (v : List ℕ) → a < k → Over k v → SameSubwords m v (a ∷ v) → alike (a ∷ v) v
  letter_keeps m bound a v l o s = by (d.decided (a ∷ v) v (l, o) o) (trail v o)
    where
      by : alike (a ∷ v) v ⊎ ¬ alike (a ∷ v) v → (r : List ℕ) × IsTrail v r → alike (a ∷ v) v
      by (inl e) i = e
      by (inr f) (r, i) =
          let short : length (a ∷ r) ≤ m = omega (arith, bound v (length r) i.depth) in
          absurd (i.not a l f ((s.of (a ∷ r) short).1 (keep i.is)))
