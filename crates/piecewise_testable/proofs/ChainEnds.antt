-- Chains of ideals that end in the element of a word.
use Rattle.std.proofs.Common.{◌≡◌, inl, inr, ℕ, zero, suc, ◌+◌, ◌<◌, List, [], ◌∷◌, ◌++◌, length, slice_index, sym, subst, subst₂, arith, length-append}
use Rattle.std.proofs.lemmas.Bool.{cases_lt}
use Rattle.std.proofs.lemmas.List.{get_or_append_left}
use Rattle.std.proofs.Math.Seq.{get_or-append_seam}
use Rattle.language_theory.specs.Words.{Over, word_at}
use Rattle.language_theory.specs.Congruence.{IsEquivalence, IsCongruence}
use Rattle.language_theory.specs.Representatives.{AreRepresentatives, IsPlaceOf}
use Rattle.monoid_theory.specs.Green.{IsJ}
use Rattle.monoid_theory.proofs.Ideals.{h_of_related, r_in_j, in_ideal_through, j_equivalence}
use Rattle.green_relations.specs.Chains.{IsBelow, IsChain}

-- a chain of n + 1 elements ends in the element of w
pub record EndsChain (k : ℕ) (same : List ℕ → List ℕ → Type 0) (words : List (List ℕ))
    (w : List ℕ) (n : ℕ) : Type 0 where
  pub chain : List ℕ
  pub is : IsChain k same words chain
  pub long : length chain ≡ n + 1
  pub last : same (word_at words (slice_index chain n)) w

module _ (k : ℕ) (same : List ℕ → List ℕ → Type 0) (q : IsCongruence k same) where
  related_in_j : (s t : List ℕ) → Over k s → Over k t → same s t → IsJ k same s t
  related_in_j s t os ot h =
      r_in_j k same s t (h_of_related k same q.equivalence s t os ot h).0

  pub below_of_related : (s t v w : List ℕ) → Over k s → Over k t → Over k v → Over k w
      → same s v → same t w → IsBelow k same v w → IsBelow k same s t
  below_of_related s t v w os ot ov ow e f (i, m) = (
    in_ideal_through k same q s w t os ow ot
        (in_ideal_through k same q s v w os ov ow (related_in_j s v os ov e).0 i)
        (related_in_j t w ot ow f).1,
    λ g. m (j.trans v s w ov os ow (j.symm s v os ov (related_in_j s v os ov e))
        (j.trans s t w os ot ow g (related_in_j t w ot ow f))),
  )
    where
      j : IsEquivalence k (IsJ k same)
      j = j_equivalence k same q

  module _ (words : List (List ℕ)) (l : AreRepresentatives k same words) where
    pub chain_begins : (w : List ℕ) → Over k w → EndsChain k same words w 0
    chain_begins w o = by (l.place w o)
      where
        by : (i : ℕ) × IsPlaceOf same words w i → EndsChain k same words w 0
        by (i, p) = record {
          chain = i ∷ [];
          is = record {
            some = omega arith;
            within = within;
            falls = λ m h. absurd (omega arith);
          };
          long = omega arith;
          last = p.related;
        }
          where
            within : (m : ℕ) → m < length (i ∷ []) → slice_index (i ∷ []) m < length words
            within zero h = p.within
            within (suc m) h = absurd (omega arith)

    -- a chain with an element below its last one behind it
    module _ (w v : List ℕ) (n : ℕ) (ow : Over k w) (ov : Over k v)
        (h : EndsChain k same words w n) (b : IsBelow k same v w) (i : ℕ)
        (p : IsPlaceOf same words v i) where
      longer : List ℕ
      longer = h.chain ++ i ∷ []

      longer_long : length longer ≡ n + 2
      unfolding longer
      longer_long = let e = length-append h.chain (i ∷ []) in omega (arith, e, h.long)

      at_earlier : (m : ℕ) → m < length h.chain
          → slice_index longer m ≡ slice_index h.chain m
      unfolding longer
      at_earlier m g = get_or_append_left h.chain (i ∷ []) 0 m g

      at_end : slice_index longer (n + 1) ≡ i
      unfolding longer
      at_end =
          subst (λ (m : ℕ). slice_index (h.chain ++ i ∷ []) m ≡ i) h.long
          (get_or-append_seam h.chain i [] 0)

      longer_within : (m : ℕ) → m < length longer → slice_index longer m < length words
      longer_within m g = elim (cases_lt m (length h.chain)) [
        | inl a ↦ subst (λ (x : ℕ). x < length words) (sym (at_earlier m a)) (h.is.within m a)
        | inr a ↦ subst (λ (x : ℕ). slice_index longer x < length words)
            (let e : n + 1 ≡ m = omega (arith, a, g, h.long, longer_long) in e)
            (subst (λ (x : ℕ). x < length words) (sym at_end) p.within)
      ]

      falls_at : ℕ → ℕ → Type 0
      falls_at x y = IsBelow k same (word_at words x) (word_at words y)

      last_falls : falls_at (slice_index longer (n + 1)) (slice_index longer n)
      unfolding falls_at
      last_falls =
          let last : n < length h.chain = omega (arith, h.long) in
          subst₂ falls_at (sym at_end) (sym (at_earlier n last))
          (below_of_related (word_at words i) (word_at words (slice_index h.chain n)) v w
          (l.over i p.within) (l.over (slice_index h.chain n) (h.is.within n last)) ov ow
          p.related h.last b)

      longer_falls : (m : ℕ) → m + 1 < length longer
          → falls_at (slice_index longer (m + 1)) (slice_index longer m)
      unfolding falls_at
      longer_falls m g = elim (cases_lt (m + 1) (length h.chain)) [
        | inl a ↦ subst₂ falls_at (sym (at_earlier (m + 1) a))
            (sym (at_earlier m (omega arith))) (h.is.falls m a)
        | inr a ↦ subst (λ (x : ℕ). falls_at (slice_index longer (x + 1)) (slice_index longer x))
            (let e : n ≡ m = omega (arith, a, g, h.long, longer_long) in e) last_falls
      ]

      longer_ends : EndsChain k same words v (n + 1)
      unfolding falls_at
      longer_ends = record {
        chain = longer;
        is = record {
          some = omega (arith, longer_long);
          within = longer_within;
          falls = longer_falls;
        };
        long = omega (arith, longer_long);
        last = subst (λ (x : ℕ). same (word_at words x) v) (sym at_end) p.related;
      }

    pub chain_goes_on : (w v : List ℕ) (n : ℕ) → Over k w → Over k v
        → EndsChain k same words w n → IsBelow k same v w → EndsChain k same words v (n + 1)
    chain_goes_on w v n ow ov h b = by (l.place v ov)
      where
        by : (i : ℕ) × IsPlaceOf same words v i → EndsChain k same words v (n + 1)
        by (i, p) = longer_ends w v n ow ov h b i p

    pub chain_of_related : (w v : List ℕ) (n : ℕ) → Over k w → Over k v → same w v
        → EndsChain k same words w n → EndsChain k same words v n
    chain_of_related w v n ow ov e h = record {
      chain = h.chain;
      is = h.is;
      long = h.long;
      last = q.equivalence.trans (word_at words (slice_index h.chain n)) w v
          (l.over (slice_index h.chain n) (h.is.within n (omega (arith, h.long)))) ow ov h.last e;
    }
