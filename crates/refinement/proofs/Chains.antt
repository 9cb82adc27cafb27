-- The sources of the nodes as chains that go down.
use Rattle.std.proofs.Common.{◌≡◌, ◌↔◌, ℕ, ◌+◌, ◌-◌, ◌<◌, ◌≤◌, ◌⊎◌, inl, inr, List, [], ◌∷◌, ◌++◌, length, slice_index, take, ap, sym, subst, ◌∙◌, arith}
use Rattle.std.specs.Prelude.{All}
use Rattle.std.specs.List.{Contains}
use Rattle.std.proofs.lemmas.Bool.{cases_lt}
use Rattle.std.proofs.lemmas.List.{take_more}
use Rattle.std.proofs.lemmas.List.Elements.{Contains-append_left, Contains-push, Contains-push_cases}
use Rattle.language_theory.specs.ShortlexGraph.{Graph, target}
use Rattle.refinement.specs.Splitting.{IsGreatest, IsInverse, Adds, AreSources}

module _ (g : Graph) (a : ℕ) where
  -- the chain of t from `rest` on is still to be followed
  pub record IsChain (t rest : ℕ) (old into : List ℕ) : Type 0 where
    pub greatest : IsGreatest g a t rest rest
    pub most : rest ≤ g.size
    pub exact : (i : ℕ)
        → Contains into i ↔ (Contains old i ⊎ (rest ≤ i) × (i < g.size) × (target g i a ≡ t))

  pub chain_start : (t : ℕ) (heads nexts old : List ℕ) → IsInverse g a g.size heads nexts
      → t < g.size → IsChain t (slice_index heads t) old old
  chain_start t heads nexts old r ht =
      let h = r.heads_at t ht in
      record {
        greatest = record { within = omega arith; sound = h.sound; complete = λ i hi _. hi };
        most = h.within;
        exact = λ i. (
          λ c. inl c,
          λ s.
              elim s [ inl c ↦ c | inr p ↦ absurd (omega (arith, p.0, h.complete i p.1 p.2)) ],
        );
      }

  pub chain_next : (t rest next : ℕ) (heads nexts old into more : List ℕ)
      → IsInverse g a g.size heads nexts → IsChain t rest old into → 0 < rest
      → next ≡ slice_index nexts (rest - 1) → more ≡ into ++ (rest - 1) ∷ []
      → IsChain t next old more
  chain_next t rest next heads nexts old into more r c pos e f =
      let leads : target g (rest - 1) a ≡ t = c.greatest.sound (rest - 1) (omega arith) in
      let below : rest - 1 < g.size = omega (arith, c.most) in
      let h : IsGreatest g a t (rest - 1) next =
      rw e (subst (λ (u : ℕ). IsGreatest g a u (rest - 1) (slice_index nexts (rest - 1))) leads
      (r.nexts_at (rest - 1) below)) in
      rw f (record {
        greatest = record { within = omega arith; sound = h.sound; complete = λ i hi _. hi };
        most = omega (arith, h.within, c.most);
        exact = λ i. (forth i leads below h, back i h);
      })
    where
      forth : (i : ℕ) → target g (rest - 1) a ≡ t → rest - 1 < g.size
          → IsGreatest g a t (rest - 1) next → Contains (into ++ (rest - 1) ∷ []) i
          → Contains old i ⊎ (next ≤ i) × (i < g.size) × (target g i a ≡ t)
      forth i leads below h k = elim (Contains-push_cases into (rest - 1) i k) [
        | inl k ↦ elim ((c.exact i).0 k) [
          | inl o ↦ inl o
          | inr p ↦ inr (omega (arith, p.0, h.within), p.1, p.2)
        ]
        | inr s ↦ inr (
          omega (arith, h.within),
          omega arith,
          ap (λ (j : ℕ). target g j a) (sym s)
              ∙ leads,
        )
      ]

      back : (i : ℕ) → IsGreatest g a t (rest - 1) next
          → Contains old i ⊎ (next ≤ i) × (i < g.size) × (target g i a ≡ t)
          → Contains (into ++ (rest - 1) ∷ []) i
      back i h (inl o) = Contains-append_left into ((rest - 1) ∷ []) i ((c.exact i).1 (inl o))
      back i h (inr p) = elim (cases_lt i rest) [
        | inr l ↦ Contains-append_left into ((rest - 1) ∷ []) i ((c.exact i).1 (inr (l, p.1, p.2)))
        | inl l ↦ elim (cases_lt i (rest - 1)) [
          | inl m ↦ absurd (omega (arith, p.0, h.complete i m p.2))
          | inr m ↦ (let same : rest - 1 ≡ i = omega arith in
              subst (λ (j : ℕ). Contains (into ++ (rest - 1) ∷ []) j) same
              (Contains-push into (rest - 1)))
        ]
      ]

  pub chain_end : (t : ℕ) (old into : List ℕ) → IsChain t 0 old into → Adds g a t old into
  chain_end t old into c = record {
    exact = λ i. (
      λ k. elim ((c.exact i).0 k) [ inl o ↦ inl o | inr p ↦ inr (p.1, p.2) ],
      λ s.
          elim s [
            | inl o ↦ (c.exact i).1 (inl o)
            | inr p ↦
                (c.exact i).1 (inr (omega arith, p.0, p.1))
          ],
    );
  }

  -- the sources of one node more
  pub sources_next : (nodes sources more : List ℕ) (n t : ℕ) → AreSources g a (take n nodes) sources
      → n < length nodes → t ≡ slice_index nodes n → All (λ i. i < g.size) more
      → Adds g a t sources more → AreSources g a (take (n + 1) nodes) more
  sources_next nodes sources more n t s l e w h =
      rw (take_more nodes n 0 l) (record { within = w; exact = λ i. (forth i, back i) })
    where
      forth : (i : ℕ) → Contains more i
          → (i < g.size) × Contains (take n nodes ++ slice_index nodes n ∷ []) (target g i a)
      forth i k = elim ((h.exact i).0 k) [
        | inl o ↦ (let p = (s.exact i).0 o in (
          p.0,
          Contains-append_left (take n nodes) (slice_index nodes n ∷ []) (target g i a)
              p.1,
        ))
        | inr p ↦ (
          p.0,
          subst (λ (u : ℕ). Contains (take n nodes ++ slice_index nodes n ∷ []) u)
              (sym e ∙ sym p.1) (Contains-push (take n nodes) (slice_index nodes n)),
        )
      ]

      back : (i : ℕ) → (i < g.size) × Contains (take n nodes ++ slice_index nodes n ∷ [])
          (target g i a) → Contains more i
      back i p = elim (Contains-push_cases (take n nodes) (slice_index nodes n) (target g i a) p.1) [
        | inl k ↦ (h.exact i).1 (inl ((s.exact i).1 (p.0, k)))
        | inr k ↦ (h.exact i).1 (inr (p.0, sym k ∙ sym e))
      ]
