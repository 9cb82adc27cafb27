-- The elements that the powers of a word lead to.
use Rattle.std.proofs.Common.{◌≡◌, ℕ, Bool, true, false, cond, nat_eq, Some, slice_get, ◌+◌, ◌-◌, ◌<◌, ◌≤◌, List, [], ◌∷◌, ◌++◌, length, get_or, sym, ap, subst₂, ◌∙◌, arith, length-append, append-nil, inl, inr, ◌⊎◌}
use Rattle.std.proofs.Math.Seq.{get_or-append_seam}
use Rattle.std.proofs.lemmas.List.{get_or_append_left}
use Rattle.std.proofs.lemmas.List.Folds.{list_any_at}
use Rattle.std.proofs.lemmas.Option.{get_or_from_slice_get}
use Rattle.std.proofs.lemmas.Bool.{cases_lt, eq-eqb, eqb-true}
use Rattle.std.specs.List.{list_any}
use Rattle.indexmap.specs.IndexSet.{insert_key}
use Rattle.language_theory.specs.Words.{Over, power, word_at}
use Rattle.language_theory.specs.ShortlexGraph.{node, walk, SameNode}
use Rattle.language_theory.proofs.Graphs.{walk_append, same_node_right}
use Rattle.monoid_theory.specs.Powers.{Repeats, IsIndexAndPeriod}
use Rattle.monoid_theory.specs.Products.{IsProduct}
use Rattle.monoid_theory.proofs.Exponents.{power_add, over_power, repeats_at_index}
use Rattle.monoid_theory.proofs.Returns.{index_exists}
use Rattle.monoid_theory.proofs.IdempotentPowers.{index_and_period_bound}
use Rattle.cayley_tables.specs.CayleyGraphs.{CayleyGraphs, AreCayleyGraphs}

-- the elements of the first powers of x, which are all different
pub record AreFirstPowers (c : CayleyGraphs) (x elements : List ℕ) : Type 0 where
  pub each : (i : ℕ) → i < length elements → get_or elements i 0 ≡ node c.right (power i x)
  pub apart : (i j : ℕ) → i < j → j < length elements
      → ¬ (node c.right (power i x) ≡ node c.right (power j x))

pub power_one_more : (i : ℕ) (x : List ℕ) → power (i + 1) x ≡ power i x ++ x
power_one_more i x = power_add i 1 x ∙ ap (λ (w : List ℕ). power i x ++ w) (append-nil x)

module _ (c : CayleyGraphs) (g : AreCayleyGraphs c) where
  -- the product with an element is the element of the words, put together
  pub product_is_node : (u v : List ℕ) (r : ℕ) → Over c.right.letters u → Over c.right.letters v
      → IsProduct (SameNode c.right) c.words (node c.right u) (node c.right v) r
      → r ≡ node c.right (u ++ v)
  product_is_node u v r ou ov p =
      sym (g.shortlex.leads r (let e = g.shortlex.long in let h = p.place.within in omega arith))
      ∙ (p.place.related ∙ (walk_append c.right 0 (word_at c.words i) (word_at c.words j)
      ∙ (ap (λ (n : ℕ). walk c.right n (word_at c.words j)) (leads i p.left)
      ∙ (sym (walk_append c.right 0 u (word_at c.words j)) ∙ same))))
    where
      i : ℕ
      i = node c.right u

      j : ℕ
      j = node c.right v

      leads : (n : ℕ) → n < length c.words → node c.right (word_at c.words n) ≡ n
      leads n h = g.shortlex.leads n (let e = g.shortlex.long in omega arith)

      same : node c.right (u ++ word_at c.words j) ≡ node c.right (u ++ v)
      same = g.congruence.left (word_at c.words j) v u (g.shortlex.least.over j p.right) ov ou
          (leads j p.right)

  module _ (e : ℕ) (within : e < length c.words) where
    abbrev x : List ℕ
    x = word_at c.words e

    o : Over c.right.letters x
    o = g.shortlex.least.over e within

    pub power_step : (n i r : ℕ) → n ≡ node c.right (power i (word_at c.words e))
        → IsProduct (SameNode c.right) c.words n e r
        → r ≡ node c.right (power (i + 1) (word_at c.words e))
    power_step n i r s p =
        product_is_node (power i x) x r (over_power c.right.letters i x o) o
        (subst₂ (λ (a b : ℕ). IsProduct (SameNode c.right) c.words a b r) s (sym leads) p)
        ∙ ap (node c.right) (sym (power_one_more i x))
      where
        leads : node c.right x ≡ e
        leads = g.shortlex.leads e (let l = g.shortlex.long in omega arith)

    settled : (i p : ℕ) × IsIndexAndPeriod (SameNode c.right) x i p
    settled = index_exists c.right.letters (SameNode c.right) c.words (same_node_right c.right)
        g.shortlex.least x o

    -- there are no more different powers than elements
    pub few_powers : (elements : List ℕ) → AreFirstPowers c (word_at c.words e) elements
        → length elements ≤ length c.words
    few_powers elements a = by settled (cases_lt (settled.0 + settled.1) (length elements))
      where
        by : (s : (i p : ℕ) × IsIndexAndPeriod (SameNode c.right) x i p)
            → (s.0 + s.1 < length elements) ⊎ (length elements ≤ s.0 + s.1)
            → length elements ≤ length c.words
        by (i, p, s) (inl b) = let h = s.positive in
            absurd (a.apart i (i + p) (omega arith) b s.repeats)
        by (i, p, s) (inr b) =
            let h = index_and_period_bound c.right.letters (SameNode c.right) c.words
            (same_node_right c.right) g.shortlex.least x o i p s in
            omega arith

    -- where the next power is one of them, it has come back
    pub power_is_back : (elements : List ℕ) (last place : ℕ)
        → AreFirstPowers c (word_at c.words e) elements
        → last ≡ node c.right (power (length elements) (word_at c.words e))
        → place < length elements → get_or elements place 0 ≡ last
        → IsIndexAndPeriod (SameNode c.right) (word_at c.words e) place (length elements - place)
    power_is_back elements last place a l h f = by settled
      where
        q : ℕ
        q = length elements - place

        whole : place + q ≡ length elements
        whole = omega arith

        back : Repeats (SameNode c.right) x place q
        back = sym (a.each place h) ∙ (f ∙ (l ∙ ap (λ (n : ℕ). node c.right (power n x)) (sym whole)))

        by : (i p : ℕ) × IsIndexAndPeriod (SameNode c.right) x i p
            → IsIndexAndPeriod (SameNode c.right) x place q
        by (i, p, s) = same (cases_lt (i + p) (length elements))
          where
            early : i ≤ place
            early = s.index place q (omega arith) back

            short : p ≤ q
            short = s.period q (omega arith)
                (repeats_at_index c.right.letters (SameNode c.right) (same_node_right c.right) x o
                i p place q s back)

            same : (i + p < length elements) ⊎ (length elements ≤ i + p)
                → IsIndexAndPeriod (SameNode c.right) x place q
            same (inl b) = let m = s.positive in
                absurd (a.apart i (i + p) (omega arith) b s.repeats)
            same (inr b) =
                let e = early in let f = short in let w = whole in
                let first : i ≡ place = omega arith in let second : p ≡ q = omega arith in
                subst₂ (λ (n m : ℕ). IsIndexAndPeriod (SameNode c.right) x n m) first second s

    -- a power that is none of them is one more
    pub power_is_new : (elements : List ℕ) (last : ℕ)
        → AreFirstPowers c (word_at c.words e) elements
        → last ≡ node c.right (power (length elements) (word_at c.words e))
        → ((i : ℕ) → i < length elements → ¬ (get_or elements i 0 ≡ last))
        → AreFirstPowers c (word_at c.words e) (elements ++ last ∷ [])
    power_is_new elements last a l none = record { each = each; apart = apart }
      where
        longer : length (elements ++ last ∷ []) ≡ length elements + 1
        longer = simp length-append

        at_end : (i : ℕ) → i ≡ length elements
            → get_or (elements ++ last ∷ []) i 0 ≡ node c.right (power i x)
        at_end i h = rw h (get_or-append_seam elements last [] 0 ∙ l)

        each : (i : ℕ) → i < length (elements ++ last ∷ [])
            → get_or (elements ++ last ∷ []) i 0 ≡ node c.right (power i x)
        each i h = elim (cases_lt i (length elements)) [
          | inl b ↦ get_or_append_left elements (last ∷ []) 0 i b ∙ a.each i b
          | inr b ↦ at_end i (let m = longer in omega arith)
        ]

        apart : (i j : ℕ) → i < j → j < length (elements ++ last ∷ [])
            → ¬ (node c.right (power i x) ≡ node c.right (power j x))
        apart i j b h s = elim (cases_lt j (length elements)) [
          | inl d ↦ a.apart i j b d s
          | inr d ↦
              let m = longer in let at : j ≡ length elements = omega arith in
              let below : i < length elements = omega arith in
              none i below (a.each i below ∙ (s ∙ (ap (λ (n : ℕ). node c.right (power n x)) at
              ∙ sym l)))
        ]

-- what an insertion into a set of numbers tells
pub inserted_again : (keys new : List ℕ) (x : ℕ) → new ≡ insert_key nat_eq keys x
    → list_any (nat_eq x) keys ≡ true → new ≡ keys
inserted_again keys new x e there = e ∙ ap (λ (b : Bool). cond b keys (keys ++ x ∷ [])) there

pub inserted_new : (keys new : List ℕ) (x : ℕ) → new ≡ insert_key nat_eq keys x
    → list_any (nat_eq x) keys ≡ false → new ≡ keys ++ x ∷ []
inserted_new keys new x e none = e ∙ ap (λ (b : Bool). cond b keys (keys ++ x ∷ [])) none

pub none_is : (keys : List ℕ) (x : ℕ) → list_any (nat_eq x) keys ≡ false
    → (i : ℕ) → i < length keys → ¬ (get_or keys i 0 ≡ x)
none_is keys x none i h e =
    let there : list_any (nat_eq x) keys ≡ true =
    list_any_at (nat_eq x) keys i 0 h (eq-eqb x (get_or keys i 0) (sym e)) in
    cc

pub stored_is : (keys : List ℕ) (x k place : ℕ) → slice_get keys place ≡ Some k
    → nat_eq x k ≡ true → get_or keys place 0 ≡ x
stored_is keys x k place at same =
    get_or_from_slice_get keys place k 0 at ∙ sym (eqb-true x k same)

pub no_powers : (c : CayleyGraphs) (x : List ℕ) → AreFirstPowers c x []
no_powers c x = record {
  each = λ i h. absurd (omega arith);
  apart = λ i j b h s. absurd (omega arith);
}
