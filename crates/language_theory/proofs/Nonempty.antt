-- The nonempty words that lead to a node of a shortlex graph, and the least of them.
use Rattle.std.proofs.Common.{◌≡◌, ℕ, ◌+◌, ◌*◌, ◌<◌, ◌≤◌, ◌⊎◌, inl, inr, List, [], ◌∷◌, ◌++◌, length, slice_index, refl, ap, sym, subst, ◌∙◌, arith, mul-le-mul_right}
use Rattle.std.proofs.lemmas.Bool.{cases_lt}
use Rattle.language_theory.specs.Words.{Over, word_at, ◌⊏◌}
use Rattle.language_theory.specs.Languages.{IsLeastWord}
use Rattle.language_theory.specs.ShortlexGraph.{Graph, target, node, IsGraph, IsShortlex, IsFirst, LeadsNonempty}
use Rattle.language_theory.proofs.Shortlex.{last_letter, over_prefix, over_suffix, over_last, shortlex_trichotomy, shortlex_irrefl, shortlex_asymm, shortlex_trans, shortlex_append_letters, shortlex_append_last}
use Rattle.language_theory.proofs.Graphs.{walk_append, node_within, node_word_over, node_word_least, row_of, row_place}

ends_with_letter : (u : List ℕ) (a : ℕ) → ¬ (u ++ a ∷ [] ≡ [])
ends_with_letter [] a e = cc
ends_with_letter (b ∷ u) a e = cc

-- what leads to the root and is not empty ends with an edge to the root
module _ (g : Graph) (h : IsGraph g) where
  last_edge : (v : List ℕ) → Over g.letters v → LeadsNonempty g 0 v
      → (u : List ℕ) × (c : ℕ) × (v ≡ u ++ c ∷ []) × Over g.letters u × (c < g.letters)
      × (target g (node g u) c ≡ 0)
  last_edge v o (some, leads) = by (last_letter v)
    where
      by : (v ≡ []) ⊎ ((u : List ℕ) × (c : ℕ) × (v ≡ u ++ c ∷ []))
          → (u : List ℕ) × (c : ℕ) × (v ≡ u ++ c ∷ []) × Over g.letters u × (c < g.letters)
          × (target g (node g u) c ≡ 0)
      by (inl e) = absurd (some e)
      by (inr (u, c, e)) =
          let ov = subst (Over g.letters) e o in (
            u,
            c,
            e,
            over_prefix g.letters u (c ∷ []) ov,
            (over_suffix g.letters u (c ∷ []) ov).0,
            sym (walk_append g 0 u (c ∷ [])) ∙ (ap (node g) (sym e) ∙ leads),
          )

  -- where no edge leads to the root, no nonempty word does
  pub root_words_empty : ((p : ℕ) → p < length g.targets → ¬ (slice_index g.targets p ≡ 0))
      → (w : List ℕ) → Over g.letters w → node g w ≡ 0 → w ≡ []
  root_words_empty none w o e = by (last_letter w)
    where
      by : (w ≡ []) ⊎ ((u : List ℕ) × (c : ℕ) × (w ≡ u ++ c ∷ [])) → w ≡ []
      by (inl f) = f
      by (inr (u, c, f)) =
          let (x, b, d, ox, hb, there) =
          last_edge w o ((λ q. ends_with_letter u c (sym f ∙ q)), e) in
          let long = h.long in
          let row = row_place (node g x) b g.size g.letters (node_within g x h ox) hb in
          absurd (none (node g x * g.letters + b) (omega arith) there)

module _ (g : Graph) (words : List (List ℕ)) (s : IsShortlex g words) where
  -- the word of a node that is not the root is its least nonempty word
  pub nonempty_at_node : (i : ℕ) → 0 < i → i < g.size → IsLeastWord g.letters (LeadsNonempty g i)
      (word_at words i)
  nonempty_at_node i z h = record {
    over = node_word_over g words s i h;
    holds = ((λ e. let f : 0 ≡ i = ap (node g) (sym e) ∙ s.leads i h in omega arith), s.leads i h);
    least = λ v o q b. node_word_least g words s v o
        (subst (λ (j : ℕ). v ⊏ word_at words j) (sym q.1) b);
  }

  -- behind the first edge to the root is the least nonempty word that leads there
  pub nonempty_at_root : (j a : ℕ) → a < g.letters → IsFirst g.targets 0 (j * g.letters + a)
      → IsLeastWord g.letters (LeadsNonempty g 0) (word_at words j ++ a ∷ [])
  nonempty_at_root j a ha f =
      record {
        over = over_last g.letters x a (node_word_over g words s j hj) ha;
        holds =
            (ends_with_letter x a, leads);
        least = least;
      }
    where
      x : List ℕ
      x = word_at words j

      hj : j < g.size
      hj =
          let m = f.within in let long = s.graph.long in
          row_of (j * g.letters + a) j a g.size g.letters refl (omega arith)

      leads : node g (x ++ a ∷ []) ≡ 0
      leads = walk_append g 0 x (a ∷ []) ∙ (ap (λ (i : ℕ). target g i a) (s.leads j hj) ∙ f.member)

      -- an edge to the root is not before the first
      not_before : (q c : ℕ) → target g q c ≡ 0 → ¬ (q * g.letters + c < j * g.letters + a)
      not_before q c e l = f.least (q * g.letters + c) l e

      not_earlier : (q c : ℕ) → c < g.letters → target g q c ≡ 0 → j ≤ q
      not_earlier q c hc e = elim (cases_lt q j) [
        | inl l ↦ (let m : (q + 1) * g.letters ≤ j * g.letters =
            mul-le-mul_right g.letters (omega arith) in absurd (not_before q c e (omega arith)))
        | inr l ↦ l
      ]

      least : (v : List ℕ) → Over g.letters v → LeadsNonempty g 0 v → ¬ (v ⊏ (x ++ a ∷ []))
      least v o q b =
          let (u, c, e, ou, hc, there) = last_edge g s.graph v o q in
          by u c ou hc there (subst (λ (w : List ℕ). w ⊏ (x ++ a ∷ [])) e b)
          (shortlex_trichotomy x u)
        where
          by : (u : List ℕ) (c : ℕ) → Over g.letters u → c < g.letters → target g (node g u) c ≡ 0
              → (u ++ c ∷ []) ⊏ (x ++ a ∷ [])
              → (x ⊏ u) ⊎ ((x ≡ u) ⊎ (u ⊏ x)) → ⊥
          by u c ou hc there l (inl m) =
              shortlex_asymm (u ++ c ∷ []) (x ++ a ∷ []) l (shortlex_append_letters x u a c m)
          by u c ou hc there l (inr (inl m)) =
              let at : node g u ≡ j = ap (node g) (sym m) ∙ s.leads j hj in
              let here : target g j c ≡ 0 = subst (λ (i : ℕ). target g i c ≡ 0) at there in
              let n : ¬ (j * g.letters + c < j * g.letters + a) = not_before j c here in
              same_prefix c l m (cases_lt a c) (cases_lt c a) n
            where
              same_prefix : (c : ℕ) → (u ++ c ∷ []) ⊏ (x ++ a ∷ []) → x ≡ u → (a < c) ⊎ (c ≤ a)
                  → (c < a) ⊎ (a ≤ c)
                  → ¬ (j * g.letters + c < j * g.letters + a) → ⊥
              same_prefix c l m (inl t) d n =
                  shortlex_asymm (x ++ c ∷ []) (x ++ a ∷ [])
                  (subst (λ (w : List ℕ). (w ++ c ∷ []) ⊏ (x ++ a ∷ [])) (sym m) l)
                  (shortlex_append_last x a c t)
              same_prefix c l m (inr t) (inl d) n = n (omega arith)
              same_prefix c l m (inr t) (inr d) n =
                  let letters : c ≡ a = omega arith in
                  shortlex_irrefl (x ++ a ∷ [])
                  (subst (λ (b : ℕ). (x ++ b ∷ []) ⊏ (x ++ a ∷ [])) letters
                  (subst (λ (w : List ℕ). (w ++ c ∷ []) ⊏ (x ++ a ∷ [])) (sym m) l))
          by u c ou hc there l (inr (inr m)) =
              node_word_least g words s u ou (below (cases_lt j (node g u)))
            where
              below : (j < node g u) ⊎ (node g u ≤ j) → u ⊏ word_at words (node g u)
              below (inl t) =
                  shortlex_trans u x (word_at words (node g u)) m
                  (s.least.rise j (node g u) t (let e = s.long in let n =
                  node_within g u s.graph ou in omega arith))
              below (inr t) =
                  let k = not_earlier (node g u) c hc there in
                  subst (λ (i : ℕ). u ⊏ word_at words i) (let e : j ≡ node g u = omega arith in
                  e) m
