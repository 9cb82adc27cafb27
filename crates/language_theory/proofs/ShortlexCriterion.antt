-- A graph is a shortlex graph where its words rise, lead to their nodes, and none is greater than a
-- node's word with one letter more that leads there.
use Rattle.std.proofs.Common.{◌≡◌, ℕ, ◌<◌, inl, inr, List, [], ◌∷◌, ◌++◌, length, sym, subst, ◌∙◌, arith, append_assoc, append-nil}
use Rattle.language_theory.specs.Words.{Over, word_at, ◌⊏◌}
use Rattle.language_theory.specs.Representatives.{IsPlaceOf, AreRepresentatives}
use Rattle.language_theory.specs.ShortlexGraph.{Graph, target, walk, node, SameNode, IsGraph, IsShortlex}
use Rattle.language_theory.proofs.Shortlex.{shortlex_irrefl, shortlex_trichotomy, shortlex_asymm, shortlex_append_letters, shortlex_not_greater_trans, shortlex_nil}
use Rattle.language_theory.proofs.Graphs.{target_within, node_within}

-- a letter behind both keeps the order that is not strict
pub not_greater_with_letter : (u v : List ℕ) (a : ℕ) → ¬ (u ⊏ v) → ¬ ((u ++ a ∷ []) ⊏ (v ++ a ∷ []))
not_greater_with_letter u v a n h = elim (shortlex_trichotomy u v) [
  | inl g ↦ n g
  | inr (inl e) ↦ shortlex_irrefl (v ++ a ∷ []) (subst (λ x. (x ++ a ∷ []) ⊏ (v ++ a ∷ [])) e h)
  | inr (inr g) ↦ shortlex_asymm (u ++ a ∷ []) (v ++ a ∷ []) h (shortlex_append_letters v u a a g)
]

module _ (g : Graph) (words : List (List ℕ)) (graph : IsGraph g) (long : length words ≡ g.size)
    (over : (i : ℕ) → i < g.size → Over g.letters (word_at words i)) (leads : (i : ℕ) → i < g.size
    → node g (word_at words i) ≡ i) (rise : (i j : ℕ) → i < j → j < g.size
    → word_at words i ⊏ word_at words j) (root : word_at words 0 ≡ []) (steps : (i a : ℕ)
    → i < g.size → a < g.letters
    → ¬ ((word_at words i ++ a ∷ []) ⊏ word_at words (target g i a))) where
  along : (i : ℕ) (u w : List ℕ) → i < g.size → Over g.letters w → ¬ (u ⊏ word_at words i)
      → ¬ ((u ++ w) ⊏ word_at words (walk g i w))
  along i u [] l o n = subst (λ x. ¬ (x ⊏ word_at words i)) (sym (append-nil u)) n
  along i u (a ∷ w) l o n =
      let here : ¬ ((u ++ a ∷ []) ⊏ (word_at words i ++ a ∷ [])) =
      not_greater_with_letter u (word_at words i) a n in
      let next : ¬ ((u ++ a ∷ []) ⊏ word_at words (target g i a)) =
      shortlex_not_greater_trans (word_at words (target g i a)) (word_at words i ++ a ∷ [])
      (u ++ a ∷ []) (steps i a l o.0) here in
      subst (λ x. ¬ (x ⊏ word_at words (walk g (target g i a) w))) (append_assoc u (a ∷ []) w)
      (along (target g i a) (u ++ a ∷ []) w (target_within g i a graph l o.0) o.1 next)

  -- no word is smaller than that of the node to which it leads
  node_word_least : (w : List ℕ) → Over g.letters w → ¬ (w ⊏ word_at words (node g w))
  node_word_least w o =
      along 0 [] w graph.root o (subst (λ x. ¬ ([] ⊏ x)) (sym root) (shortlex_nil []))

  pub shortlex_by_letters : IsShortlex g words
  shortlex_by_letters = record { graph = graph; long = long; leads = leads; least = least }
    where
      place : (w : List ℕ) → Over g.letters w → IsPlaceOf (SameNode g) words w (node g w)
      place w o =
          let l = node_within g w graph o in
          record {
            within = (let e = long in omega arith);
            related = leads (node g w) l;
            only =
                λ j h e. sym (leads j (let e = long in omega arith)) ∙ e;
          }

      least : AreRepresentatives g.letters (SameNode g) words
      least = record {
        over = λ i h. over i (let e = long in omega arith);
        rise = λ i j h l. rise i j h (let e = long in omega arith);
        place = λ w o. (node g w, place w o);
        least = λ i w h o e. let at : node g w ≡ i = sym e
            ∙ leads i (let d = long in omega arith) in
            subst (λ n. ¬ (w ⊏ word_at words n)) at (node_word_least w o);
      }
