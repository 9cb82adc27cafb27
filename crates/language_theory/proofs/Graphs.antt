-- The laws of shortlex graphs.
use Rattle.std.proofs.Common.{◌≡◌, ℕ, zero, suc, ◌+◌, ◌*◌, ◌/◌, ◌%◌, ◌<◌, ◌≤◌, ◌⊎◌, inl, inr, ◌↔◌, List, [], ◌∷◌, ◌++◌, length, slice_index, refl, ap, sym, subst, ◌∙◌, arith, mul-le-mul_left, mul-le-mul_right}
use Rattle.std.proofs.lemmas.List.{ext_get_or}
use Rattle.std.proofs.lemmas.Nat.{div-add-mod'}
use Rattle.std.proofs.lemmas.Bool.{cases_lt}
use Rattle.language_theory.specs.Words.{Over, word_at, ◌⊏◌}
use Rattle.language_theory.specs.Representatives.{AreRepresentatives, IsReduced}
use Rattle.language_theory.specs.Congruence.{IsEquivalence, IsRightCongruence, IsCongruence, Agree, MapsAlike}
use Rattle.language_theory.specs.Languages.{IsLeastWord}
use Rattle.language_theory.specs.Links.{IsPrefixLink}
use Rattle.language_theory.specs.ShortlexGraph.{Graph, target, walk, node, SameNode, IsGraph, IsShortlex, IsGraphOf}
use Rattle.language_theory.proofs.Shortlex.{shortlex_nil, over_last, shortlex_trans}
use Rattle.language_theory.proofs.Representatives.{reduced_is_listed, listed_is_reduced, reduced_prefix, one_list, agreeing_list, agreeing_equivalence}
use Rattle.language_theory.proofs.Congruences.{agree_joined, moved_append, moved_within}

pub walk_append : (g : Graph) (i : ℕ) (u v : List ℕ) → walk g i (u ++ v) ≡ walk g (walk g i u) v
walk_append g = moved_append (target g)

-- the place of a letter in the row of a node
pub row_place : (i a n k : ℕ) → i < n → a < k → i * k + a < n * k
row_place i a n k h g = let l : i + 1 ≤ n = omega arith in omega (arith, mul-le-mul_left k l)

pub row_positive : (n k p : ℕ) → p < n * k → 0 < k
row_positive n zero p h = omega arith
row_positive n (suc k) p h = omega arith

-- the row of a place
pub row_of : (p i a n k : ℕ) → i * k + a ≡ p → p < n * k → i < n
row_of p i a n k e h = elim (cases_lt i n) [
  | inl l ↦ l
  | inr l ↦ (let m : n * k ≤ i * k = mul-le-mul_right k l in omega arith)
]

pub target_within : (g : Graph) (i a : ℕ) → IsGraph g → i < g.size → a < g.letters
    → target g i a < g.size
target_within g i a h l m =
    let e = h.long in let p : i * g.letters + a < length g.targets =
    omega (arith, row_place i a g.size g.letters l m) in h.within (i * g.letters + a) 0 p

pub walk_within : (g : Graph) (i : ℕ) (w : List ℕ) → IsGraph g → i < g.size → Over g.letters w
    → walk g i w < g.size
walk_within g i w h = moved_within g.letters g.size (target g) (λ j a. target_within g j a h) i w

pub node_within : (g : Graph) (w : List ℕ) → IsGraph g → Over g.letters w → node g w < g.size
node_within g w h o = walk_within g 0 w h h.root o

-- to lead to one node is a right congruence
pub same_node_right : (g : Graph) → IsRightCongruence g.letters (SameNode g)
same_node_right g = record {
  equivalence = record {
    refl = λ u o. refl;
    symm = λ u v ou ov e. sym e;
    trans =
        λ u v w ou ov ow e f. e ∙ f;
  };
  right = λ u v w ou ov ow e. walk_append g 0 u w
      ∙ (ap (λ i. walk g i w) e ∙ sym (walk_append g 0 v w));
}

pub same_node_equivalence : (g : Graph) → IsEquivalence g.letters (SameNode g)
same_node_equivalence g = (same_node_right g).equivalence

module _ (g : Graph) (words : List (List ℕ)) (s : IsShortlex g words) where
  -- the word of the node to which a word leads is related to it
  pub word_of_node : (w : List ℕ) → Over g.letters w → SameNode g (word_at words (node g w)) w
  word_of_node w o = s.leads (node g w) (node_within g w s.graph o)

  pub node_word_over : (i : ℕ) → i < g.size → Over g.letters (word_at words i)
  node_word_over i h = s.least.over i (let e = s.long in omega arith)

  -- no smaller word leads to the node
  pub node_word_least : (w : List ℕ) → Over g.letters w → ¬ (w ⊏ word_at words (node g w))
  node_word_least w o =
      let e = s.long in let h : node g w < length words =
      (let l = node_within g w s.graph o in omega arith) in
      s.least.least (node g w) w h o (word_of_node w o)

  -- the least word of a node without its last letters is the least word of the node to which it
  -- leads
  pub node_word_prefix : (i : ℕ) (u v : List ℕ) → i < g.size → word_at words i ≡ u ++ v
      → word_at words (node g u) ≡ u
  node_word_prefix i u v h e =
      let l : i < length words = (let d = s.long in omega arith) in
      let r : IsReduced g.letters (SameNode g) (u ++ v) = subst (IsReduced g.letters (SameNode g)) e
      (listed_is_reduced g.letters (SameNode g) words s.least (same_node_equivalence g) i l) in
      let (j, m, f) = reduced_is_listed g.letters (SameNode g) words s.least u
      (reduced_prefix g.letters (SameNode g) u v (same_node_right g) r) in
      let at : node g u ≡ j = ap (node g) (sym f) ∙ s.leads j (let d = s.long in omega arith) in
      ap (word_at words) at ∙ f

  -- the word of the root is empty
  pub root_word : word_at words 0 ≡ []
  root_word =
      let r : IsReduced g.letters (SameNode g) [] =
      record { over = tt; least = λ v o e. shortlex_nil v } in
      let (j, m, f) = reduced_is_listed g.letters (SameNode g) words s.least [] r in
      let at : j ≡ 0 = sym (s.leads j (let d = s.long in omega arith)) ∙ ap (node g) f in
      ap (word_at words) (sym at) ∙ f

  -- the edge with the last letter leads from the node of the prefix to the node
  pub prefix_link_edge : (i p a : ℕ) → IsPrefixLink words i p a → target g p a ≡ i
  prefix_link_edge i p a f =
      let long = s.long in
      let from = s.leads p (let h = f.prefix in omega arith) in
      let to = s.leads i (let h = f.whole in omega arith) in
      sym (ap (λ (j : ℕ). target g j a) from)
      ∙ (sym (walk_append g 0 (word_at words p) (a ∷ [])) ∙ (ap (node g) (sym f.splits) ∙ to))

  -- of the nodes with a property, the first has the least word
  pub first_node_least : (P : ℕ → Type 0) (i : ℕ) → i < g.size → P i → ((j : ℕ) → j < i → ¬ P j)
      → IsLeastWord g.letters (λ w. P (node g w)) (word_at words i)
  first_node_least P i h p before = record {
    over = node_word_over i h;
    holds = subst P (sym (s.leads i h)) p;
    least = least;
  }
    where
      least : (v : List ℕ) → Over g.letters v → P (node g v) → ¬ (v ⊏ word_at words i)
      least v ov q b = elim (cases_lt (node g v) i) [
        | inl l ↦ before (node g v) l q
        | inr l ↦ node_word_least v ov (later (cases_lt i (node g v)) l)
      ]
        where
          later : (i < node g v) ⊎ (node g v ≤ i) → i ≤ node g v → v ⊏ word_at words (node g v)
          later (inl m) l =
              let e = s.long in
              let n = node_within g v s.graph ov in
              shortlex_trans v (word_at words i) (word_at words (node g v)) b
              (s.least.rise i (node g v) m (omega arith))
          later (inr m) l =
              subst (λ (j : ℕ). v ⊏ word_at words j) (let e : i ≡ node g v = omega arith in e) b

  -- to lead to one node is a congruence where words that do so lead from every node to one node
  pub congruence_by_nodes : IsCongruence g.letters (SameNode g)
      ↔ ((u v : List ℕ) → Over g.letters u → Over g.letters v → SameNode g u v
      → MapsAlike g.size (target g) u v)
  congruence_by_nodes = (to, from)
    where
      to : IsCongruence g.letters (SameNode g) → (u v : List ℕ) → Over g.letters u
          → Over g.letters v → SameNode g u v
          → MapsAlike g.size (target g) u v
      to c u v ou ov e i h =
          let w = word_at words i in
          let l = s.leads i h in
          let there = c.left u v w ou ov (node_word_over i h) e in
          ap (λ (j : ℕ). walk g j u) (sym l) ∙ sym (walk_append g 0 w u) ∙ there
          ∙ walk_append g 0 w v ∙ ap (λ (j : ℕ). walk g j v) l

      from : ((u v : List ℕ) → Over g.letters u → Over g.letters v → SameNode g u v
          → MapsAlike g.size (target g) u v)
          → IsCongruence g.letters (SameNode g)
      from f = record {
        equivalence = same_node_equivalence g;
        right = (same_node_right g).right;
        left = λ u v w ou ov ow e.
            walk_append g 0 w u ∙ (f u v ou ov e (node g w) (node_within g w s.graph ow)
            ∙ sym (walk_append g 0 w v));
      }

-- ---- the graph of a relation

pub graph_equivalence : (k : ℕ) (same : List ℕ → List ℕ → Type 0) (g : Graph)
    (words : List (List ℕ)) → IsGraphOf k same g words → IsEquivalence k same
graph_equivalence k same g words h =
    agreeing_equivalence k (SameNode g) same h.nodes
    (subst (λ n. IsEquivalence n (SameNode g)) h.letters (same_node_equivalence g))

-- its words are the list of representatives
pub graph_list : (k : ℕ) (same : List ℕ → List ℕ → Type 0) (g : Graph) (words : List (List ℕ))
    → IsGraphOf k same g words → AreRepresentatives k same words
graph_list k same g words h =
    agreeing_list k (SameNode g) same h.nodes words
    (subst (λ n. AreRepresentatives n (SameNode g) words) h.letters h.shortlex.least)

pub agreeing_graph : (k : ℕ) (same alike : List ℕ → List ℕ → Type 0) (g : Graph)
    (words : List (List ℕ)) → Agree k same alike → IsGraphOf k same g words
    → IsGraphOf k alike g words
agreeing_graph k same alike g words a h =
    record {
      letters = h.letters;
      shortlex = h.shortlex;
      nodes =
          agree_joined k (SameNode g) same alike h.nodes a;
    }

module _ (k : ℕ) (same : List ℕ → List ℕ → Type 0) (g h : Graph) (words : List (List ℕ))
    (a : IsGraphOf k same g words) (b : IsGraphOf k same h words) where
  sizes_equal : g.size ≡ h.size
  sizes_equal = sym a.shortlex.long ∙ b.shortlex.long

  targets_alike : (i c : ℕ) → i < g.size → c < k → target g i c ≡ target h i c
  targets_alike i c l m =
      let ka = a.letters in
      let kb = b.letters in
      let size = sizes_equal in
      let w = word_at words i in
      let o : Over k w = subst (λ n. Over n w) ka (node_word_over g words a.shortlex i l) in
      let x = w ++ c ∷ [] in
      let ox : Over k x = over_last k w c o m in
      let from : node g x ≡ target g i c = walk_append g 0 w (c ∷ [])
      ∙ ap (λ j. target g j c) (a.shortlex.leads i l) in
      let to : node h x ≡ target h i c = walk_append h 0 w (c ∷ [])
      ∙ ap (λ j. target h j c) (b.shortlex.leads i (omega arith)) in
      let t = target g i c in
      let in_g : t < g.size = target_within g i c a.shortlex.graph l (omega arith) in
      let ot : Over k (word_at words t) = subst (λ n. Over n (word_at words t)) ka
      (node_word_over g words a.shortlex t in_g) in
      let one : SameNode g (word_at words t) x = a.shortlex.leads t in_g ∙ sym from in
      let other : SameNode h (word_at words t) x = (b.nodes.both (word_at words t) x ot ox).1
      ((a.nodes.both (word_at words t) x ot ox).0 one) in
      sym (b.shortlex.leads t (omega arith)) ∙ (other ∙ to)

  targets_equal : g.targets ≡ h.targets
  targets_equal = ext_get_or 0 g.targets h.targets long at
    where
      long : length g.targets ≡ length h.targets
      long =
          a.shortlex.graph.long ∙ (ap (λ n. n * g.letters) sizes_equal
          ∙ (ap (λ n. h.size * n) (a.letters ∙ sym b.letters) ∙ sym b.shortlex.graph.long))

      at : (p : ℕ) → p < length g.targets → slice_index g.targets p ≡ slice_index h.targets p
      at p l =
          let n = g.letters in
          let in_list : p < g.size * n = (let d = a.shortlex.graph.long in omega arith) in
          let some : 0 < n = row_positive g.size n p in_list in
          let split : p / n * n + p % n ≡ p = div-add-mod' p n in
          let row : p / n < g.size = row_of p (p / n) (p % n) g.size n split in_list in
          let column : p % n < n = omega arith in
          let alike : slice_index g.targets (p / n * g.letters + p % n)
          ≡ slice_index h.targets (p / n * h.letters + p % n) =
          targets_alike (p / n) (p % n) row (let d = a.letters in omega arith) in
          let split_too : p / n * h.letters + p % n ≡ p =
          ap (λ m. p / n * m + p % n) (b.letters ∙ sym a.letters) ∙ split in
          sym (ap (slice_index g.targets) split) ∙ (alike ∙ ap (slice_index h.targets) split_too)

  pub graphs_equal : g ≡ h
  graphs_equal =
      let e = sizes_equal in let f : g.letters ≡ h.letters = a.letters ∙ sym b.letters in let t =
      targets_equal in λ i. record { size = e i; letters = f i; targets = t i }

-- two shortlex graphs of one relation are equal, with equal words
pub one_graph : (k : ℕ) (same : List ℕ → List ℕ → Type 0) (g h : Graph) (xs ys : List (List ℕ))
    → IsGraphOf k same g xs → IsGraphOf k same h ys → (g ≡ h) × (xs ≡ ys)
one_graph k same g h xs ys a b =
    let e : xs ≡ ys = one_list k same xs ys (graph_equivalence k same g xs a)
    (graph_list k same g xs a) (graph_list k same h ys b) in
    (graphs_equal k same g h ys (subst (IsGraphOf k same g) e a) b, e)

pub one_graph_of_agreeing : (k : ℕ) (same alike : List ℕ → List ℕ → Type 0) (g h : Graph)
    (xs ys : List (List ℕ)) → Agree k same alike → IsGraphOf k same g xs → IsGraphOf k alike h ys
    → (g ≡ h) × (xs ≡ ys)
one_graph_of_agreeing k same alike g h xs ys e a b =
    one_graph k alike g h xs ys (agreeing_graph k same alike g xs e a) b
