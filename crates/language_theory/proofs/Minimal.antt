-- The minimal automaton: by minimising a shortlex graph with marks; its nodes and the syntactic
-- congruence; it is the only one.
use Rattle.std.proofs.Common.{◌≡◌, ℕ, ◌<◌, ◌↔◌, Bool, false, IsTrue, List, ◌++◌, length, slice_index, ap, sym, subst, ◌∙◌, arith}
use Rattle.std.specs.Cmp.{both_ways}
use Rattle.std.proofs.lemmas.List.{ext_get_or}
use Rattle.language_theory.specs.Words.{Over, word_at}
use Rattle.language_theory.specs.Automaton.{is_marked}
use Rattle.language_theory.specs.Congruence.{Syntactic, Agree, MapsAlike}
use Rattle.language_theory.specs.Languages.{HaveSameWords}
use Rattle.language_theory.specs.Nerode.{Nerode, MinimalAutomaton, IsMinimal, accepted}
use Rattle.language_theory.specs.ShortlexGraph.{Graph, target, walk, node, SameNode, IsShortlex, IsQuotient, AreFirstWords, Alike, IsCoarsest}
use Rattle.language_theory.proofs.Shortlex.{over_append}
use Rattle.language_theory.proofs.Congruences.{both_directions, other_direction, syntactic_by_nerode, nerode_agrees}
use Rattle.language_theory.proofs.Graphs.{walk_append, node_within, node_word_over, one_graph, agreeing_graph}
use Rattle.language_theory.proofs.Quotients.{quotient_node, quotient_shortlex}

-- marks of two nodes are equal where both or neither of two facts hold
marks_equal : (s t : Bool) (P Q : Type 0) → IsTrue s ↔ P → IsTrue t ↔ Q → P ↔ Q → s ≡ t
marks_equal s t P Q a b h = both_ways s t (λ e. b.1 (h.0 (a.0 e))) (λ e. a.1 (h.1 (b.0 e)))

marks_alike : (s t : Bool) (P Q : Type 0) → IsTrue s ↔ P → IsTrue t ↔ Q → s ≡ t → P ↔ Q
marks_alike s t P Q a b e =
    (λ p. b.0 (subst IsTrue e (a.1 p)), λ q. a.0 (subst IsTrue (sym e) (b.1 q)))

module _ (k : ℕ) (L : List ℕ → Type 0) (g : Graph) (words : List (List ℕ)) (marks : List Bool)
    (s : IsShortlex g words) (letters : g.letters ≡ k) (m : (w : List ℕ) → Over k w
    → IsTrue (is_marked marks (node g w)) ↔ L w) where
  -- nodes that no word tells apart are those of words with the same words behind them
  pub alike_nodes : (u v : List ℕ) → Over k u → Over k v → Alike g marks (node g u) (node g v)
      ↔ Nerode k L u v
  alike_nodes u v ou ov = (to, from)
    where
      behind : (x w : List ℕ) → Over k x → Over k w → IsTrue (is_marked marks (walk g (node g x) w))
          ↔ L (x ++ w)
      behind x w ox ow =
          subst (λ i. IsTrue (is_marked marks i) ↔ L (x ++ w)) (walk_append g 0 x w)
          (m (x ++ w) (over_append k x w ox ow))

      to : Alike g marks (node g u) (node g v) → Nerode k L u v
      to h w o =
          marks_alike (is_marked marks (walk g (node g u) w))
          (is_marked marks (walk g (node g v) w)) (L (u ++ w)) (L (v ++ w)) (behind u w ou o)
          (behind v w ov o) (h w (subst (λ n. Over n w) (sym letters) o))

      from : Nerode k L u v → Alike g marks (node g u) (node g v)
      from h w o =
          let ow : Over k w = subst (λ n. Over n w) letters o in
          marks_equal (is_marked marks (walk g (node g u) w))
          (is_marked marks (walk g (node g v) w)) (L (u ++ w)) (L (v ++ w)) (behind u w ou ow)
          (behind v w ov ow) (h w ow)

  -- the classes of nodes that no word tells apart are the nodes of the minimal automaton
  pub quotient_minimal : (count : ℕ) (classes : List ℕ) (q : Graph) (first : List (List ℕ))
      (finals : List Bool) → IsCoarsest g marks count classes → IsQuotient g count classes q
      → AreFirstWords count classes words first → length finals ≡ count
      → ((i : ℕ) → i < g.size → is_marked finals (slice_index classes i) ≡ is_marked marks i)
      → IsMinimal k L (record { graph = q; finals = finals; words = first })
  quotient_minimal count classes q first finals c h f long same = record {
    classes = record {
      letters = h.letters ∙ letters;
      shortlex =
          quotient_shortlex g words count classes q first s c.partition h f;
      nodes =
          record { both = nodes };
    };
    long = long ∙ sym h.size;
    final = λ w o. subst (λ b. IsTrue b ↔ L w)
        (sym (ap (is_marked finals) (at w o) ∙ same (node g w) (inside w o))) (m w o);
  }
    where
      in_g : (w : List ℕ) → Over k w → Over g.letters w
      in_g w o = subst (λ n. Over n w) (sym letters) o

      at : (w : List ℕ) → Over k w → node q w ≡ slice_index classes (node g w)
      at w o = quotient_node g count classes q s.graph c.partition h w (in_g w o)

      inside : (w : List ℕ) → Over k w → node g w < g.size
      inside w o = node_within g w s.graph (in_g w o)

      nodes : (u v : List ℕ) → Over k u → Over k v → SameNode q u v ↔ Nerode k L u v
      nodes u v ou ov =
          let a = c.alike (node g u) (node g v) (inside u ou) (inside v ov) in
          both_directions (λ e. sym (at u ou) ∙ (e ∙ at v ov), λ e. at u ou ∙ (e ∙ sym (at v ov)))
          (both_directions a (alike_nodes u v ou ov))

module _ (k : ℕ) (L : List ℕ → Type 0) (d : MinimalAutomaton) (h : IsMinimal k L d) where
  pub minimal_word_over : (i : ℕ) → i < d.graph.size → Over k (word_at d.words i)
  minimal_word_over i l =
      subst (λ n. Over n (word_at d.words i)) h.classes.letters
      (node_word_over d.graph d.words h.classes.shortlex i l)

  -- words are syntactically congruent exactly where they lead from each node to one node
  pub syntactic_by_walks : Agree k (Syntactic k L) (MapsAlike d.graph.size (target d.graph))
  syntactic_by_walks =
      record {
        both = λ u v ou ov. both_directions (syntactic_by_nerode k L u v)
            (to u v ou ov, from u v ou ov);
      }
    where
      to : (u v : List ℕ) → Over k u → Over k v
          → ((p : List ℕ) → Over k p → Nerode k L (p ++ u) (p ++ v))
          → MapsAlike d.graph.size (target d.graph) u v
      to u v ou ov f i l =
          let p = word_at d.words i in
          let op = minimal_word_over i l in
          let e : node d.graph p ≡ i = h.classes.shortlex.leads i l in
          let s : node d.graph (p ++ u) ≡ node d.graph (p ++ v) =
          (h.classes.nodes.both (p ++ u) (p ++ v) (over_append k p u op ou)
          (over_append k p v op ov)).1 (f p op) in
          ap (λ j. walk d.graph j u) (sym e)
          ∙ (sym (walk_append d.graph 0 p u)
          ∙ (s ∙ (walk_append d.graph 0 p v ∙ ap (λ j. walk d.graph j v) e)))

      from : (u v : List ℕ) → Over k u → Over k v → MapsAlike d.graph.size (target d.graph) u v
          → (p : List ℕ) → Over k p → Nerode k L (p ++ u) (p ++ v)
      from u v ou ov f p op =
          (h.classes.nodes.both (p ++ u) (p ++ v) (over_append k p u op ou)
          (over_append k p v op ov)).0 (walk_append d.graph 0 p u
          ∙ (f (node d.graph p) (node_within d.graph p h.classes.shortlex.graph
          (subst (λ n. Over n p) (sym h.classes.letters) op))
          ∙ sym (walk_append d.graph 0 p v)))

-- languages with the same words have the same minimal automata
pub agreeing_minimal : (k : ℕ) (L M : List ℕ → Type 0) (d : MinimalAutomaton) → HaveSameWords k L M
    → IsMinimal k L d → IsMinimal k M d
agreeing_minimal k L M d a h = record {
  classes = agreeing_graph k (Nerode k L) (Nerode k M) d.graph d.words (nerode_agrees k L M a)
      h.classes;
  long = h.long;
  final = λ w o. both_directions (h.final w o) (a.both w o);
}

-- a minimal automaton is that of the language that it accepts
pub minimal_of_accepted : (k : ℕ) (L : List ℕ → Type 0) (d : MinimalAutomaton) → IsMinimal k L d
    → IsMinimal k (accepted d) d
minimal_of_accepted k L d h =
    agreeing_minimal k L (accepted d) d (record { both = λ w o. other_direction (h.final w o) }) h

-- a language has one minimal automaton
pub one_minimal : (k : ℕ) (L : List ℕ → Type 0) (c d : MinimalAutomaton) → IsMinimal k L c
    → IsMinimal k L d → c ≡ d
one_minimal k L c d g h = λ i. record { graph = graphs i; finals = finals i; words = lists i }
  where
    both : (c.graph ≡ d.graph) × (c.words ≡ d.words)
    both = one_graph k (Nerode k L) c.graph d.graph c.words d.words g.classes h.classes

    graphs : c.graph ≡ d.graph
    graphs = both.0

    lists : c.words ≡ d.words
    lists = both.1

    at : (i : ℕ) → i < length c.finals → is_marked c.finals i ≡ is_marked d.finals i
    at i l =
        let m : i < c.graph.size = (let e = g.long in omega arith) in
        let w = word_at c.words i in
        let o : Over k w = minimal_word_over k L c g i m in
        let one : IsTrue (is_marked c.finals i) ↔ L w =
        subst (λ j. IsTrue (is_marked c.finals j) ↔ L w) (g.classes.shortlex.leads i m)
        (g.final w o) in
        let to : node d.graph w ≡ i = ap (λ (t : Graph). node t w) (sym graphs)
        ∙ g.classes.shortlex.leads i m in
        let other : IsTrue (is_marked d.finals i) ↔ L w =
        subst (λ j. IsTrue (is_marked d.finals j) ↔ L w) to (h.final w o) in
        marks_equal (is_marked c.finals i) (is_marked d.finals i) (L w) (L w) one other
        (λ x. x, λ x. x)

    finals : c.finals ≡ d.finals
    finals =
        ext_get_or false c.finals d.finals
        (g.long ∙ (ap (λ (t : Graph). t.size) graphs ∙ sym h.long)) at
