-- The quotient of a shortlex graph is a shortlex graph, and each class has the least word of its
-- first node.
use Rattle.std.proofs.Common.{◌≡◌, ℕ, ◌<◌, inl, inr, List, [], ◌∷◌, length, slice_index, refl, ap, sym, subst, ◌∙◌, arith}
use Rattle.std.proofs.lemmas.Bool.{cases_lt}
use Rattle.language_theory.specs.Words.{Over, word_at, ◌⊏◌}
use Rattle.language_theory.specs.Representatives.{IsPlaceOf, AreRepresentatives}
use Rattle.language_theory.specs.ShortlexGraph.{Graph, target, walk, node, SameNode, IsGraph, IsShortlex, IsNumbering, IsFirst, IsPartition, IsQuotient, AreFirstWords}
use Rattle.language_theory.proofs.Shortlex.{shortlex_not_greater_trans, shortlex_asymm, shortlex_irrefl}
use Rattle.language_theory.proofs.Numbers.{least_number, equal_or_not}
use Rattle.language_theory.proofs.Graphs.{target_within, node_within, node_word_over, node_word_least}

-- each class has a first node
pub first_node : (count : ℕ) (classes : List ℕ) (c : ℕ) → IsNumbering count classes → c < count
    → (i : ℕ) × IsFirst classes c i
first_node count classes c n h =
    let (i, l, e) = n.used c h in
    let (j, m, f, g) = least_number (λ i. slice_index classes i ≡ c)
    (λ i. equal_or_not (slice_index classes i) c) i e in
    (j, record { within = omega arith; member = f; least = g })

-- the first node is the only one
pub first_node_only : (classes : List ℕ) (c i j : ℕ) → IsFirst classes c i → IsFirst classes c j
    → i ≡ j
first_node_only classes c i j a b = elim (cases_lt i j) [
  | inl l ↦ absurd (b.least i l a.member)
  | inr l ↦ elim (cases_lt j i) [ inl m ↦ absurd (a.least j m b.member) | inr m ↦ omega arith ]
]

-- classes come in the order of their first nodes
pub first_nodes_rise : (count : ℕ) (classes : List ℕ) (c d i j : ℕ) → IsNumbering count classes
    → IsFirst classes c i → IsFirst classes d j → c < d → i < j
first_nodes_rise count classes c d i j n a b h = elim (cases_lt i j) [
  | inl l ↦ l
  | inr l ↦
      let m = b.member in
      let (p, q, e) = n.order j c b.within (omega arith) in
      absurd (a.least p (omega arith) e)
]

-- the first node has the class 0
pub root_class : (count : ℕ) (classes : List ℕ) → IsNumbering count classes → 0 < length classes
    → slice_index classes 0 ≡ 0
root_class count classes n h = elim (cases_lt 0 (slice_index classes 0)) [
  | inl l ↦ absurd (let (j, m, e) = n.order 0 0 h l in omega arith)
  | inr l ↦ omega arith
]

module _ (g : Graph) (count : ℕ) (classes : List ℕ) (q : Graph) (s : IsGraph g)
    (p : IsPartition g count classes) (h : IsQuotient g count classes q) where
  -- a word leads from a node's class to the class of the node to which it leads
  pub quotient_walk : (i : ℕ) (w : List ℕ) → i < g.size → Over g.letters w
      → walk q (slice_index classes i) w ≡ slice_index classes (walk g i w)
  quotient_walk i [] l o = refl
  quotient_walk i (a ∷ w) l o =
      ap (λ c. walk q c w) (h.targets i a l o.0)
      ∙ quotient_walk (target g i a) w (target_within g i a s l o.0) o.1

  pub quotient_node : (w : List ℕ) → Over g.letters w → node q w ≡ slice_index classes (node g w)
  quotient_node w o =
      let root : slice_index classes 0 ≡ 0 = root_class count classes p.numbering (let r = s.root in
      let e = p.long in omega arith) in
      ap (λ c. walk q c w) (sym root) ∙ quotient_walk 0 w s.root o

module _ (g : Graph) (words : List (List ℕ)) (count : ℕ) (classes : List ℕ) (q : Graph)
    (first : List (List ℕ)) (s : IsShortlex g words) (p : IsPartition g count classes)
    (h : IsQuotient g count classes q) (f : AreFirstWords count classes words first) where
  in_quotient : (w : List ℕ) → Over g.letters w → node q w ≡ slice_index classes (node g w)
  in_quotient = quotient_node g count classes q s.graph p h

  -- a class has the word of its first node
  first_word : (c i : ℕ) → c < count → IsFirst classes c i → Over g.letters (word_at first c)
      × (node q (word_at first c) ≡ c)
  first_word c i l m =
      let e : word_at first c ≡ word_at words i = f.at c i l m in
      let in_g : i < g.size = (let d = p.long in let b = m.within in omega arith) in
      let o : Over g.letters (word_at first c) =
      subst (Over g.letters) (sym e) (node_word_over g words s i in_g) in (
        o,
        in_quotient (word_at first c) o
            ∙ (ap (λ w. slice_index classes (node g w)) e
            ∙ (ap (slice_index classes) (s.leads i in_g) ∙ m.member)),
      )

  pub first_word_over : (c : ℕ) → c < count → Over g.letters (word_at first c)
  first_word_over c l =
      let (i, m) = first_node count classes c p.numbering l in (first_word c i l m).0

  pub first_word_leads : (c : ℕ) → c < count → node q (word_at first c) ≡ c
  first_word_leads c l =
      let (i, m) = first_node count classes c p.numbering l in (first_word c i l m).1

  first_words_rise : (c d : ℕ) → c < d → d < count → word_at first c ⊏ word_at first d
  first_words_rise c d l m =
      let below : c < count = omega arith in
      let (i, a) = first_node count classes c p.numbering below in
      let (j, b) = first_node count classes d p.numbering m in
      let r : word_at words i ⊏ word_at words j =
      s.least.rise i j (first_nodes_rise count classes c d i j p.numbering a b l)
      (let e = s.long in let d = p.long in let w = b.within in omega arith) in
      rw (f.at c i below a, f.at d j m b) r

  -- the word of the first node of a class is not greater than that of another node of the class
  first_not_greater : (c i j : ℕ) → IsFirst classes c i → j < g.size → slice_index classes j ≡ c
      → ¬ (word_at words j ⊏ word_at words i)
  first_not_greater c i j a l e = elim (cases_lt i j) [
    | inl m ↦ shortlex_asymm (word_at words i) (word_at words j)
        (s.least.rise i j m (let d = s.long in omega arith))
    | inr m ↦ elim (equal_or_not i j) [
      | inl d ↦ subst (λ n. ¬ (word_at words n ⊏ word_at words i)) d
          (shortlex_irrefl (word_at words i))
      | inr n ↦ absurd (a.least j (omega arith) e)
    ]
  ]

  first_word_least : (c : ℕ) (w : List ℕ) → c < count → Over g.letters w → node q w ≡ c
      → ¬ (w ⊏ word_at first c)
  first_word_least c w l o e =
      let (i, a) = first_node count classes c p.numbering l in
      let j = node g w in
      let in_g : j < g.size = node_within g w s.graph o in
      let m : slice_index classes j ≡ c = sym (in_quotient w o) ∙ e in
      subst (λ x. ¬ (w ⊏ x)) (sym (f.at c i l a))
      (shortlex_not_greater_trans (word_at words i) (word_at words j) w
      (first_not_greater c i j a in_g m) (node_word_least g words s w o))

  first_words_least : AreRepresentatives g.letters (SameNode q) first
  first_words_least = record {
    over = λ c l. first_word_over c (let e = f.long in omega arith);
    rise = λ c d l m. first_words_rise c d l (let e = f.long in omega arith);
    place = λ w o. (node q w, place w o);
    least = λ c w l o e. let m : c < count = (let d = f.long in omega arith) in
        first_word_least c w m o (sym e ∙ first_word_leads c m);
  }
    where
      place : (w : List ℕ) → Over g.letters w → IsPlaceOf (SameNode q) first w (node q w)
      place w o =
          let l : node q w < count =
          (let e = in_quotient w o in let b =
          p.numbering.within (node g w) (let d = p.long in let n =
          node_within g w s.graph o in omega arith) in omega arith) in
          record {
            within = (let e = f.long in omega arith);
            related = first_word_leads (node q w) l;
            only = λ j m e. sym (first_word_leads j (let d = f.long in omega arith)) ∙ e;
          }

  -- the quotient of a shortlex graph is a shortlex graph
  pub quotient_shortlex : IsShortlex q first
  quotient_shortlex = record {
    graph = h.graph;
    long = f.long ∙ sym h.size;
    leads = λ c l. first_word_leads c (let e = h.size in omega arith);
    least = subst (λ n. AreRepresentatives n (SameNode q) first) (sym h.letters) first_words_least;
  }
