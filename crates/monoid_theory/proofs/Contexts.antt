-- Separating contexts: there is at most one least one, and in a minimal automaton there is one for
-- each two words that are not congruent.
use Rattle.std.proofs.Common.{◌≡◌, ◌↔◌, ◌⊎◌, inl, inr, ℕ, ◌+◌, ◌*◌, ◌/◌, ◌%◌, ◌<◌, Bool, true, false, IsTrue, List, [], ◌∷◌, ◌++◌, refl, sym, ap, subst, subst₂, ◌∙◌, append_assoc}
use Rattle.std.proofs.lemmas.Nat.{mod-mul-add, div-mul-add, div_below, mod_below}
use Rattle.language_theory.specs.Words.{Over, word_at}
use Rattle.language_theory.specs.Languages.{ExactlyOne, IsLeastWord}
use Rattle.language_theory.specs.Automaton.{is_marked}
use Rattle.language_theory.specs.Congruence.{Syntactic, moved}
use Rattle.language_theory.specs.ShortlexGraph.{Graph, target, walk, node, SameNode, IsGraph, Alike}
use Rattle.language_theory.specs.Nerode.{Nerode, MinimalAutomaton, IsMinimal}
use Rattle.monoid_theory.specs.Separation.{Separates, CanSeparate, IsSeparation, IsFirstParting}
use Rattle.language_theory.proofs.Numbers.{equal_or_not, least_or_none}
use Rattle.language_theory.proofs.Shortlex.{over_append, over_or_not}
use Rattle.language_theory.proofs.LeastWords.{least_word, least_words_equal}
use Rattle.language_theory.proofs.Graphs.{row_place, walk_append, walk_within, target_within, node_within, first_node_least}
use Rattle.language_theory.proofs.Minimal.{minimal_word_over, syntactic_by_walks}
use Rattle.monoid_theory.proofs.FiniteSearch.{found_or_none}

-- two words have one least separating context
pub separation_is_one : (k : ℕ) (L : List ℕ → Type 0) (s t u v x y : List ℕ)
    → IsSeparation k L s t u v → IsSeparation k L s t x y → (u ≡ x) × (v ≡ y)
separation_is_one k L s t u v x y a b = (
  before,
  least_words_equal k (Separates L s t u) v y a.behind
      (subst (λ (w : List ℕ). IsLeastWord k (Separates L s t w) y) (sym before) b.behind),
)
  where
    before : u ≡ x
    before = least_words_equal k (CanSeparate k L s t) u x a.before b.before

-- separated words are not congruent
pub separated_apart : (k : ℕ) (L : List ℕ → Type 0) (s t u v : List ℕ) → Over k u → Over k v
    → Separates L s t u v → ¬ Syntactic k L s t
separated_apart k L s t u v ou ov (inl (y, n)) h = n ((h u v ou ov).0 y)
separated_apart k L s t u v ou ov (inr (n, y)) h = n ((h u v ou ov).1 y)

-- of two marks that stand for facts
apart_marks : (a b : Bool) (P Q : Type 0) → IsTrue a ↔ P → IsTrue b ↔ Q → ExactlyOne P Q ↔ ¬ (a ≡ b)
apart_marks a b P Q f g = (to, from a b f g)
  where
    to : ExactlyOne P Q → ¬ (a ≡ b)
    to (inl (p, n)) e = n (g.0 (subst IsTrue e (f.1 p)))
    to (inr (n, q)) e = n (f.0 (subst IsTrue (sym e) (g.1 q)))

    from : (a b : Bool) → IsTrue a ↔ P → IsTrue b ↔ Q → ¬ (a ≡ b) → ExactlyOne P Q
    from true true f g n = absurd (n refl)
    from true false f g n = inl (f.0 refl, λ q. let e = g.1 q in cc)
    from false true f g n = inr (λ p. let e = f.1 p in cc, g.0 refl)
    from false false f g n = absurd (n refl)

equal_marks_or_not : (a b : Bool) → (a ≡ b) ⊎ ¬ (a ≡ b)
equal_marks_or_not true true = inl refl
equal_marks_or_not true false = inr (λ e. cc)
equal_marks_or_not false true = inr (λ e. cc)
equal_marks_or_not false false = inl refl

-- two walks side by side are one walk over pairs of nodes
abbrev pair_target : Graph → ℕ → ℕ → ℕ
pair_target g p a = target g (p / g.size) a * g.size + target g (p % g.size) a

module _ (g : Graph) (h : IsGraph g) (marks : List Bool) where
  pair_step : (i j a : ℕ) → j < g.size
      → pair_target g (i * g.size + j) a ≡ target g i a * g.size + target g j a
  pair_step i j a l = rw (div-mul-add i g.size j l, mod-mul-add i g.size j l) refl

  pair_within : (p a : ℕ) → p < g.size * g.size → a < g.letters
      → pair_target g p a < g.size * g.size
  pair_within p a l m =
      row_place (target g (p / g.size) a) (target g (p % g.size) a) g.size g.size
      (target_within g (p / g.size) a h (div_below p g.size g.size h.root l) m)
      (target_within g (p % g.size) a h (mod_below p g.size h.root) m)

  pair_walk : (i j : ℕ) (w : List ℕ) → i < g.size → j < g.size → Over g.letters w
      → moved (pair_target g) (i * g.size + j) w ≡ walk g i w * g.size + walk g j w
  pair_walk i j [] l m o = refl
  pair_walk i j (a ∷ w) l m o =
      ap (λ (p : ℕ). moved (pair_target g) p w) (pair_step i j a m)
      ∙ pair_walk (target g i a) (target g j a) w (target_within g i a h l o.0)
      (target_within g j a h m o.0) o.1

  -- the two nodes of a pair have different marks
  abbrev Differ : ℕ → Type 0
  Differ p = ¬ (is_marked marks (p / g.size) ≡ is_marked marks (p % g.size))

  differ_or_not : (p : ℕ) → Differ p ⊎ ¬ Differ p
  differ_or_not p =
      elim (equal_marks_or_not (is_marked marks (p / g.size)) (is_marked marks (p % g.size)))
      [ inl e ↦ inr (λ f. f e) | inr f ↦ inl f ]

  differ_at : (i j : ℕ) → j < g.size → Differ (i * g.size + j)
      ↔ ¬ (is_marked marks i ≡ is_marked marks j)
  differ_at i j l = rw (div-mul-add i g.size j l, mod-mul-add i g.size j l) (λ f. f, λ f. f)

  walks_differ : (i j : ℕ) (w : List ℕ) → i < g.size → j < g.size → Over g.letters w
      → Differ (moved (pair_target g) (i * g.size + j) w)
      ↔ ¬ (is_marked marks (walk g i w) ≡ is_marked marks (walk g j w))
  walks_differ i j w l m o =
      rw (pair_walk i j w l m o) (differ_at (walk g i w) (walk g j w) (walk_within g j w h m o))

  -- some word leads from two nodes to nodes with different marks, or none does
  pub told_apart_or_alike : (i j : ℕ) → i < g.size → j < g.size
      → ((w : List ℕ) × Over g.letters w
      × ¬ (is_marked marks (walk g i w) ≡ is_marked marks (walk g j w))) ⊎ Alike g marks i j
  told_apart_or_alike i j l m =
      elim (found_or_none g.letters (g.size * g.size) (pair_target g) pair_within Differ
      differ_or_not (i * g.size + j) (row_place i j g.size g.size l m)) [
        | inl (w, o, d) ↦ inl (w, o, (walks_differ i j w l m o).0 d)
        | inr none ↦ inr (λ w o. elim (equal_marks_or_not (is_marked marks (walk g i w))
            (is_marked marks (walk g j w)))
            [ inl e ↦ e | inr f ↦ absurd (none w o ((walks_differ i j w l m o).1 f)) ])
      ]

module _ (k : ℕ) (L : List ℕ → Type 0) (d : MinimalAutomaton) (h : IsMinimal k L d) where
  in_graph : (w : List ℕ) → Over k w → Over d.graph.letters w
  in_graph w o = subst (λ (n : ℕ). Over n w) (sym h.classes.letters) o

  from_graph : (w : List ℕ) → Over d.graph.letters w → Over k w
  from_graph w o = subst (λ (n : ℕ). Over n w) h.classes.letters o

  node_inside : (w : List ℕ) → Over k w → node d.graph w < d.graph.size
  node_inside w o = node_within d.graph w h.classes.shortlex.graph (in_graph w o)

  marked_behind : (x v : List ℕ) → Over k x → Over k v
      → IsTrue (is_marked d.finals (walk d.graph (node d.graph x) v)) ↔ L (x ++ v)
  marked_behind x v ox ov =
      subst (λ (i : ℕ). IsTrue (is_marked d.finals i) ↔ L (x ++ v)) (walk_append d.graph 0 x v)
      (h.final (x ++ v) (over_append k x v ox ov))

  -- a context separates where it leads to nodes of which exactly one is final
  pub separates_by_marks : (s t u v : List ℕ) → Over k s → Over k t → Over k u → Over k v
      → Separates L s t u v ↔ ¬ (is_marked d.finals (walk d.graph (node d.graph (u ++ s)) v)
      ≡ is_marked d.finals (walk d.graph (node d.graph (u ++ t)) v))
  separates_by_marks s t u v os ot ou ov =
      apart_marks (is_marked d.finals (walk d.graph (node d.graph (u ++ s)) v))
      (is_marked d.finals (walk d.graph (node d.graph (u ++ t)) v)) (L (u ++ (s ++ v)))
      (L (u ++ (t ++ v))) (there s os) (there t ot)
    where
      there : (x : List ℕ) → Over k x
          → IsTrue (is_marked d.finals (walk d.graph (node d.graph (u ++ x)) v)) ↔ L (u ++ (x ++ v))
      there x ox =
          subst (λ (w : List ℕ). IsTrue
          (is_marked d.finals (walk d.graph (node d.graph (u ++ x)) v)) ↔ L w)
          (append_assoc u x v) (marked_behind (u ++ x) v (over_append k u x ou ox) ov)

  -- a word before separates, with some word behind, where it leads to two nodes
  pub can_separate_by_nodes : (s t u : List ℕ) → Over k s → Over k t → Over k u
      → CanSeparate k L s t u ↔ ¬ SameNode d.graph (u ++ s) (u ++ t)
  can_separate_by_nodes s t u os ot ou = (to, from)
    where
      one : Over k (u ++ s)
      one = over_append k u s ou os

      other : Over k (u ++ t)
      other = over_append k u t ou ot

      to : CanSeparate k L s t u → ¬ SameNode d.graph (u ++ s) (u ++ t)
      to (v, ov, f) e =
          (separates_by_marks s t u v os ot ou ov).0 f
          (ap (λ (i : ℕ). is_marked d.finals (walk d.graph i v)) e)

      from : ¬ SameNode d.graph (u ++ s) (u ++ t) → CanSeparate k L s t u
      from n =
          elim (told_apart_or_alike d.graph h.classes.shortlex.graph d.finals
          (node d.graph (u ++ s)) (node d.graph (u ++ t)) (node_inside (u ++ s) one)
          (node_inside (u ++ t) other)) [
            | inl (v, o, f) ↦ (
              v,
              from_graph v o,
              (separates_by_marks s t u v os ot ou (from_graph v o)).1 f,
            )
            | inr a ↦ absurd (n ((h.classes.nodes.both (u ++ s) (u ++ t) one other).1 (nerode a)))
          ]
        where
          nerode : Alike d.graph d.finals (node d.graph (u ++ s)) (node d.graph (u ++ t))
              → Nerode k L (u ++ s) (u ++ t)
          nerode a q o =
              let e = a q (in_graph q o) in
              let f = marked_behind (u ++ s) q one o in
              let g = marked_behind (u ++ t) q other o in
              (λ y. g.0 (subst IsTrue e (f.1 y)), λ y. f.0 (subst IsTrue (sym e) (g.1 y)))

  walk_from_word : (u s : List ℕ) → walk d.graph (node d.graph u) s ≡ node d.graph (u ++ s)
  walk_from_word u s = sym (walk_append d.graph 0 u s)

  -- a word separates before where the words part at its node
  pub can_separate_by_parting : (s t u : List ℕ) → Over k s → Over k t → Over k u
      → CanSeparate k L s t u
      ↔ ¬ (walk d.graph (node d.graph u) s ≡ walk d.graph (node d.graph u) t)
  can_separate_by_parting s t u os ot ou =
      rw (walk_from_word u s, walk_from_word u t) (can_separate_by_nodes s t u os ot ou)

  -- the least word before is that of the first node at which the words part
  pub parting_before : (s t : List ℕ) (i : ℕ) → Over k s → Over k t → IsFirstParting d.graph s t i
      → IsLeastWord k (CanSeparate k L s t) (word_at d.words i)
  parting_before s t i os ot f =
      let first = first_node_least d.graph d.words h.classes.shortlex Parts i f.within f.parts
      (λ j l n. n (f.first j l)) in
      let o = minimal_word_over k L d h i f.within in
      record {
        over = o;
        holds = (can_separate_by_parting s t (word_at d.words i) os ot o).1 first.holds;
        least = λ v ov c. first.least v (in_graph v ov)
            ((can_separate_by_parting s t v os ot ov).0 c);
      }
    where
      Parts : ℕ → Type 0
      Parts j = ¬ (walk d.graph j s ≡ walk d.graph j t)

  -- two words part at a first node, or at none
  pub parting_or_none : (s t : List ℕ) → ((i : ℕ) × IsFirstParting d.graph s t i)
      ⊎ ((i : ℕ) → i < d.graph.size → walk d.graph i s ≡ walk d.graph i t)
  parting_or_none s t =
      elim (least_or_none (λ i. ¬ (walk d.graph i s ≡ walk d.graph i t)) parts_or_not
      d.graph.size) [
        | inl (i, l, p, before) ↦ inl (
          i,
          record {
            within = l;
            parts = p;
            first =
                λ j m. together j (before j m);
          },
        )
        | inr none ↦ inr (λ i l. together i (none i l))
      ]
    where
      parts_or_not : (i : ℕ) → ¬ (walk d.graph i s ≡ walk d.graph i t)
          ⊎ ¬ ¬ (walk d.graph i s ≡ walk d.graph i t)
      parts_or_not i =
          elim (equal_or_not (walk d.graph i s) (walk d.graph i t))
          [ inl e ↦ inr (λ f. f e) | inr f ↦ inl f ]

      together : (i : ℕ) → ¬ ¬ (walk d.graph i s ≡ walk d.graph i t)
          → walk d.graph i s ≡ walk d.graph i t
      together i f =
          elim (equal_or_not (walk d.graph i s) (walk d.graph i t))
          [ inl e ↦ e | inr g ↦ absurd (f g) ]

  OverSeparates : List ℕ → List ℕ → List ℕ → List ℕ → Type 0
  OverSeparates s t u v = Over k v × Separates L s t u v

  separates_or_not : (s t u : List ℕ) → Over k s → Over k t → Over k u → (v : List ℕ)
      → OverSeparates s t u v ⊎ ¬ OverSeparates s t u v
  unfolding OverSeparates
  separates_or_not s t u os ot ou v = by (over_or_not k v)
    where
      by : Over k v ⊎ ¬ Over k v → OverSeparates s t u v ⊎ ¬ OverSeparates s t u v
      by (inr n) = inr (λ f. n f.0)
      by (inl ov) =
          let m = separates_by_marks s t u v os ot ou ov in
          elim (equal_marks_or_not (is_marked d.finals (walk d.graph (node d.graph (u ++ s)) v))
          (is_marked d.finals (walk d.graph (node d.graph (u ++ t)) v))) [
            | inl e ↦ inr (λ f. m.0 f.1 e)
            | inr f ↦ inl (ov, m.1 f)
          ]

  -- where some word behind separates, there is a least one
  pub least_behind : (s t u v : List ℕ) → Over k s → Over k t → Over k u → Over k v
      → Separates L s t u v → (w : List ℕ) × IsLeastWord k (Separates L s t u) w
  unfolding OverSeparates
  least_behind s t u v os ot ou ov f =
      by (least_word k (OverSeparates s t u) (separates_or_not s t u os ot ou) v ov (ov, f))
    where
      by : (w : List ℕ) × IsLeastWord k (OverSeparates s t u) w
          → (w : List ℕ) × IsLeastWord k (Separates L s t u) w
      by (w, l) =
          (w, record { over = l.over; holds = l.holds.1; least = λ x o g. l.least x o (o, g) })

  separation_at : (s t : List ℕ) (i : ℕ) → Over k s → Over k t → IsFirstParting d.graph s t i
      → (u v : List ℕ) × IsSeparation k L s t u v
  separation_at s t i os ot f =
      let b = parting_before s t i os ot f in
      let (v, ov, g) = b.holds in
      let (w, l) = least_behind s t (word_at d.words i) v os ot b.over ov g in
      (word_at d.words i, w, record { before = b; behind = l })

  -- words are congruent or have a least separating context
  pub congruent_or_separated : (s t : List ℕ) → Over k s → Over k t → Syntactic k L s t
      ⊎ ((u v : List ℕ) × IsSeparation k L s t u v)
  congruent_or_separated s t os ot = elim (parting_or_none s t) [
    | inl (i, f) ↦ inr (separation_at s t i os ot f)
    | inr all ↦ inl (((syntactic_by_walks k L d h).both s t os ot).1 all)
  ]

  pub separation_exists : (s t : List ℕ) → Over k s → Over k t → ¬ Syntactic k L s t
      → (u v : List ℕ) × IsSeparation k L s t u v
  separation_exists s t os ot n =
      elim (congruent_or_separated s t os ot) [ inl c ↦ absurd (n c) | inr f ↦ f ]

  -- the least separating context, found by the nodes: the word of the first node at which the words
  -- part, and the least word that leads from there to different marks
  pub separation_by_nodes : (s t v : List ℕ) (i : ℕ) → Over k s → Over k t
      → IsFirstParting d.graph s t i
      → IsLeastWord k (λ w. ¬ (is_marked d.finals (walk d.graph (walk d.graph i s) w)
      ≡ is_marked d.finals (walk d.graph (walk d.graph i t) w))) v
      → IsSeparation k L s t (word_at d.words i) v
  separation_by_nodes s t v i os ot f m =
      record {
        before = b;
        behind = record {
          over = m.over;
          holds = (at v m.over).1 m.holds;
          least =
              λ w o g. m.least w o ((at w o).0 g);
        };
      }
    where
      b : IsLeastWord k (CanSeparate k L s t) (word_at d.words i)
      b = parting_before s t i os ot f

      to : (x : List ℕ) → node d.graph (word_at d.words i ++ x) ≡ walk d.graph i x
      to x =
          walk_append d.graph 0 (word_at d.words i) x
          ∙ ap (λ (j : ℕ). walk d.graph j x) (h.classes.shortlex.leads i f.within)

      at : (w : List ℕ) → Over k w → Separates L s t (word_at d.words i) w
          ↔ ¬ (is_marked d.finals (walk d.graph (walk d.graph i s) w)
          ≡ is_marked d.finals (walk d.graph (walk d.graph i t) w))
      at w o =
          subst₂ (λ (x y : ℕ). Separates L s t (word_at d.words i) w
          ↔ ¬ (is_marked d.finals (walk d.graph x w) ≡ is_marked d.finals (walk d.graph y w)))
          (to s) (to t) (separates_by_marks s t (word_at d.words i) w os ot b.over o)
