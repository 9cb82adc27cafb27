-- The powers in a syntactic monoid, by the elements to which they lead.
use Rattle.std.proofs.Common.{◌≡◌, ◌↔◌, inl, inr, ℕ, ◌+◌, ◌<◌, IsTrue, List, ◌++◌, length, Option, Some, None, rules, refl, sym, ap, subst, ◌∙◌, arith, append_assoc}
use Rattle.std.specs.Prelude.{MatchOption}
use Rattle.std.specs.Option.{IsSome}
use Rattle.language_theory.specs.Words.{Over, power, word_at}
use Rattle.language_theory.specs.Languages.{ExactlyOne, IsLeastWord}
use Rattle.language_theory.specs.Automaton.{is_marked}
use Rattle.language_theory.specs.Congruence.{Syntactic, Agree}
use Rattle.language_theory.specs.ShortlexGraph.{node, SameNode}
use Rattle.monoid_theory.specs.Powers.{IsIndexAndPeriod, IsAperiodic, IsFirstLoop}
use Rattle.monoid_theory.specs.Products.{IsProduct}
use Rattle.monoid_theory.specs.Separation.{Separates, CanSeparate, IsSeparation}
use Rattle.language_theory.proofs.Congruences.{agree_turned, syntactic_congruence}
use Rattle.language_theory.proofs.Shortlex.{over_append}
use Rattle.monoid_theory.proofs.Agreeing.{agreeing_index}
use Rattle.monoid_theory.proofs.Aperiodic.{aperiodic_by_listed, neighbours_apart}
use Rattle.monoid_theory.proofs.Exponents.{over_power}
use Rattle.monoid_theory.proofs.Settling.{never_settles}
use Rattle.cayley_tables.specs.CayleyGraphs.{AreCayleyGraphs}
use Rattle.cayley_tables.proofs.AgreeingGraphs.{graphs_agree, graphs_are_cayley}
use Rattle.syntactic_monoid.specs.SyntacticMonoid.{SyntacticMonoid, recognised, IsSyntactic}
use Rattle.answers.specs.declared.powers.Loop.{Loop}
use Rattle.star_free.specs.Loops.{IsLoop}
use Rattle.star_free.proofs.PowerNodes.{product_is_node}

-- the least word of a language is that of each language with the same words
pub least_word_alike : (k : ℕ) (P Q : List ℕ → Type 0) (w : List ℕ)
    → ((v : List ℕ) → Over k v → P v ↔ Q v) → IsLeastWord k P w → IsLeastWord k Q w
least_word_alike k P Q w a h = record {
  over = h.over;
  holds = (a w h.over).0 h.holds;
  least = λ v o q. h.least v o ((a v o).1 q);
}

pub exactly_one_alike : (P Q R S : Type 0) → P ↔ R → Q ↔ S → ExactlyOne P Q → ExactlyOne R S
exactly_one_alike P Q R S f g (inl (p, n)) = inl (f.0 p, λ s. n (g.1 s))
exactly_one_alike P Q R S f g (inr (n, q)) = inr (λ r. n (f.1 r), g.0 q)

module _ (k : ℕ) (L : List ℕ → Type 0) (s t x y : List ℕ) (h : Syntactic k L s x)
    (g : Syntactic k L t y) where
  separates_alike : (u v : List ℕ) → Over k u → Over k v → Separates L s t u v ↔ Separates L x y u v
  separates_alike u v ou ov = (
    exactly_one_alike (L (u ++ (s ++ v))) (L (u ++ (t ++ v))) (L (u ++ (x ++ v)))
        (L (u ++ (y ++ v))) (h u v ou ov) (g u v ou ov),
    exactly_one_alike (L (u ++ (x ++ v))) (L (u ++ (y ++ v))) (L (u ++ (s ++ v)))
        (L (u ++ (t ++ v))) ((h u v ou ov).1, (h u v ou ov).0) ((g u v ou ov).1, (g u v ou ov).0),
  )

  can_separate_alike : (u : List ℕ) → Over k u → CanSeparate k L s t u ↔ CanSeparate k L x y u
  can_separate_alike u ou = (
    λ (v, ov, e). (v, ov, (separates_alike u v ou ov).0 e),
    λ (v, ov, e). (v, ov, (separates_alike u v ou ov).1 e),
  )

  -- congruent words have the same separations
  pub separation_alike : (u v : List ℕ) → IsSeparation k L s t u v → IsSeparation k L x y u v
  separation_alike u v e = record {
    before = least_word_alike k (CanSeparate k L s t) (CanSeparate k L x y) u can_separate_alike
        e.before;
    behind = least_word_alike k (Separates L s t u) (Separates L x y u) v
        (λ w o. separates_alike u w e.before.over o) e.behind;
  }

-- where there is no other answer, a context is found
pub is_found : {A : Type 0} (P : Type 0) (Q : A → Type 0) (o : Option A) → ¬ P → MatchOption o P Q
    → IsSome o
is_found P Q None n f = absurd (n f)
is_found P Q (Some x) n f = search rules

pub found_is : {A : Type 0} (P : Type 0) (Q : A → Type 0) (o : Option A) (x : A) → o ≡ Some x
    → MatchOption o P Q → Q x
found_is {A} P Q o x e f = subst (λ (p : Option A). MatchOption p P Q) e f

module _ (m : SyntacticMonoid) (h : IsSyntactic m) where
  abbrev k : ℕ
  k = m.graphs.right.letters

  pub agree : Agree m.graphs.right.letters (SameNode m.graphs.right)
      (Syntactic m.graphs.right.letters (recognised m))
  agree = graphs_agree k (Syntactic k (recognised m)) (syntactic_congruence k (recognised m))
      m.graphs h.monoid.graphs

  pub syntactic_graphs : AreCayleyGraphs m.graphs
  syntactic_graphs = graphs_are_cayley k (Syntactic k (recognised m))
      (syntactic_congruence k (recognised m)) m.graphs h.monoid.graphs

  over_at : (e : ℕ) → e < length m.graphs.words
      → Over m.graphs.right.letters (word_at m.graphs.words e)
  over_at e l = h.monoid.graphs.words.over e l

  to_syntactic : (e i p : ℕ) → e < length m.graphs.words
      → IsIndexAndPeriod (SameNode m.graphs.right) (word_at m.graphs.words e) i p
      → IsIndexAndPeriod (Syntactic m.graphs.right.letters (recognised m))
      (word_at m.graphs.words e) i p
  to_syntactic e i p l =
      agreeing_index k (SameNode m.graphs.right) (Syntactic k (recognised m)) agree
      (word_at m.graphs.words e) i p (over_at e l)

  to_nodes : (e i p : ℕ) → e < length m.graphs.words
      → IsIndexAndPeriod (Syntactic m.graphs.right.letters (recognised m))
      (word_at m.graphs.words e) i p
      → IsIndexAndPeriod (SameNode m.graphs.right) (word_at m.graphs.words e) i p
  to_nodes e i p l =
      agreeing_index k (Syntactic k (recognised m)) (SameNode m.graphs.right)
      (agree_turned k (SameNode m.graphs.right) (Syntactic k (recognised m)) agree)
      (word_at m.graphs.words e) i p (over_at e l)

  -- where each element has the period 1, the monoid is aperiodic
  pub all_settle : ((e i p : ℕ) → e < length m.graphs.words
      → IsIndexAndPeriod (SameNode m.graphs.right) (word_at m.graphs.words e) i p → p ≡ 1)
      → IsAperiodic m.graphs.right.letters (Syntactic m.graphs.right.letters (recognised m))
  all_settle f = aperiodic_by_listed k (Syntactic k (recognised m))
      (syntactic_congruence k (recognised m)) m.graphs.words h.monoid.graphs.words
      (λ e i p l a. f e i p l (to_nodes e i p l a))

  first_loop : (e i p : ℕ) → IsFirstLoop (SameNode m.graphs.right) m.graphs.words e i p
      → IsFirstLoop (Syntactic m.graphs.right.letters (recognised m)) m.graphs.words e i p
  first_loop e i p f = record {
    within = f.within;
    powers = to_syntactic e i p f.within f.powers;
    more = f.more;
    first = λ j q r l a. f.first j q r l
        (to_nodes j q r (let g = f.within in omega arith) a);
  }

  module _ (e i p : ℕ) (f : IsFirstLoop (SameNode m.graphs.right) m.graphs.words e i p)
      (a b : ℕ) (la : a < length m.graphs.words) (lb : b < length m.graphs.words)
      (power_at : a ≡ node m.graphs.right (power i (word_at m.graphs.words e)))
      (next_at : b ≡ node m.graphs.right (power (i + 1) (word_at m.graphs.words e))) where
    abbrev x : List ℕ
    x = word_at m.graphs.words e

    ox : Over m.graphs.right.letters (word_at m.graphs.words e)
    ox = over_at e f.within

    leads : (c : ℕ) → c < length m.graphs.words → node m.graphs.right (word_at m.graphs.words c) ≡ c
    leads c l = syntactic_graphs.shortlex.leads c
        (let n = syntactic_graphs.shortlex.long in omega arith)

    same_as : (c n : ℕ) → c < length m.graphs.words
        → c ≡ node m.graphs.right (power n (word_at m.graphs.words e))
        → Syntactic m.graphs.right.letters (recognised m) (word_at m.graphs.words c)
        (power n (word_at m.graphs.words e))
    same_as c n l s = (agree.both (word_at m.graphs.words c) (power n x) (over_at c l)
        (over_power k n x ox)).0 (leads c l ∙ s)

    -- the power at the index and the next one are apart
    pub powers_apart : ¬ Syntactic m.graphs.right.letters (recognised m) (word_at m.graphs.words a)
        (word_at m.graphs.words b)
    powers_apart s =
        neighbours_apart k (SameNode m.graphs.right) syntactic_graphs.congruence x i p f.powers f.more
        (sym power_at ∙ (sym (leads a la) ∙ ((agree.both (word_at m.graphs.words a)
        (word_at m.graphs.words b) (over_at a la) (over_at b lb)).1 s ∙ (leads b lb ∙ next_at))))

    -- the words that the first element gives whose period is greater than 1
    pub is_loop : (l : Loop) (before first : ℕ) → l.x ≡ word_at m.graphs.words e → l.index ≡ i
        → l.period ≡ p
        → IsSeparation m.graphs.right.letters (recognised m) (word_at m.graphs.words a)
        (word_at m.graphs.words b) l.u l.v
        → IsProduct (SameNode m.graphs.right) m.graphs.words (node m.graphs.right l.u) a before
        → IsProduct (SameNode m.graphs.right) m.graphs.words before (node m.graphs.right l.v) first
        → l.first_in ≡ is_marked m.accepted first
        → IsLoop m.graphs.right.letters (recognised m) l
    is_loop l before first ex ei ep s one two marked = record {
      word = rw (ex, ei, ep) (m.graphs.words, e, h.monoid.graphs.words, first_loop e i p f, refl);
      context = rw (ex, ei) context;
      first = rw (ex, ei, marked) by_node;
      never = rw ex (never_settles k (recognised m) l.u x l.v s.before.over ox s.behind.over i p
          (first_loop e i p f).powers.positive (first_loop e i p f).powers.repeats
          context.behind.holds);
    }
      where
        context : IsSeparation m.graphs.right.letters (recognised m)
            (power i (word_at m.graphs.words e)) (power (i + 1) (word_at m.graphs.words e)) l.u l.v
        context = separation_alike k (recognised m) (word_at m.graphs.words a)
            (word_at m.graphs.words b) (power i x) (power (i + 1) x) (same_as a i la power_at)
            (same_as b (i + 1) lb next_at) l.u l.v s

        before_at : before ≡ node m.graphs.right (l.u ++ power i (word_at m.graphs.words e))
        before_at = product_is_node m.graphs syntactic_graphs l.u (power i x) before s.before.over
            (over_power k i x ox)
            (subst (λ (n : ℕ). IsProduct (SameNode m.graphs.right) m.graphs.words
            (node m.graphs.right l.u) n before) power_at one)

        first_at : first ≡ node m.graphs.right (l.u ++ (power i (word_at m.graphs.words e) ++ l.v))
        first_at = product_is_node m.graphs syntactic_graphs (l.u ++ power i x) l.v first
            (over_append k l.u (power i x) s.before.over (over_power k i x ox)) s.behind.over
            (subst (λ (n : ℕ). IsProduct (SameNode m.graphs.right) m.graphs.words n
            (node m.graphs.right l.v) first) before_at two)
            ∙ ap (node m.graphs.right) (append_assoc l.u (power i x) l.v)

        by_node : IsTrue (is_marked m.accepted first)
            ↔ recognised m (l.u ++ (power i (word_at m.graphs.words e) ++ l.v))
        by_node = rw first_at ((λ t. t), (λ t. t))
