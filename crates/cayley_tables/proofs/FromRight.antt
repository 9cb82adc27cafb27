-- The tables of a monoid whose links are all found.
use Rattle.std.proofs.Common.{◌≡◌, ℕ, ◌+◌, ◌*◌, ◌<◌, ◌≤◌, List, [], ◌∷◌, Option, Some, length, take, refl, ap, sym, subst, ◌∙◌, arith}
use Rattle.std.specs.Prelude.{slice_index}
use Rattle.std.proofs.lemmas.List.Elements.{All-get_or}
use Rattle.std.proofs.Math.Nat.{mul-le-mul_right}
use Rattle.language_theory.specs.Words.{word_at}
use Rattle.language_theory.specs.Congruence.{IsCongruence}
use Rattle.language_theory.specs.Representatives.{IsPlaceOf}
use Rattle.language_theory.specs.ShortlexGraph.{Graph, target, node, SameNode, IsShortlex, IsGraphOf}
use Rattle.monoid_theory.specs.Products.{IsLeftGraph}
use Rattle.language_theory.proofs.Congruences.{agree_itself}
use Rattle.language_theory.proofs.Graphs.{walk_append, row_place}
use Rattle.monoid_theory.proofs.Cayley.{node_is_place}
use Rattle.exploration.proofs.Places.{row_within}
use Rattle.exploration.proofs.Listing.{listing_ends, target_word_least}
use Rattle.cayley_tables.specs.Links.{LinkLists}
use Rattle.cayley_tables.specs.LeftRows.{AreRightNumbers, AreLeftNumbers, IsKnownFor, CanGoOn}
use Rattle.cayley_tables.specs.Tables.{IsLinking, AreTables, tables}
use Rattle.cayley_tables.proofs.Linking.{listing, front_long, monoid_congruence}

module _ (g : Graph) (n : ℕ) (l : LinkLists) (h : IsLinking g n l)
    (whole : n ≡ g.size * g.letters) where
  -- every element is linked
  pub all_linked : length l.prefix ≡ g.size
  all_linked =
      sym (front_long g n l h)
      ∙ (listing_ends g n (take (length l.prefix) h.words) whole (listing g n l h)).long

  abbrev pub number : List ℕ → Option ℕ
  number = λ w. Some (node g w)

  right_known : AreRightNumbers g.letters number h.words g.targets
  right_known = record {
    over = h.monoid.shortlex.least.over;
    rise = h.monoid.shortlex.least.rise;
    own = λ i hi. let e = h.monoid.shortlex.long in
        ap (λ (j : ℕ). Some j) (h.monoid.shortlex.leads i (omega arith));
    within = λ i a ha p. let e = h.monoid.shortlex.long in let t =
        All-get_or (λ t. t < g.size) g.targets
        (i * g.letters + a) 0 p h.monoid.shortlex.graph.within in omega arith;
    next = λ i a w ha p o e. let at : node g w ≡ i = cc in
        ap (λ (j : ℕ). Some j) (walk_append g 0 w (a ∷ []) ∙ ap (λ (j : ℕ). target g j a) at);
    least = λ i a ha p. let e = h.monoid.shortlex.graph.long in
        target_word_least g h.words h.monoid.shortlex i a
        (row_within i a g.letters g.size (omega arith)) ha;
  }

  pub all_known : IsKnownFor g.letters number h.words g.targets l g.size
  all_known = record {
    numbers = right_known;
    few = let e = h.monoid.shortlex.long in omega arith;
    linked = length l.prefix;
    enough = let e = all_linked in omega arith;
    links = h.links;
    ready = λ i j hi hj s. let e = h.monoid.shortlex.long in let f = h.monoid.shortlex.graph.long in
        omega (arith, mul-le-mul_right {m = j + 1} {n = g.size} g.letters (omega arith));
  }

  pub none_known : AreLeftNumbers g.letters number h.words []
  none_known =
      record {
        within = λ i a ha p. absurd (omega arith);
        leads = λ i a ha p. absurd (omega arith);
        least = λ i a ha p. absurd (omega arith);
      }

  pub all_can_go_on : CanGoOn g.letters g.targets l g.size []
  all_can_go_on =
      record { number = number; words = h.words; known = all_known; numbers = none_known }

  module _ (left : List ℕ) (known : AreLeftNumbers g.letters number h.words left)
      (long : length left ≡ g.size * g.letters) where
    left_graph : IsLeftGraph g.letters (SameNode g) h.words
        (record { size = g.size; letters = g.letters; targets = left })
    left_graph = record {
      size = sym h.monoid.shortlex.long;
      letters = refl;
      long = long;
      edge = λ i a hi ha.
          let e = h.monoid.shortlex.long in
          let place : i * g.letters + a < length left =
          omega (arith, row_place i a g.size g.letters (omega arith) ha) in
          let leads = known.leads i a ha place in
          let same : node g (a ∷ word_at h.words i) ≡ slice_index left (i * g.letters + a) = cc in
          let own : IsGraphOf g.letters (SameNode g) g h.words =
          record {
            letters = refl;
            shortlex = h.monoid.shortlex;
            nodes =
                agree_itself g.letters (SameNode g);
          } in
          record {
            within = hi;
            place = subst (IsPlaceOf (SameNode g) h.words (a ∷ word_at h.words i)) same
                (node_is_place g.letters (SameNode g) g h.words own (a ∷ word_at h.words i)
                (ha, h.monoid.shortlex.least.over i hi));
          };
    }

    pub all_tables : 1 ≤ g.letters → g.letters ≤ 60 → g.size ≤ 50000
        → AreTables (tables g.letters g.targets left l) h.words
    all_tables some few small = record {
      some = some;
      letters = few;
      small = let e = all_linked in omega arith;
      shortlex = subst
          (λ (s : ℕ). IsShortlex
          (record { size = s; letters = g.letters; targets = g.targets }) h.words)
          (sym all_linked) h.monoid.shortlex;
      congruence =
          subst (λ (s : ℕ). IsCongruence g.letters
          (SameNode (record { size = s; letters = g.letters; targets = g.targets })))
          (sym all_linked) (monoid_congruence g h.words h.monoid);
      left = subst
          (λ (s : ℕ). IsLeftGraph g.letters
          (SameNode (record { size = s; letters = g.letters; targets = g.targets })) h.words
          (record { size = s; letters = g.letters; targets = left })) (sym all_linked) left_graph;
      links = h.links;
    }
