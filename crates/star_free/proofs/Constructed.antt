-- The syntactic monoid of an aperiodic language as an algebra of the construction, and what the
-- construction's list denotes.
use Rattle.std.proofs.Common.{◌≡◌, ◌↔◌, ℕ, ◌+◌, ◌<◌, ◌≤◌, Bool, true, false, List, [], ◌∷◌, ◌++◌, inl, inr, append-nil, length, map, slice_index, All, Some, None, refl, sym, ap, subst, ◌∙◌, arith}
use Rattle.std.proofs.lemmas.Bool.{cases_Bool}
use Rattle.std.proofs.lemmas.List.{get_or-map, length-map, map-append}
use Rattle.language_theory.specs.Words.{Over, word_at}
use Rattle.language_theory.specs.Automaton.{is_marked}
use Rattle.language_theory.specs.Languages.{HaveSameWords}
use Rattle.language_theory.specs.Congruence.{Syntactic}
use Rattle.language_theory.specs.Representatives.{IsPlaceOf}
use Rattle.language_theory.specs.ShortlexGraph.{node, target, SameNode}
use Rattle.language_theory.proofs.Graphs.{node_within}
use Rattle.language_theory.proofs.Shortlex.{over_append}
use Rattle.monoid_theory.specs.Powers.{IsAperiodic}
use Rattle.monoid_theory.specs.Products.{IsProduct}
use Rattle.monoid_theory.proofs.Agreeing.{agreeing_aperiodic}
use Rattle.language_theory.proofs.Congruences.{agree_turned}
use Rattle.cayley_tables.specs.CayleyGraphs.{AreCayleyGraphs}
use Rattle.parallel_table.specs.ProductTables.{ProductTable, IsTableOf, cell}
use Rattle.syntactic_monoid.specs.SyntacticMonoid.{SyntacticMonoid, recognised, IsSyntactic}
use Rattle.star_free_theory.specs.StarFree.{Denotes}
use Rattle.star_free_theory.specs.declared.nodes.SfNode.{SfNode}
use Rattle.star_free_theory.specs.Instance.{Among, room, value}
use Rattle.star_free_theory.specs.Construction.{Outcome, Algebra, IsAlgebra, DenotesFinals, construction, count_from, done, keep}
use Rattle.star_free_theory.proofs.Settling.{never_star_free}
use Rattle.answers.specs.declared.powers.Loop.{Loop}
use Rattle.star_free.specs.Loops.{IsFirstLoopWord, IsLoop}
use Rattle.star_free_theory.proofs.FiniteLists.{among_keep, keep_among}
use Rattle.star_free_theory.proofs.Places.{are_algebras, value_place}
use Rattle.star_free_theory.proofs.Whole.{among_count, construction_right, count_among, length-count}
use Rattle.star_free_lists.specs.SfList.{most_nodes}
use Rattle.local_divisors.specs.Constructing.{CanConstruct, most_depth, algebra_of}
use Rattle.local_divisors.proofs.Choosing.{among_all}
use Rattle.local_divisors.proofs.WholeMonoid.{count_index, count_more}
use Rattle.star_free.specs.Answer.{images_of, finals_of, HasStarFreeList}
use Rattle.star_free.proofs.Looping.{agree, syntactic_graphs}

-- one more image, and one more element, which is kept where it is marked
pub images_more : (f : ℕ → ℕ) (n y : ℕ) → y ≡ f n
    → map f (count_from 0 n) ++ y ∷ [] ≡ map f (count_from 0 (n + 1))
images_more f n y e =
    ap (λ (z : ℕ). map f (count_from 0 n) ++ z ∷ []) e
    ∙ sym (map-append f (count_from 0 n) (n ∷ [])) ∙ sym (ap (map f) (count_more n))

keep-append : (p : ℕ → Bool) (xs ys : List ℕ) → keep p (xs ++ ys) ≡ keep p xs ++ keep p ys
keep-append p [] ys = refl
keep-append p (x ∷ xs) ys = elim (cases_Bool (p x)) [
  | inl e ↦ rw e (ap (λ (zs : List ℕ). x ∷ zs) (keep-append p xs ys))
  | inr e ↦ rw e (keep-append p xs ys)
]

pub finals_more : (p : ℕ → Bool) (n : ℕ) → p n ≡ true
    → keep p (count_from 0 n) ++ n ∷ [] ≡ keep p (count_from 0 (n + 1))
finals_more p n e =
    let last : keep p (n ∷ []) ≡ n ∷ [] = rw e refl in
    ap (λ (zs : List ℕ). keep p (count_from 0 n) ++ zs) (sym last)
    ∙ sym (keep-append p (count_from 0 n) (n ∷ [])) ∙ sym (ap (keep p) (count_more n))

pub finals_same : (p : ℕ → Bool) (n : ℕ) → p n ≡ false
    → keep p (count_from 0 n) ≡ keep p (count_from 0 (n + 1))
finals_same p n e =
    let last : keep p (n ∷ []) ≡ [] = rw e refl in
    sym (append-nil (keep p (count_from 0 n)))
    ∙ ap (λ (zs : List ℕ). keep p (count_from 0 n) ++ zs) (sym last)
    ∙ sym (keep-append p (count_from 0 n) (n ∷ [])) ∙ sym (ap (keep p) (count_more n))

module _ (m : SyntacticMonoid) (h : IsSyntactic m) where
  abbrev k : ℕ
  k = m.graphs.right.letters

  abbrev words : List (List ℕ)
  words = m.graphs.words

  abbrev same : List ℕ → List ℕ → Type 0
  same = SameNode m.graphs.right

  g : AreCayleyGraphs m.graphs
  g = syntactic_graphs m h

  -- the node to which a word leads is the place of the word
  node_place : (w : List ℕ) → Over m.graphs.right.letters w
      → IsPlaceOf (SameNode m.graphs.right) m.graphs.words w (node m.graphs.right w)
  node_place w o =
      let n = node_within m.graphs.right w g.shortlex.graph o in
      let e = g.shortlex.long in record {
        within = omega (arith, n, e);
        related = g.shortlex.leads (node m.graphs.right w) n;
        only = λ j l s. sym (g.shortlex.leads j (omega (arith, l, e))) ∙ s;
      }

  image_is : (a : ℕ) → a < m.graphs.right.letters
      → slice_index (images_of m) a ≡ target m.graphs.right 0 a
  image_is a l =
      get_or-map (target m.graphs.right 0) (count_from 0 k) a 0 0
      (let c = length-count 0 k in omega (arith, c, l))
      ∙ ap (target m.graphs.right 0) (count_index k a l)

  image_place : (a : ℕ) → a < m.graphs.right.letters
      → IsPlaceOf (SameNode m.graphs.right) m.graphs.words (a ∷ []) (slice_index (images_of m) a)
  image_place a l =
      subst (λ (n : ℕ). IsPlaceOf (SameNode m.graphs.right) m.graphs.words (a ∷ []) n)
      (sym (image_is a l)) (node_place (a ∷ []) (l, tt))

  pub letters_are : length (images_of m) ≡ m.graphs.right.letters
  letters_are = length-map (count_from 0 k) (target m.graphs.right 0) ∙ length-count 0 k

  finals_within : (t : ProductTable) → t.side ≡ length m.graphs.words
      → All (λ p. p < t.side) (finals_of m)
  finals_within t e =
      among_all t.side (finals_of m)
      (λ x i. let (j, y) = keep_among (is_marked m.accepted) (count_from 0 (length words)) x i in
      let c = (among_count 0 (length words) x j).1 in omega (arith, c, e))

  -- Of a way to multiply the elements.
  module _ (product : ℕ → ℕ → ℕ) (products : (i j : ℕ) → i < length m.graphs.words
      → j < length m.graphs.words
      → IsProduct (SameNode m.graphs.right) m.graphs.words i j (product i j)) where
    value_is : (w : List ℕ) → Over m.graphs.right.letters w
        → value product 0 (slice_index (images_of m)) w ≡ node m.graphs.right w
    value_is w o =
        let p = value_place k same words g.congruence g.shortlex.least
        product products (slice_index (images_of m)) image_place w o in
        (node_place w o).only (value product 0 (slice_index (images_of m)) w) p.within p.related

    -- a list that denotes the words whose value is among the finals denotes the language
    denotes_by : (list : List SfNode) (root : ℕ)
        → ((w : List ℕ) → Denotes m.graphs.right.letters list root w
        ↔ Over m.graphs.right.letters w
        × Among (finals_of m) (value product 0 (slice_index (images_of m)) w))
        → HaveSameWords m.graphs.right.letters (recognised m)
        (Denotes m.graphs.right.letters list root)
    denotes_by list root d = record { both = λ w o. (into w o, out w o) }
      where
        into : (w : List ℕ) → Over k w → recognised m w → Denotes k list root w
        into w o r = (d w).1 (
          o,
          subst (Among (finals_of m)) (sym (value_is w o))
              (among_keep (is_marked m.accepted) (count_from 0 (length words))
              (node m.graphs.right w) (count_among 0 (length words) (node m.graphs.right w)
              (omega arith) (let p = (node_place w o).within in omega (arith, p))) r),
        )

        out : (w : List ℕ) → Over k w → Denotes k list root w → recognised m w
        out w o x = (keep_among (is_marked m.accepted) (count_from 0 (length words))
            (node m.graphs.right w)
            (subst (Among (finals_of m)) (value_is w o) ((d w).0 x).1)).1

    module _ (a : IsAperiodic m.graphs.right.letters
        (Syntactic m.graphs.right.letters (recognised m))) where
      settles : IsAperiodic m.graphs.right.letters (SameNode m.graphs.right)
      settles = agreeing_aperiodic k (Syntactic k (recognised m)) same
          (agree_turned k same (Syntactic k (recognised m)) (agree m h)) a

      algebra_by : IsAlgebra m.graphs.right.letters (record {
        elements = count_from 0 (length m.graphs.words);
        product = product;
        identity = 0;
        image = slice_index (images_of m);
      })
      algebra_by =
          are_algebras k same words g.congruence g.shortlex.least product products
          (slice_index (images_of m)) image_place settles

  -- the product of two elements, by their words
  product_of : ℕ → ℕ → ℕ
  product_of i j = node m.graphs.right (word_at m.graphs.words i ++ word_at m.graphs.words j)

  products_of : (i j : ℕ) → i < length m.graphs.words → j < length m.graphs.words
      → IsProduct (SameNode m.graphs.right) m.graphs.words i j
      (node m.graphs.right (word_at m.graphs.words i ++ word_at m.graphs.words j))
  products_of i j p q = record {
    left = p;
    right = q;
    place = node_place (word_at words i ++ word_at words j)
        (over_append k (word_at words i) (word_at words j) (g.shortlex.least.over i p)
        (g.shortlex.least.over j q));
  }

  -- the construction without limits gives a list, and it denotes the language
  pub has_star_free_list : IsAperiodic m.graphs.right.letters
      (Syntactic m.graphs.right.letters (recognised m))
      → HasStarFreeList m.graphs.right.letters (recognised m)
  has_star_free_list a =
      let f : ℕ → ℕ → ℕ =
      λ i j. node m.graphs.right (word_at m.graphs.words i ++ word_at m.graphs.words j) in
      let A : Algebra = record {
        elements = count_from 0 (length m.graphs.words);
        product = f;
        identity = 0;
        image = slice_index (images_of m);
      } in
      let n = k + room (length A.elements) in
      let c = construction_right k None n A (finals_of m) (algebra_by f products_of a)
      (λ p i. (keep_among (is_marked m.accepted) (count_from 0 (length words)) p i).0) in
      let z = c.there (refl, omega arith) in
      let right = c.right z.0 z.1 in (
        z.0.0,
        z.0.1,
        record { earlier = right.begun.earlier; inside = right.stands.there },
        denotes_by f products_of z.0.0 z.0.1 right.stands.means,
      )

  module _ (t : ProductTable) (is : IsTableOf m.graphs t) where
    products : (i j : ℕ) → i < length m.graphs.words → j < length m.graphs.words
        → IsProduct (SameNode m.graphs.right) m.graphs.words i j (cell t i j)
    products i j p q = is.each i j (let e = is.side in omega (arith, p, e))
        (let e = is.side in omega (arith, q, e))

    module _ (a : IsAperiodic m.graphs.right.letters
        (Syntactic m.graphs.right.letters (recognised m))) where
      algebra : IsAlgebra m.graphs.right.letters (algebra_of t (images_of m))
      algebra =
          let P : ℕ → Type 0 = λ n. let A : Algebra = record {
            elements = count_from 0 n;
            product = cell t;
            identity = 0;
            image = slice_index (images_of m);
          } in IsAlgebra m.graphs.right.letters A in
          subst P (sym is.side) (algebra_by (cell t) products a)

      -- the syntactic monoid is one for the construction
      pub can_construct : (most : ℕ) → most ≤ most_nodes
          → CanConstruct t (images_of m) (finals_of m) most
      can_construct most few = record {
        algebra = rw letters_are algebra;
        letters = let e = letters_are in let l = h.few_letters in omega (arith, e, l);
        within = finals_within t is.side;
        few = few;
      }

    -- a list that denotes the words whose value is among the finals denotes the language
    pub denotes_language : (list : List SfNode) (root : ℕ)
        → DenotesFinals m.graphs.right.letters (algebra_of t (images_of m)) (finals_of m) list root
        → HaveSameWords m.graphs.right.letters (recognised m)
        (Denotes m.graphs.right.letters list root)
    denotes_language list root d = denotes_by (cell t) products list root d.words

  -- what the construction comes to from lists that are these
  pub comes_here : (t : ProductTable) (images finals : List ℕ) (most : ℕ)
      (o : Outcome (List SfNode × ℕ)) → images ≡ images_of m → finals ≡ finals_of m
      → construction (Some most) most_depth (length images) (algebra_of t images) finals ≡ o
      → construction (Some most) most_depth m.graphs.right.letters (algebra_of t (images_of m))
      (finals_of m) ≡ o
  comes_here t images finals most o e f h =
      subst (λ (n : ℕ). construction (Some most) most_depth n (algebra_of t (images_of m))
      (finals_of m) ≡ o) letters_are
      (subst (λ (ps : List ℕ). construction (Some most) most_depth (length (images_of m))
      (algebra_of t (images_of m)) ps ≡ o) f
      (subst (λ (xs : List ℕ). construction (Some most) most_depth (length xs) (algebra_of t xs)
      finals ≡ o) e h))

  pub denotes_here : (t : ProductTable) (images finals : List ℕ) (list : List SfNode) (root : ℕ)
      → images ≡ images_of m → finals ≡ finals_of m
      → DenotesFinals (length images) (algebra_of t images) finals list root
      → DenotesFinals m.graphs.right.letters (algebra_of t (images_of m)) (finals_of m) list root
  denotes_here t images finals list root e f h =
      subst (λ (n : ℕ). DenotesFinals n (algebra_of t (images_of m)) (finals_of m) list root)
      letters_are
      (subst (λ (ps : List ℕ). DenotesFinals (length (images_of m)) (algebra_of t (images_of m)) ps
      list root) f
      (subst (λ (xs : List ℕ). DenotesFinals (length xs) (algebra_of t xs) finals list root) e h))

-- a pruned list denotes what the list does
pub pruned_language : (k : ℕ) (L : List ℕ → Type 0) (list pruned : List SfNode) (root place : ℕ)
    → HaveSameWords k L (Denotes k list root)
    → ((n : ℕ) (w : List ℕ) → Denotes n pruned place w ↔ Denotes n list root w)
    → HaveSameWords k L (Denotes k pruned place)
pruned_language k L list pruned root place h p = record {
  both = λ w o. (
    λ x. (p k w).1 ((h.both w o).0 x),
    λ x. (h.both w o).1 ((p k w).0 x),
  );
}

-- no list denotes a language with words that never settle
pub loop_tells : (k : ℕ) (L : List ℕ → Type 0) (l : Loop) → IsLoop k L l → (list : List SfNode)
    (root : ℕ) → ¬ HaveSameWords k L (Denotes k list root)
loop_tells k L l h list root s =
    never_star_free k L l.u l.x l.v h.context.before.over (powers_over l.x l.index l.period h.word)
    h.context.behind.over h.never list root s.both
  where
    powers_over : (x : List ℕ) (i p : ℕ) → IsFirstLoopWord k L x i p → Over k x
    powers_over x i p (words, e, r, f, is) = rw is (r.over e f.within)
