-- A language has one star-free answer within given limits, and so have languages with the same words.
use Rattle.std.proofs.Common.{◌≡◌, ℕ, zero, suc, ◌+◌, ◌*◌, ◌/◌, ◌%◌, ◌<◌, Bool, List, length, slice_index, Some, refl, sym, ap, subst, ◌∙◌, arith}
use Rattle.std.proofs.lemmas.List.{ext_get_or}
use Rattle.std.proofs.lemmas.Nat.{div-add-mod'}
use Rattle.std.proofs.Math.Nat.{div-lt_iff_lt-mul, lt-div-mul-add}
use Rattle.language_theory.specs.Languages.{HaveSameWords}
use Rattle.language_theory.specs.Congruence.{Syntactic}
use Rattle.language_theory.specs.ShortlexGraph.{SameNode}
use Rattle.language_theory.proofs.Congruences.{syntactic_agrees}
use Rattle.monoid_theory.specs.Powers.{IsAperiodic}
use Rattle.monoid_theory.proofs.Agreeing.{agreeing_aperiodic}
use Rattle.monoid_theory.proofs.Places.{product_is_one}
use Rattle.parallel_table.specs.ProductTables.{ProductTable, IsSquare, IsTableOf, cell}
use Rattle.syntactic_monoid.specs.SyntacticMonoid.{SyntacticMonoid, IsSyntacticMonoid}
use Rattle.star_free_theory.specs.StarFree.{Denotes}
use Rattle.star_free_theory.specs.declared.nodes.SfNode.{SfNode}
use Rattle.star_free_theory.specs.Construction.{Outcome, done, depth, nodes, construction}
use Rattle.star_free_theory.specs.Pruning.{IsPruning}
use Rattle.star_free_lists.specs.SfList.{StarFreeList}
use Rattle.local_divisors.specs.Constructing.{most_depth, algebra_of}
use Rattle.star_free_lists.proofs.OnePruning.{one_pruning}
use Rattle.answers.specs.declared.powers.Loop.{Loop}
use Rattle.answers.specs.declared.powers.SfAnswer.{SfAnswer}
use Rattle.answers.specs.declared.powers.SfAnswer.TheVariants as answer
use Rattle.star_free.specs.declared.deciding.Powers.TheVariants as powers
use Rattle.star_free.specs.Loops.{IsLoop}
use Rattle.star_free.specs.Answer.{IsConstructed, IsPrunedList, IsStarFreeAnswer, HasStarFreeList, Tells, images_of, finals_of}
use Rattle.star_free.proofs.Answering.{decided_in_both, one_loop, no_both}

-- ## Languages with the same words

module _ (k : ℕ) (L M : List ℕ → Type 0) (s : HaveSameWords k L M) where
  settles_in_both : IsAperiodic k (Syntactic k L) → IsAperiodic k (Syntactic k M)
  settles_in_both h =
      agreeing_aperiodic k (Syntactic k L) (Syntactic k M) (syntactic_agrees k L M s) h

  pub answer_in_both : (m : SyntacticMonoid) (most : ℕ) (t : Bool) (a : SfAnswer)
      → IsStarFreeAnswer k L m most t a → IsStarFreeAnswer k M m most t a
  answer_in_both m most t (answer.No l) h = decided_in_both k L M s (powers.Loops l) h
  answer_in_both m most t answer.TableLimit h = (settles_in_both h.0, h.1)
  answer_in_both m most t answer.Depth h = (settles_in_both h.0, h.1, h.2)
  answer_in_both m most t answer.Nodes h = (settles_in_both h.0, h.1, h.2)
  answer_in_both m most t (answer.Yes l) h = (settles_in_both h.0, h.1, h.2)

  both_have : (N : List ℕ → Type 0) → HaveSameWords k L N → HaveSameWords k M N
  both_have N h = record {
    both = λ w o. (
      λ x. (h.both w o).0 ((s.both w o).1 x),
      λ x. (s.both w o).0 ((h.both w o).1 x),
    );
  }

  also_have : (N : List ℕ → Type 0) → HaveSameWords k M N → HaveSameWords k L N
  also_have N h = record {
    both = λ w o. (
      λ x. (h.both w o).0 ((s.both w o).0 x),
      λ x. (s.both w o).1 ((h.both w o).1 x),
    );
  }

  list_in_both : HasStarFreeList k L → HasStarFreeList k M
  list_in_both (list, root, is, h) = (list, root, is, both_have (Denotes k list root) h)

  pub tells_in_both : (a : SfAnswer) → Tells k L a → Tells k M a
  tells_in_both (answer.Yes l) h = (h.0, both_have (Denotes k l.nodes l.root) h.1)
  tells_in_both (answer.No l) h = λ list root g. h list root (also_have (Denotes k list root) g)
  tells_in_both answer.TableLimit h = list_in_both h
  tells_in_both answer.Depth h = list_in_both h
  tells_in_both answer.Nodes h = list_in_both h

-- ## One table

abbrev square_with : ℕ → List ℕ → ProductTable
square_with n c = record { side = n; cells = c }

same_square : (n p : ℕ) (c d : List ℕ) → n ≡ p → c ≡ d → square_with n c ≡ square_with p d
same_square n p c d e f = cc (e, f)

some_rows : (n p : ℕ) → p < n * n → 0 < n
some_rows zero p l = absurd (omega (arith, l))
some_rows (suc n) p l = omega arith

-- tables of one size with the same cells are equal
one_square : (s t : ProductTable) → IsSquare s → IsSquare t → s.side ≡ t.side
    → ((i j : ℕ) → i < s.side → j < s.side → cell s i j ≡ cell t i j) → s ≡ t
one_square s t hs ht e f =
    same_square s.side t.side s.cells t.cells e (ext_get_or 0 s.cells t.cells long each)
  where
    long : length s.cells ≡ length t.cells
    long = hs.long ∙ ap (λ n. n * n) e ∙ sym ht.long

    each : (p : ℕ) → p < length s.cells → slice_index s.cells p ≡ slice_index t.cells p
    each p l =
        let within : p < s.side * s.side = subst (λ (n : ℕ). p < n) hs.long l in
        let i : ℕ = p / s.side in
        let j : ℕ = p % s.side in
        let some : 0 < s.side = some_rows s.side p within in
        let here : i * s.side + j ≡ p = div-add-mod' p s.side in
        let li : i < s.side = (div-lt_iff_lt-mul some).1 within in
        let lj : j < s.side = let b : p < i * s.side + s.side = lt-div-mul-add some in
        omega (arith, here, b) in
        ap (slice_index s.cells) (sym here) ∙ f i j li lj
        ∙ ap (λ n. slice_index t.cells (i * n + j)) (sym e) ∙ ap (slice_index t.cells) here

module _ (m : SyntacticMonoid) where
  one_table : (s t : ProductTable) → IsSquare s → IsSquare t → IsTableOf m.graphs s
      → IsTableOf m.graphs t → s ≡ t
  one_table s t hs ht h g =
      let e : s.side ≡ t.side = h.side ∙ sym g.side in
      one_square s t hs ht e (λ i j p q.
      product_is_one (SameNode m.graphs.right) m.graphs.words i j (cell s i j) (cell t i j)
      (h.each i j p q) (g.each i j (subst (λ (n : ℕ). i < n) e p) (subst (λ (n : ℕ). j < n) e q)))

  -- the construction comes to one thing
  one_outcome : (k most : ℕ) (o p : Outcome (List SfNode × ℕ)) → IsConstructed k m most o
      → IsConstructed k m most p → o ≡ p
  one_outcome k most o p h g =
      sym h.comes ∙ ap (λ (t : ProductTable). construction (Some most) most_depth k
      (algebra_of t (images_of m)) (finals_of m))
      (one_table h.table g.table h.square g.square h.products g.products) ∙ g.comes

abbrev list_with : List SfNode → ℕ → StarFreeList
list_with xs n = record { nodes = xs; root = n }

same_list : (xs ys : List SfNode) (n p : ℕ) → xs ≡ ys → n ≡ p → list_with xs n ≡ list_with ys p
same_list xs ys n p e f = cc (e, f)

one_pruned : (k : ℕ) (m : SyntacticMonoid) (most : ℕ) (l r : StarFreeList)
    → IsPrunedList k m most l → IsPrunedList k m most r → l ≡ r
one_pruned k m most l r h g = by (done_is (h.list, h.root) (g.list, g.root) (one_outcome m k most
    (done (h.list, h.root)) (done (g.list, g.root)) h.constructed g.constructed))
  where
    done_is : (x y : List SfNode × ℕ) → done x ≡ done y → x ≡ y
    done_is x y e = cc

    by : ◌≡◌ {A = List SfNode × ℕ} (h.list, h.root) (g.list, g.root) → l ≡ r
    by e =
        let o = one_pruning h.list h.root h.kept g.kept l.nodes r.nodes l.root r.root h.pruned
        (subst (λ (x : List SfNode × ℕ). IsPruning x.0 x.1 g.kept r.nodes r.root) (sym e)
        g.pruned) in
        same_list l.nodes r.nodes l.root r.root o.1 o.2

-- ## One answer

module _ (k : ℕ) (L : List ℕ → Type 0) (m : SyntacticMonoid) (is : IsSyntacticMonoid k L m)
    (most : ℕ) (t : Bool) where
  no_loop : (l : Loop) → IsLoop k L l → ¬ IsAperiodic k (Syntactic k L)
  no_loop l h = no_both k L l.x l.index l.period h.word

  pub one_answer_of : (a b : SfAnswer) → IsStarFreeAnswer k L m most t a → IsStarFreeAnswer k L m most t b
      → a ≡ b
  one_answer_of (answer.No l) (answer.No r) h g = ap answer.No (one_loop k L l r h g)
  one_answer_of (answer.No l) answer.TableLimit h g = absurd (no_loop l h g.0)
  one_answer_of (answer.No l) answer.Depth h g = absurd (no_loop l h g.0)
  one_answer_of (answer.No l) answer.Nodes h g = absurd (no_loop l h g.0)
  one_answer_of (answer.No l) (answer.Yes r) h g = absurd (no_loop l h g.0)
  one_answer_of answer.TableLimit (answer.No r) h g = absurd (no_loop r g h.0)
  one_answer_of answer.TableLimit answer.TableLimit h g = refl
  one_answer_of answer.TableLimit answer.Depth h g = let a = h.1 in let b = g.1 in cc
  one_answer_of answer.TableLimit answer.Nodes h g = let a = h.1 in let b = g.1 in cc
  one_answer_of answer.TableLimit (answer.Yes r) h g = let a = h.1 in let b = g.1 in cc
  one_answer_of answer.Depth (answer.No r) h g = absurd (no_loop r g h.0)
  one_answer_of answer.Depth answer.TableLimit h g = let a = h.1 in let b = g.1 in cc
  one_answer_of answer.Depth answer.Depth h g = refl
  one_answer_of answer.Depth answer.Nodes h g =
      let e = one_outcome m k most depth nodes h.2 g.2 in cc
  one_answer_of answer.Depth (answer.Yes r) h g =
      let e = one_outcome m k most depth (done (g.2.list, g.2.root)) h.2 g.2.constructed in
      cc
  one_answer_of answer.Nodes (answer.No r) h g = absurd (no_loop r g h.0)
  one_answer_of answer.Nodes answer.TableLimit h g = let a = h.1 in let b = g.1 in cc
  one_answer_of answer.Nodes answer.Depth h g =
      let e = one_outcome m k most nodes depth h.2 g.2 in cc
  one_answer_of answer.Nodes answer.Nodes h g = refl
  one_answer_of answer.Nodes (answer.Yes r) h g =
      let e = one_outcome m k most nodes (done (g.2.list, g.2.root)) h.2 g.2.constructed in
      cc
  one_answer_of (answer.Yes l) (answer.No r) h g = absurd (no_loop r g h.0)
  one_answer_of (answer.Yes l) answer.TableLimit h g = let a = h.1 in let b = g.1 in cc
  one_answer_of (answer.Yes l) answer.Depth h g =
      let e = one_outcome m k most (done (h.2.list, h.2.root)) depth h.2.constructed g.2 in
      cc
  one_answer_of (answer.Yes l) answer.Nodes h g =
      let e = one_outcome m k most (done (h.2.list, h.2.root)) nodes h.2.constructed g.2 in
      cc
  one_answer_of (answer.Yes l) (answer.Yes r) h g =
      ap answer.Yes (one_pruned k m most l r h.2 g.2)
