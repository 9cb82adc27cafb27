-- The nonempty words of the elements, and the first edge to the element of the empty word.
use Rattle.std.proofs.Common.{◌≡◌, ◌↔◌, IsTrue, refl, ℕ, ◌+◌, ◌*◌, ◌/◌, ◌%◌, ◌<◌, ◌≤◌, Bool, List, Option, [], ◌∷◌, ◌++◌, length, slice_index, inl, inr, sym, ap, ◌∙◌, subst, arith, mul-le-mul_left, mul-le-mul_right}
use Rattle.std.specs.Prelude.{Some, None, is_some}
use Rattle.std.proofs.lemmas.Bool.{cases_lt}
use Rattle.std.proofs.lemmas.Nat.{div-add-mod', div_below, mod_below}
use Rattle.language_theory.specs.Words.{word_at}
use Rattle.language_theory.specs.ShortlexGraph.{Graph, target, IsShortlex, IsFirst}
use Rattle.language_theory.proofs.Nonempty.{nonempty_at_node, nonempty_at_root, root_words_empty}
use Rattle.syntactic_monoid.specs.SyntacticMonoid.{SyntacticMonoid, recognised, IsInSemigroup, IsNonemptyWordOf}
use Rattle.syntactic_monoid.specs.Action.{IsActing, IsReturn}
use Rattle.syntactic_monoid.proofs.OneMonoid.{right_graph}
use Rattle.syntactic_monoid.proofs.Acting.{acting_is_syntactic}

-- the number of places is a number of the program
pub places_few : (n k : ℕ) → n ≤ 50000 → k ≤ 60 → n * k ≤ 3000000
places_few n k h l =
    let a : n * k ≤ n * 60 = mul-le-mul_left n l in
    let b : n * 60 ≤ 50000 * 60 = mul-le-mul_right 60 h in omega arith

-- the node that an edge leaves
pub edge_from : (p n k : ℕ) → 1 ≤ k → p < n * k → p / k < n
edge_from p n k h l = div_below p k n (omega arith) l

pub edge_letter : (p k : ℕ) → 1 ≤ k → p % k < k
edge_letter p k h = mod_below p k (omega arith)

-- the edge at a place
pub edge_at : (g : Graph) (p : ℕ) → target g (p / g.letters) (p % g.letters)
    ≡ slice_index g.targets p
edge_at g p = ap (slice_index g.targets) (div-add-mod' p g.letters)

-- no edge at a place below p leads to the root
pub record IsNoReturn (g : Graph) (p : ℕ) : Type 0 where
  pub none : (q : ℕ) → q < p → ¬ (slice_index g.targets q ≡ 0)

module _ (g : Graph) (words : List (List ℕ)) (s : IsShortlex g words) where
  places : length g.targets ≡ length words * g.letters
  places = s.graph.long ∙ ap (λ (n : ℕ). n * g.letters) (sym s.long)

  pub return_more : (p t : ℕ) → IsNoReturn g p → t ≡ target g (p / g.letters) (p % g.letters)
      → ¬ (t ≡ 0) → IsNoReturn g (p + 1)
  return_more p t h e f = record { none = λ q l. by q l }
    where
      by : (q : ℕ) → q < p + 1 → ¬ (slice_index g.targets q ≡ 0)
      by q l z =
          elim (cases_lt q p) [
            | inl m ↦ h.none q m z
            | inr m ↦ (let same : p ≡ q = omega arith in
                f (e ∙ (edge_at g p ∙ (ap (slice_index g.targets) same ∙ z))))
          ]

  pub return_found : (p t : ℕ) → IsNoReturn g p → p < length words * g.letters
      → t ≡ target g (p / g.letters) (p % g.letters) → t ≡ 0 → IsFirst g.targets 0 p
  return_found p t h l e z =
      let n = places in
      record {
        within = omega arith;
        member = sym (edge_at g p) ∙ (sym e ∙ z);
        least = h.none;
      }

  pub return_none : (p : ℕ) → IsNoReturn g p → p ≡ length words * g.letters → IsReturn g None
  return_none p h e q l = let n = places in h.none q (omega arith)

module _ (m : SyntacticMonoid) (rows : List (List ℕ)) (finals : List Bool) (returns : Option ℕ)
    (h : IsActing m rows finals returns) where
  shortlex : IsShortlex m.graphs.right m.graphs.words
  shortlex =
      (right_graph m.graphs.right.letters (recognised m) m
      (acting_is_syntactic m rows finals returns h).monoid).shortlex

  letters : 1 ≤ m.graphs.right.letters
  letters = (acting_is_syntactic m rows finals returns h).some_letters

  -- an element that is not that of the empty word has its least word
  pub later_word : (i : ℕ) → 0 < i → i < length m.graphs.words
      → IsNonemptyWordOf m i (word_at m.graphs.words i)
  later_word i z l =
      nonempty_at_node m.graphs.right m.graphs.words shortlex i z
      (let e = shortlex.long in omega arith)

  -- that of the empty word has the word of the first edge that leads to it
  pub return_word : (p : ℕ) → returns ≡ Some p
      → IsNonemptyWordOf m 0
      (word_at m.graphs.words (p / m.graphs.right.letters) ++ (p % m.graphs.right.letters) ∷ [])
  return_word p e =
      let k = m.graphs.right.letters in
      let f : IsFirst m.graphs.right.targets 0 p =
      subst (IsReturn m.graphs.right) e h.first_return in
      nonempty_at_root m.graphs.right m.graphs.words shortlex (p / m.graphs.right.letters)
      (p % m.graphs.right.letters) (edge_letter p m.graphs.right.letters letters)
      (subst (IsFirst m.graphs.right.targets 0) (sym (div-add-mod' p m.graphs.right.letters)) f)

  pub return_within : (p : ℕ) → returns ≡ Some p
      → p < length m.graphs.words * m.graphs.right.letters
  return_within p e =
      let f : IsFirst m.graphs.right.targets 0 p =
      subst (IsReturn m.graphs.right) e h.first_return in
      let l = f.within in
      let n = places m.graphs.right m.graphs.words shortlex in omega arith

  -- and none where no edge does
  pub no_return : returns ≡ None → (i : ℕ) → IsInSemigroup m i → 0 < i
  no_return e i (w, o, (some, leads)) =
      elim (cases_lt 0 i) [
        | inl l ↦ l
        | inr l ↦ (let none : IsReturn m.graphs.right None =
            subst (IsReturn m.graphs.right) e h.first_return in
            let z : i ≡ 0 = omega arith in
            absurd (some (root_words_empty m.graphs.right shortlex.graph none w o (leads ∙ z))))
      ]

  pub in_by_word : (i : ℕ) (w : List ℕ) → IsNonemptyWordOf m i w → IsInSemigroup m i
  in_by_word i w l = (w, l.over, l.holds)

  -- an element is in the semigroup if it is not that of the empty word
  pub later_in : (i : ℕ) → 0 < i → i < length m.graphs.words → IsInSemigroup m i
  later_in i z l = in_by_word i (word_at m.graphs.words i) (later_word i z l)

  -- and each is, where some edge leads to that
  pub all_in : (p i : ℕ) → returns ≡ Some p → i < length m.graphs.words → IsInSemigroup m i
  all_in p i e l = elim (cases_lt 0 i) [
    | inl z ↦ later_in i z l
    | inr z ↦ subst (IsInSemigroup m) (let f : 0 ≡ i = omega arith in f)
        (in_by_word 0
        (word_at m.graphs.words (p / m.graphs.right.letters) ++ (p % m.graphs.right.letters) ∷ [])
        (return_word p e))
  ]

  -- the element of the empty word is in the semigroup exactly where some edge leads to it
  pub root_in : (i : ℕ) → i < length m.graphs.words → i ≤ 0
      → IsTrue (is_some returns) ↔ IsInSemigroup m i
  root_in i l z = by returns refl
    where
      by : (r : Option ℕ) → returns ≡ r → IsTrue (is_some r) ↔ IsInSemigroup m i
      by None e = (λ f. cc, λ f. absurd (let p = no_return e i f in omega arith))
      by (Some p) e = (λ f. all_in p i e l, λ f. refl)
