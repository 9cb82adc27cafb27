-- The sizes of the local submonoids, and the local work, from the least elements that give their
-- elements.
use Rattle.std.proofs.Common.{◌≡◌, ◌↔◌, ◌⊎◌, inl, inr, ℕ, ◌+◌, ◌*◌, ◌<◌, ◌≤◌, List, [], ◌∷◌, ◌++◌, length, map, refl, ap, sym, subst, ◌∙◌, arith}
use Rattle.std.specs.Prelude.{slice_index}
use Rattle.std.proofs.lemmas.Bool.{cases_lt}
use Rattle.std.proofs.Math.Nat.{mul-le-mul_right}
use Rattle.std.proofs.lemmas.List.{length_push, get_or_append_left, get_or_push, get_or-map, length-map}
use Rattle.language_theory.specs.Words.{Over, word_at, ◌⊏◌}
use Rattle.language_theory.specs.Congruence.{IsEquivalence}
use Rattle.language_theory.specs.Representatives.{IsPlaceOf}
use Rattle.language_theory.proofs.Shortlex.{shortlex_trans}
use Rattle.parallel_table.specs.ProductTables.{ProductTable, IsTableOf}
use Rattle.syntactic_monoid.specs.SyntacticMonoid.{SyntacticMonoid, IsSyntactic}
use Rattle.local_submonoids.specs.LocalSubmonoids.{GiveOne, IsLocalSize, IsSizeAt, IsLocalWork, sum_of_squares}
use Rattle.local_submonoids.specs.LocalTables.{local_element, AreFirstBelow, IsSizeHere, IsWorkBelow}
use Rattle.local_submonoids.proofs.LocalTables.{give_one}
use Rattle.local_submonoids.proofs.LocalWords.{give_one_equivalence, local_moves}
use Rattle.local_submonoids.proofs.Elements.{congruent, is_congruence, representatives, element_over, product_table, idempotent_place}

-- ---- the listed elements as representatives

module _ (m : SyntacticMonoid) (h : IsSyntactic m) (t : ProductTable) (p : IsTableOf m.graphs t)
    (e : ℕ) (l : e < length m.graphs.words) (firsts : List ℕ)
    (f : AreFirstBelow t e t.side firsts) where
  abbrev listed : List (List ℕ)
  listed = map (word_at m.graphs.words) firsts

  listed_length : length listed ≡ length firsts
  listed_length = length-map firsts (word_at m.graphs.words)

  listed_word : (i : ℕ) → i < length firsts
      → word_at listed i ≡ word_at m.graphs.words (slice_index firsts i)
  listed_word i b = get_or-map (word_at m.graphs.words) firsts i 0 [] b

  within : (i : ℕ) → i < length firsts → slice_index firsts i < length m.graphs.words
  within i b = let a = f.within i b in let s = p.side in omega arith

  -- elements give one element where their words do
  gives : (s o : ℕ) → s < length m.graphs.words → o < length m.graphs.words
      → (local_element t e s ≡ local_element t e o)
      ↔ GiveOne (congruent m) (word_at m.graphs.words e) (word_at m.graphs.words s)
      (word_at m.graphs.words o)
  gives =
      give_one m.graphs.right.letters (congruent m) (is_congruence m h) m.graphs.words
      (representatives m h) t (product_table m h t p) e (word_at m.graphs.words e) l
      (element_over m h e l)
      ((is_congruence m h).equivalence.refl (word_at m.graphs.words e) (element_over m h e l))

  -- a word gives the element that the place of its class gives
  given_by_place : (w : List ℕ) (i : ℕ) → Over m.graphs.right.letters w
      → IsPlaceOf (congruent m) m.graphs.words w i
      → GiveOne (congruent m) (word_at m.graphs.words e) (word_at m.graphs.words i) w
  given_by_place w i o place =
      local_moves m.graphs.right.letters (congruent m) (is_congruence m h)
      (word_at m.graphs.words e) (word_at m.graphs.words e) (word_at m.graphs.words i) w
      (element_over m h e l) (element_over m h e l) (element_over m h i place.within) o
      ((is_congruence m h).equivalence.refl (word_at m.graphs.words e) (element_over m h e l))
      place.related

  -- two places in the list that give one element are one
  one_place : (i j : ℕ) → i < length firsts → j < length firsts
      → local_element t e (slice_index firsts i) ≡ local_element t e (slice_index firsts j) → i ≡ j
  one_place i j li lj same = elim (cases_lt i j) [
    | inl b ↦ absurd (f.apart i j b lj same)
    | inr b ↦ elim (cases_lt j i) [
      | inl a ↦ absurd (f.apart j i a li (sym same))
      | inr a ↦ omega arith
    ]
  ]

  pub local_size : IsLocalSize m.graphs.right.letters (congruent m) (word_at m.graphs.words e)
      (length firsts)
  local_size = record {
    elements = listed;
    representatives = record {
      over = λ i b. over i (low i b);
      rise = λ i j b c. rise i j b (low j c);
      place = place;
      least = λ i w b o s. least i w (low i b) o s;
    };
    long = listed_length;
  }
    where
      equivalence : IsEquivalence m.graphs.right.letters
          (GiveOne (congruent m) (word_at m.graphs.words e))
      equivalence = give_one_equivalence m.graphs.right.letters (congruent m) (is_congruence m h)
          (word_at m.graphs.words e) (element_over m h e l)

      low : (i : ℕ) → i < length listed → i < length firsts
      low i b = let a = listed_length in omega arith

      over : (i : ℕ) → i < length firsts → Over m.graphs.right.letters (word_at listed i)
      over i b = subst (Over m.graphs.right.letters) (sym (listed_word i b))
          (element_over m h (slice_index firsts i) (within i b))

      rise : (i j : ℕ) → i < j → j < length firsts → word_at listed i ⊏ word_at listed j
      rise i j b c =
          rw (listed_word i (omega arith), listed_word j c) ((representatives m h).rise
          (slice_index firsts i) (slice_index firsts j) (f.rise i j b c) (within j c))

      related : (i : ℕ) (w : List ℕ) (q : ℕ) → (b : i < length firsts)
          → Over m.graphs.right.letters w
          → IsPlaceOf (congruent m) m.graphs.words w q
          → GiveOne (congruent m) (word_at m.graphs.words e) (word_at listed i) w
          → local_element t e (slice_index firsts i) ≡ local_element t e q
      related i w q b o at s =
          let x = word_at m.graphs.words (slice_index firsts i) in
          let there : GiveOne (congruent m) (word_at m.graphs.words e) x w =
          subst (λ (v : List ℕ). GiveOne (congruent m) (word_at m.graphs.words e) v w)
          (listed_word i b) s in
          let ox = element_over m h (slice_index firsts i) (within i b) in
          let oq = element_over m h q at.within in
          (gives (slice_index firsts i) q (within i b) at.within).1
          (equivalence.trans x w (word_at m.graphs.words q) ox o oq there
          (equivalence.symm (word_at m.graphs.words q) w oq o (given_by_place w q o at)))

      place : (w : List ℕ) → Over m.graphs.right.letters w → (i : ℕ)
          × IsPlaceOf (GiveOne (congruent m) (word_at m.graphs.words e)) listed w i
      place w o =
          let (q, at) = (representatives m h).place w o in
          let s = p.side in
          let lq = at.within in
          let (i, b, _, same) = f.cover q (omega arith) in
          let first : GiveOne (congruent m) (word_at m.graphs.words e)
          (word_at m.graphs.words (slice_index firsts i)) (word_at m.graphs.words q) =
          (gives (slice_index firsts i) q (within i b) lq).0 (sym same) in
          let whole = equivalence.trans (word_at m.graphs.words (slice_index firsts i))
          (word_at m.graphs.words q) w (element_over m h (slice_index firsts i) (within i b))
          (element_over m h q lq) o first (given_by_place w q o at) in (
            i,
            record {
              within = let a = listed_length in omega arith;
              related =
                  subst (λ (v : List ℕ). GiveOne (congruent m) (word_at m.graphs.words e) v w)
                  (sym (listed_word i b)) whole;
              only = λ j c r. one_place j i (low j c) b (related j w q (low j c) o at r ∙ same);
            },
          )

      least : (i : ℕ) (w : List ℕ) → i < length firsts → Over m.graphs.right.letters w
          → GiveOne (congruent m) (word_at m.graphs.words e) (word_at listed i) w
          → ¬ (w ⊏ word_at listed i)
      least i w b o s before =
          let (q, at) = (representatives m h).place w o in
          let side = p.side in
          let lq = at.within in
          let (j, lj, low_j, same) = f.cover q (omega arith) in
          let one : j ≡ i = one_place j i lj b (sym same ∙ sym (related i w q b o at s)) in
          let up : slice_index firsts i ≤ q =
          subst (λ (n : ℕ). slice_index firsts n ≤ q) one low_j in
          not_before q w o at (slice_index firsts i) (within i b) up
          (subst (λ (v : List ℕ). w ⊏ v) (listed_word i b) before)
        where
          -- a word is not before the words of the places up to that of its class
          not_before : (q : ℕ) (w : List ℕ) → Over m.graphs.right.letters w
              → IsPlaceOf (congruent m) m.graphs.words w q → (i : ℕ) → i < length m.graphs.words
              → i ≤ q → ¬ (w ⊏ word_at m.graphs.words i)
          not_before q w o at i li up before = elim (cases_lt i q) [
            | inl a ↦ (representatives m h).least q w at.within o at.related
                (shortlex_trans w (word_at m.graphs.words i) (word_at m.graphs.words q) before
                ((representatives m h).rise i q a at.within))
            | inr a ↦ (let same : i ≡ q = omega arith in
                (representatives m h).least q w at.within o at.related
                (subst (λ (n : ℕ). w ⊏ word_at m.graphs.words n) same before))
          ]

-- ---- the local work

squares_behind : (ns : List ℕ) (n : ℕ) → sum_of_squares (ns ++ n ∷ []) ≡ sum_of_squares ns + n * n
squares_behind [] n = omega arith
squares_behind (a ∷ ns) n = let rest = squares_behind ns n in omega arith

pub no_work : (m : SyntacticMonoid) (t : ProductTable) → IsWorkBelow m t 0 0
no_work m t = record { sizes = []; long = refl; each = λ i l. absurd (omega arith); sum = refl }

-- one size more
pub more_work : (m : SyntacticMonoid) (t : ProductTable) (e work n : ℕ) → IsWorkBelow m t e work
    → IsSizeHere m t e n → IsWorkBelow m t (e + 1) (work + n * n)
more_work m t e work n h s = record {
  sizes = h.sizes ++ n ∷ [];
  long = let a = length_push h.sizes n in let b = h.long in omega arith;
  each = λ i l. each i (cases_lt i e) l;
  sum = squares_behind h.sizes n ∙ ap (λ (a : ℕ). a + n * n) h.sum;
}
  where
    each : (i : ℕ) → (i < e) ⊎ (e ≤ i) → i < e + 1
        → IsSizeHere m t i (slice_index (h.sizes ++ n ∷ []) i)
    each i (inl l) _ =
        let b = h.long in
        subst (IsSizeHere m t i) (sym (get_or_append_left h.sizes (n ∷ []) 0 i (omega arith)))
        (h.each i l)
    each i (inr l) g =
        let b = h.long in
        let same : e ≡ i = omega arith in
        subst (IsSizeHere m t i) (sym (get_or_push h.sizes n 0 i (b ∙ same)))
        (subst (λ (j : ℕ). IsSizeHere m t j n) same s)

module _ (m : SyntacticMonoid) (h : IsSyntactic m) (t : ProductTable) (p : IsTableOf m.graphs t)
  where
    size_at : (e n : ℕ) → e < length m.graphs.words → IsSizeHere m t e n
        → IsSizeAt m.graphs.right.letters (congruent m) m.graphs.words e n
    size_at e n l (inl (i, (firsts, f, same))) =
        inl (
          (idempotent_place m h t p e l).0 i,
          subst (IsLocalSize m.graphs.right.letters (congruent m) (word_at m.graphs.words e)) same
              (local_size m h t p e l firsts f),
        )
    size_at e n l (inr (not, none)) = inr (λ i. not ((idempotent_place m h t p e l).1 i), none)

    -- the work of all elements is the local work
    pub whole_work : (work : ℕ) → IsWorkBelow m t t.side work
        → IsLocalWork m.graphs.right.letters (congruent m) m.graphs.words work
    whole_work work w = record {
      sizes = w.sizes;
      long = w.long ∙ p.side;
      each = λ e l. let s = p.side in size_at e (slice_index w.sizes e) l (w.each e (omega arith));
      sum = w.sum;
    }

pub square_few : (n : ℕ) → n ≤ 8000 → n * n ≤ 64000000
square_few n h =
    let a : n * n ≤ 8000 * n = mul-le-mul_right {m = n} {n = 8000} n h in
    omega arith
