-- Why a target may be read from the graphs that are there: the word of element i without its first
-- letter b, with a behind it, is no least word, so it has a smaller word w(r), and the element of
-- w(i) a is that of b w(r).
use Rattle.std.proofs.Common.{◌≡◌, ℕ, zero, suc, ◌+◌, ◌*◌, ◌<◌, ◌≤◌, ◌⊎◌, inl, inr, true, false, List, [], ◌∷◌, ◌++◌, Option, Some, length, refl, ap, sym, subst, ◌∙◌, arith, length-append}
use Rattle.std.specs.Prelude.{slice_index}
use Rattle.std.proofs.lemmas.Bool.{cases_lt}
use Rattle.std.proofs.lemmas.Grind.{common_steps}
use Rattle.std.proofs.lemmas.List.Elements.{All-get_or}
use Rattle.std.proofs.Math.Nat.{mul-le-mul_right}
use Rattle.language_theory.specs.Words.{Over, ◌⊏◌, word_at}
use Rattle.language_theory.proofs.Shortlex.{shortlex_trichotomy, shortlex_irrefl, shortlex_asymm, shortlex_append_letters, shortlex_append_last, last_letter_is_one, over_last}
use Rattle.exploration.specs.States.{IsNext}
use Rattle.exploration.specs.Search.{IsBreadthFirst, AreNodes}
use Rattle.cayley_tables.specs.Links.{LinkLists, AreLinks}
use Rattle.cayley_tables.specs.LeftRows.{AreLeftNumbers}
use Rattle.cayley_tables.proofs.Order.{not_smaller_with_letters, smaller_with_first, not_longer, not_greater_then_smaller}
use Rattle.froidure_pin.specs.Search.{rest_of, is_reduced, needs_row, first_times, read_target}

-- words with one number have one number again when a letter is put behind or before them
pub record IsInvariant (k : ℕ) (number : List ℕ → Option ℕ) : Type 0 where
  pub behind : (u v : List ℕ) (i a : ℕ) → Over k u → Over k v → a < k → number u ≡ Some i
      → number v ≡ Some i → number (u ++ a ∷ []) ≡ number (v ++ a ∷ [])
  pub before : (u v : List ℕ) (i b : ℕ) → Over k u → Over k v → b < k → number u ≡ Some i
      → number v ≡ Some i → number (b ∷ u) ≡ number (b ∷ v)

-- where no row is needed, there is a first letter, and the word without it and with the letter
-- behind it is no least word
pub not_needed : (k : ℕ) (targets : List ℕ) (l : LinkLists) (i a : ℕ)
    → needs_row k targets l i a ≡ false → (0 < i) × (is_reduced k targets l i a ≡ false)
not_needed k targets l zero a e = absurd (let f : true ≡ false = e in cc)
not_needed k targets l (suc i) a e = (omega arith, e)

-- the first letter times an element that has a last letter
pub first_times_later : (k : ℕ) (targets : List ℕ) (l : LinkLists) (left : List ℕ) (b n : ℕ) → 0 < n
    → first_times k targets l left b n
    ≡ slice_index targets
    (slice_index left (slice_index l.prefix n * k + b) * k + slice_index l.last n)
first_times_later k targets l left b zero z = absurd (omega arith)
first_times_later k targets l left b (suc n) z = refl

-- what is known when the target of element i by the letter a is the next one
pub record IsAt (k : ℕ) (number : List ℕ → Option ℕ) (words : List (List ℕ)) (targets : List ℕ)
    (l : LinkLists) (left : List ℕ) (i a : ℕ) : Type 0 where
  pub search : IsBreadthFirst k words targets
  pub nodes : AreNodes k number words targets
  pub invariant : IsInvariant k number
  pub links : AreLinks k words (length words) l
  pub lefts : AreLeftNumbers k number words left
  pub here : length targets ≡ i * k + a
  pub element : i < length words
  pub letter : a < k
  pub shorter : (j : ℕ) → j < length words → length (word_at words j) < length (word_at words i)
      → j * k + k ≤ length left

-- of two words with a last letter, that of the earlier place is the smaller one
pub before_place : (k : ℕ) (words : List (List ℕ)) (targets : List ℕ) (p c i a : ℕ)
    → IsBreadthFirst k words targets → p < length words → i < length words → c < k
    → (word_at words p ++ c ∷ []) ⊏ (word_at words i ++ a ∷ []) → p * k + c < i * k + a
before_place k words targets p c i a h hp hi hc less = by (cases_lt p i) (cases_lt i p)
  where
    before : p ≡ i → c < a
    before e = elim (cases_lt c a) [
      | inl l ↦ l
      | inr l ↦ absurd
          (other (subst
          (λ (n : ℕ). (word_at words n ++ c ∷ []) ⊏ (word_at words i ++ a ∷ [])) e less)
          (cases_lt a c) l)
    ]
      where
        other : (word_at words i ++ c ∷ []) ⊏ (word_at words i ++ a ∷ []) → (a < c) ⊎ (c ≤ a)
            → a ≤ c → ⊥
        other g (inl o) _ =
            shortlex_asymm (word_at words i ++ c ∷ []) (word_at words i ++ a ∷ []) g
            (shortlex_append_last (word_at words i) a c o)
        other g (inr o) l = let e : c ≡ a = omega arith in
            shortlex_irrefl (word_at words i ++ a ∷ [])
            (subst (λ (x : ℕ). (word_at words i ++ x ∷ []) ⊏ (word_at words i ++ a ∷ [])) e g)

    by : (p < i) ⊎ (i ≤ p) → (i < p) ⊎ (p ≤ i) → p * k + c < i * k + a
    by (inl o) _ = omega (arith, mul-le-mul_right {m = p + 1} {n = i} k (omega arith))
    by (inr o) (inl q) =
        absurd (shortlex_asymm (word_at words p ++ c ∷ []) (word_at words i ++ a ∷ []) less
        (shortlex_append_letters (word_at words i) (word_at words p) a c (h.rise i p q hp)))
    by (inr o) (inr q) = let e : p ≡ i = omega arith in let l = before e in
        omega (arith, mul-le-mul_right {m = p} {n = i} k q)

-- a listed word and a letter spell a listed word in one way
spelled_once : (k : ℕ) (words : List (List ℕ)) (targets : List ℕ) (q c s a : ℕ)
    → IsBreadthFirst k words targets → q < length words → s < length words
    → word_at words q ++ c ∷ [] ≡ word_at words s ++ a ∷ [] → (q ≡ s) × (c ≡ a)
spelled_once k words targets q c s a h hq hs e = (place (cases_lt q s) (cases_lt s q), both.1)
  where
    both : (word_at words q ≡ word_at words s) × (c ≡ a)
    both = last_letter_is_one (word_at words q) (word_at words s) c a e

    front : word_at words q ≡ word_at words s
    front = both.0

    place : (q < s) ⊎ (s ≤ q) → (s < q) ⊎ (q ≤ s) → q ≡ s
    place (inl o) _ =
        absurd (shortlex_irrefl (word_at words s)
        (subst (λ (w : List ℕ). w ⊏ word_at words s) front (h.rise q s o hs)))
    place (inr o) (inl p) =
        absurd (shortlex_irrefl (word_at words s)
        (subst (λ (w : List ℕ). word_at words s ⊏ w) front (h.rise s q p hq)))
    place (inr o) (inr p) = omega arith

-- where the links of an element are not those of a word, it has another word
is_spelled : (k : ℕ) (words : List (List ℕ)) (targets : List ℕ) (l : LinkLists) (r s a : ℕ)
    → IsBreadthFirst k words targets → AreLinks k words (length words) l → r < length words
    → s < length words → word_at words r ≡ word_at words s ++ a ∷ []
    → (0 < r) × (slice_index l.prefix r ≡ s) × (slice_index l.last r ≡ a)
is_spelled k words targets l r s a h f hr hs e = by (cases_lt 0 r)
  where
    by : (0 < r) ⊎ (r ≤ 0) → (0 < r) × (slice_index l.prefix r ≡ s) × (slice_index l.last r ≡ a)
    by (inl o) = let link = f.prefix r o hr in let one =
        spelled_once k words targets (slice_index l.prefix r)
        (slice_index l.last r) s a h link.prefix hs (sym link.splits ∙ e) in (o, one.0, one.1)
    by (inr o) =
        let first : r ≡ 0 = omega arith in
        let none : [] ≡ word_at words s ++ a ∷ [] =
        sym f.root ∙ subst (λ (n : ℕ). word_at words n ≡ word_at words s ++ a ∷ []) first e in
        let some : length (word_at words s ++ a ∷ []) ≡ length (word_at words s) + 1 =
        simp length-append in
        let zero_long = ap length none in
        absurd (omega arith)

-- the test of the links fails only if one of them is another one
reduced_by_links : (k : ℕ) (targets : List ℕ) (l : LinkLists) (i a : ℕ)
    → is_reduced k targets l i a ≡ false
    → (0 < rest_of k targets l i a)
    × (slice_index l.prefix (rest_of k targets l i a) ≡ slice_index l.suffix i)
    × (slice_index l.last (rest_of k targets l i a) ≡ a) → ⊥
reduced_by_links k targets l i a e (o, p, c) = grind (arith, common_steps)

pub links_by_reduced : (k : ℕ) (targets : List ℕ) (l : LinkLists) (i a : ℕ)
    → is_reduced k targets l i a ≡ true
    → (0 < rest_of k targets l i a)
    × (slice_index l.prefix (rest_of k targets l i a) ≡ slice_index l.suffix i)
    × (slice_index l.last (rest_of k targets l i a) ≡ a)
links_by_reduced k targets l i a e = grind (arith, common_steps)

module _ (k : ℕ) (number : List ℕ → Option ℕ) (words : List (List ℕ)) (targets : List ℕ)
    (l : LinkLists) (left : List ℕ) (i a : ℕ) (h : IsAt k number words targets l left i a)
    (z : 0 < i) where
  -- the place of the suffix with the letter is before this one
  pub suffix_place : slice_index l.suffix i * k + a < length targets
  suffix_place = let before : slice_index l.suffix i < i = h.links.shorter i z h.element in let e =
      h.here in let c = h.letter in
      omega (arith, mul-le-mul_right {m = slice_index l.suffix i + 1} {n = i} k (omega arith))

  pub rest_within : rest_of k targets l i a < length words
  rest_within =
      All-get_or (λ t. t < length words) targets
      (slice_index l.suffix i * k + a) 0 suffix_place h.search.within

  -- the word of the element is its first letter and the word of its suffix
  splits : word_at words i ≡ slice_index l.first i ∷ word_at words (slice_index l.suffix i)
  splits = (h.links.suffix i z h.element).splits

  suffix_within : slice_index l.suffix i < length words
  suffix_within = (h.links.suffix i z h.element).suffix

  rest_over : Over k (word_at words (rest_of k targets l i a))
  rest_over = h.search.over (rest_of k targets l i a) rest_within

  -- the word of the suffix with the letter behind it leads to the rest
  rest_number : number (word_at words (slice_index l.suffix i) ++ a ∷ [])
      ≡ Some (rest_of k targets l i a)
  rest_number =
      h.nodes.next (slice_index l.suffix i) a
      (word_at words (slice_index l.suffix i)) h.letter suffix_place
      (h.search.over (slice_index l.suffix i) suffix_within)
      (h.nodes.own (slice_index l.suffix i) suffix_within)

  -- so the word of the element with the letter behind it leads where the first letter before the
  -- word of the rest leads
  pub same_as_rest : number (word_at words i ++ a ∷ [])
      ≡ number (slice_index l.first i ∷ word_at words (rest_of k targets l i a))
  same_as_rest =
      let s = slice_index l.suffix i in
      let r = rest_of k targets l i a in
      let longer : Over k (word_at words s ++ a ∷ []) =
      over_last k (word_at words s) a (h.search.over s suffix_within) h.letter in
      ap (λ (w : List ℕ). number (w ++ a ∷ [])) splits
      ∙ h.invariant.before (word_at words s ++ a ∷ []) (word_at words r) r
      (slice_index l.first i) longer rest_over (h.links.first i z h.element) rest_number
      (h.nodes.own r rest_within)

  -- the word of the rest is smaller, if the row need not be made
  pub rest_smaller : is_reduced k targets l i a ≡ false
      → word_at words (rest_of k targets l i a) ⊏ (word_at words (slice_index l.suffix i) ++ a ∷ [])
  rest_smaller e =
      elim (shortlex_trichotomy (word_at words (rest_of k targets l i a))
      (word_at words (slice_index l.suffix i) ++ a ∷ [])) [
        | inl o ↦ o
        | inr (inl o) ↦ absurd
            (reduced_by_links k targets l i a e
            (is_spelled k words targets l (rest_of k targets l i a)
            (slice_index l.suffix i) a h.search h.links rest_within suffix_within o))
        | inr (inr o) ↦ absurd (h.search.least (slice_index l.suffix i) a h.letter suffix_place o)
      ]

  -- a word that is not longer than that of the rest is shorter than that of the element with the
  -- letter
  rest_length : is_reduced k targets l i a ≡ false
      → length (word_at words (rest_of k targets l i a)) ≤ length (word_at words i)
  rest_length e =
      let r = word_at words (rest_of k targets l i a) in
      let o = not_longer (word_at words (slice_index l.suffix i) ++ a ∷ []) r
      (shortlex_asymm r (word_at words (slice_index l.suffix i) ++ a ∷ []) (rest_smaller e)) in
      let long : length (word_at words (slice_index l.suffix i) ++ a ∷ [])
      ≡ length (word_at words (slice_index l.suffix i)) + 1 = simp length-append in
      let split = ap length splits in
      omega arith

  -- the left row of the prefix of the rest is there
  pub prefix_place : is_reduced k targets l i a ≡ false → 0 < rest_of k targets l i a
      → slice_index l.prefix (rest_of k targets l i a) * k + slice_index l.first i < length left
  prefix_place e o =
      let r = rest_of k targets l i a in
      let link = h.links.prefix r o rest_within in
      let b : slice_index l.first i < k = h.links.first i z h.element in
      let long : length (word_at words (slice_index l.prefix r) ++ slice_index l.last r ∷ [])
      ≡ length (word_at words (slice_index l.prefix r)) + 1 = simp length-append in
      let split = ap length link.splits in
      let short = rest_length e in
      let row = h.shorter (slice_index l.prefix r) link.prefix (omega arith) in
      omega arith

  -- and the left target of element 0
  pub first_place : slice_index l.first i < length left
  first_place =
      let some : 0 < length words = h.search.some in
      let none = ap length h.links.root in
      let split = ap length splits in
      let b : slice_index l.first i < k = h.links.first i z h.element in
      let row = h.shorter 0 some (omega arith) in
      omega arith

  -- what is known of the first letter times the prefix of the rest
  abbrev product : ℕ
  product = slice_index left
      (slice_index l.prefix (rest_of k targets l i a) * k + slice_index l.first i)

  -- its target by the last letter of the rest is there
  pub product_place : is_reduced k targets l i a ≡ false → 0 < rest_of k targets l i a
      → product * k + slice_index l.last (rest_of k targets l i a) < length targets
  product_place e o =
      let r = rest_of k targets l i a in
      let q = slice_index l.prefix r in
      let c = slice_index l.last r in
      let b = slice_index l.first i in
      let s = slice_index l.suffix i in
      let hb : b < k = h.links.first i z h.element in
      let hc : c < k = h.links.last r o rest_within in
      let place = prefix_place e o in
      let link = h.links.prefix r o rest_within in
      let not_greater : ¬ (((b ∷ word_at words q) ++ c ∷ []) ⊏ (word_at words product ++ c ∷ [])) =
      not_smaller_with_letters (b ∷ word_at words q) (word_at words product) c
      (h.lefts.least q b hb place) in
      let smaller : (b ∷ word_at words r) ⊏ (b ∷ (word_at words s ++ a ∷ [])) =
      smaller_with_first (word_at words r) (word_at words s ++ a ∷ []) b (rest_smaller e) in
      let as_split : ((b ∷ word_at words q) ++ c ∷ []) ⊏ (word_at words i ++ a ∷ []) =
      subst (λ (w : List ℕ). ((b ∷ word_at words q) ++ c ∷ []) ⊏ (w ++ a ∷ [])) (sym splits)
      (subst (λ (w : List ℕ). (b ∷ w) ⊏ (b ∷ (word_at words s ++ a ∷ []))) link.splits
      smaller) in
      let less = not_greater_then_smaller (word_at words product ++ c ∷ [])
      ((b ∷ word_at words q) ++ c ∷ []) (word_at words i ++ a ∷ []) not_greater as_split in
      let here = h.here in
      let before =
      before_place k words targets product c i a h.search
      (h.lefts.within q b hb place) h.element hc less in
      omega arith

  -- the target that is read is the number of the word of the element with the letter behind it
  read_number : is_reduced k targets l i a ≡ false → (n : ℕ) → n ≡ rest_of k targets l i a
      → number (word_at words i ++ a ∷ [])
      ≡ Some (first_times k targets l left (slice_index l.first i) n)
  read_number e zero f =
      let b = slice_index l.first i in
      let hb : b < k = h.links.first i z h.element in
      let at : 0 * k + b ≡ b = omega arith in
      let there = first_place in
      let place : 0 * k + b < length left = omega arith in
      same_as_rest ∙ ap (λ (n : ℕ). number (b ∷ word_at words n)) (sym f)
      ∙ h.lefts.leads 0 b hb place ∙ ap (λ (p : ℕ). Some (slice_index left p)) at
  read_number e (suc n) f =
      let r = rest_of k targets l i a in
      let o : 0 < r = omega arith in
      let q = slice_index l.prefix r in
      let c = slice_index l.last r in
      let b = slice_index l.first i in
      let hb : b < k = h.links.first i z h.element in
      let hc : c < k = h.links.last r o rest_within in
      let link = h.links.prefix r o rest_within in
      let over : Over k (b ∷ word_at words q) = (hb, h.search.over q link.prefix) in
      let leads : number (b ∷ word_at words r) ≡ Some (slice_index targets (product * k + c)) =
      ap (λ (w : List ℕ). number (b ∷ w)) link.splits
      ∙ h.nodes.next product c (b ∷ word_at words q) hc (product_place e o) over
      (h.lefts.leads q b hb (prefix_place e o)) in
      same_as_rest ∙ leads
      ∙ ap (λ (m : ℕ). Some
      (slice_index targets
      (slice_index left (slice_index l.prefix m * k + b) * k + slice_index l.last m))) (sym f)

  -- the target that is read is an element that was found
  read_within : is_reduced k targets l i a ≡ false → (n : ℕ) → n ≡ rest_of k targets l i a
      → first_times k targets l left (slice_index l.first i) n < length words
  read_within e zero f =
      let b = slice_index l.first i in
      let hb : b < k = h.links.first i z h.element in
      let at : 0 * k + b ≡ b = omega arith in
      let there = first_place in
      let place : 0 * k + b < length left = omega arith in
      subst (λ (p : ℕ). slice_index left p < length words) at (h.lefts.within 0 b hb place)
  read_within e (suc n) f =
      let r = rest_of k targets l i a in
      let o : 0 < r = omega arith in
      let inside : slice_index targets (product * k + slice_index l.last r) < length words =
      All-get_or (λ t. t < length words) targets (product * k + slice_index l.last r) 0
      (product_place e o) h.search.within in
      subst (λ (m : ℕ). slice_index targets
      (slice_index left
      (slice_index l.prefix m * k + slice_index l.first i) * k + slice_index l.last m)
      < length words) (sym f) inside

  -- each word of the element leads there with the letter behind it
  pub read_is_next : is_reduced k targets l i a ≡ false
      → IsNext k number number i a (read_target k targets l left i a)
  read_is_next e =
      record {
        leads =
            λ w o f. h.invariant.behind w (word_at words i) i a o (h.search.over i h.element) h.letter f
            (h.nodes.own i h.element) ∙ read_number e (rest_of k targets l i a) refl;
      }

  pub read_is_within : is_reduced k targets l i a ≡ false
      → read_target k targets l left i a < length words
  read_is_within e = read_within e (rest_of k targets l i a) refl
