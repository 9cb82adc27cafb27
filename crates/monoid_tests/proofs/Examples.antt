-- The targets of two worked monoids with two letters: the one with a single element, and the one of
-- the words that begin with the first letter.
use Rattle.std.proofs.Common.{◌≡◌, ℕ, zero, suc, ◌*◌, ◌<◌, Bool, true, eqb, ltb, cond, List, [], ◌∷◌, ◌++◌, length, refl, sym, subst, ◌∙◌, arith}
use Rattle.std.specs.Prelude.{slice_index}
use Rattle.std.proofs.lemmas.Bool.{eqb-true, ltb-true, lt-ltb}
use Rattle.std.proofs.lemmas.Grind.{get_or_default_zero}
use Rattle.language_theory.specs.Words.{Over, word_at, shortlex, ◌⊏◌}
use Rattle.language_theory.specs.Congruence.{MapsAlike}
use Rattle.language_theory.specs.ShortlexGraph.{Graph, target, walk, node, SameNode, IsGraph, IsShortlex}
use Rattle.language_theory.proofs.ShortlexCriterion.{shortlex_by_letters}
use Rattle.monoid_theory.proofs.SmallTests.{every_below, at_every, at_every_two, is_less, is_not_less, less_if, not_less_if, under}
use Rattle.cayley_tables.specs.Tables.{AreMonoidTargets, right_graph}

abbrev is_within : Graph → ℕ → Bool
is_within g p = ltb (slice_index g.targets p) g.size

abbrev is_led_to : Graph → List (List ℕ) → ℕ → Bool
is_led_to g words i = eqb (node g (word_at words i)) i

abbrev is_smaller : List (List ℕ) → ℕ → ℕ → Bool
is_smaller words i j =
    cond (ltb i j) (is_less (shortlex (word_at words i) (word_at words j))) true

abbrev is_no_longer : Graph → List (List ℕ) → ℕ → ℕ → Bool
is_no_longer g words i a =
    is_not_less (shortlex (word_at words i ++ a ∷ []) (word_at words (target g i a)))

-- a graph of which tests of all its nodes say that it is a shortlex graph
module _ (g : Graph) (words : List (List ℕ)) (n : ℕ) (root : 0 < g.size)
    (rows : length g.targets ≡ g.size * g.letters) (targets : length g.targets ≡ n)
    (long : length words ≡ g.size) (empty : word_at words 0 ≡ [])
    (over : (i : ℕ) → i < g.size → Over g.letters (word_at words i))
    (within : every_below n (is_within g) ≡ true)
    (leads : every_below g.size (is_led_to g words) ≡ true)
    (rise : every_below g.size (λ i. every_below g.size (is_smaller words i)) ≡ true)
    (steps : every_below g.size (λ i. every_below g.letters (is_no_longer g words i)) ≡ true) where
  tested_graph : IsGraph g
  tested_graph = record {
    root = root;
    long = rows;
    within = λ k d h. subst (λ (t : ℕ). t < g.size) (sym (get_or_default_zero g.targets k d h))
        (ltb-true (slice_index g.targets k) g.size
        (at_every n (is_within g) within k (omega arith)));
  }

  tested_shortlex : IsShortlex g words
  tested_shortlex = shortlex_by_letters g words tested_graph long over leads_to rises empty stays
    where
      leads_to : (i : ℕ) → i < g.size → node g (word_at words i) ≡ i
      leads_to i h =
          eqb-true (node g (word_at words i)) i
          (at_every g.size (is_led_to g words) leads i h)

      rises : (i j : ℕ) → i < j → j < g.size → word_at words i ⊏ word_at words j
      rises i j h l =
          less_if (shortlex (word_at words i) (word_at words j))
          (under (ltb i j) (is_less (shortlex (word_at words i) (word_at words j)))
          (at_every_two g.size g.size (is_smaller words) rise i j (omega arith) l)
          (lt-ltb i j h))

      stays : (i a : ℕ) → i < g.size → a < g.letters
          → ¬ ((word_at words i ++ a ∷ []) ⊏ word_at words (target g i a))
      stays i a h l =
          not_less_if (shortlex (word_at words i ++ a ∷ []) (word_at words (target g i a)))
          (at_every_two g.size g.letters (is_no_longer g words) steps i a h l)

abbrev one_element : Graph
one_element = right_graph 1 2 (0 ∷ 0 ∷ [])

pub one_element_targets : AreMonoidTargets 2 (0 ∷ 0 ∷ [])
one_element_targets = record {
  some = omega arith;
  few = omega arith;
  size = 1;
  small = omega arith;
  words = [] ∷ [];
  monoid = record {
    shortlex = tested_shortlex one_element ([] ∷ []) 2 (omega arith) refl refl refl refl over refl
        refl refl refl;
    alike = alike;
  };
}
  where
    over : (i : ℕ) → i < 1 → Over 2 (word_at ([] ∷ []) i)
    over zero h = tt
    over (suc i) h = absurd (omega arith)

    alike : (u v : List ℕ) → Over 2 u → Over 2 v → SameNode one_element u v
        → MapsAlike 1 (target one_element) u v
    alike u v ou ov e zero h = e
    alike u v ou ov e (suc p) h = absurd (omega arith)

-- the elements of the empty word, of the words that begin with letter 0 and of those with letter 1
abbrev begins : Graph
begins = right_graph 3 2 (1 ∷ 2 ∷ 1 ∷ 1 ∷ 2 ∷ 2 ∷ [])

abbrev begins_words : List (List ℕ)
begins_words = [] ∷ (0 ∷ []) ∷ (1 ∷ []) ∷ []

stays_at_one : (w : List ℕ) → Over 2 w → walk begins 1 w ≡ 1
stays_at_one [] o = refl
stays_at_one (zero ∷ w) o = stays_at_one w o.1
stays_at_one (suc zero ∷ w) o = stays_at_one w o.1
stays_at_one (suc (suc a) ∷ w) o = absurd (let h = o.0 in omega arith)

stays_at_two : (w : List ℕ) → Over 2 w → walk begins 2 w ≡ 2
stays_at_two [] o = refl
stays_at_two (zero ∷ w) o = stays_at_two w o.1
stays_at_two (suc zero ∷ w) o = stays_at_two w o.1
stays_at_two (suc (suc a) ∷ w) o = absurd (let h = o.0 in omega arith)

pub begins_with_a_targets : AreMonoidTargets 2 (1 ∷ 2 ∷ 1 ∷ 1 ∷ 2 ∷ 2 ∷ [])
begins_with_a_targets = record {
  some = omega arith;
  few = omega arith;
  size = 3;
  small = omega arith;
  words = begins_words;
  monoid = record {
    shortlex = tested_shortlex begins begins_words 6 (omega arith) refl refl refl refl over refl
        refl refl refl;
    alike = alike;
  };
}
  where
    over : (i : ℕ) → i < 3 → Over 2 (word_at begins_words i)
    over zero h = tt
    over (suc zero) h = (omega arith, tt)
    over (suc (suc zero)) h = (omega arith, tt)
    over (suc (suc (suc i))) h = absurd (omega arith)

    alike : (u v : List ℕ) → Over 2 u → Over 2 v → SameNode begins u v
        → MapsAlike 3 (target begins) u v
    alike u v ou ov e zero h = e
    alike u v ou ov e (suc zero) h = stays_at_one u ou ∙ sym (stays_at_one v ov)
    alike u v ou ov e (suc (suc zero)) h = stays_at_two u ou ∙ sym (stays_at_two v ov)
    alike u v ou ov e (suc (suc (suc p))) h = absurd (omega arith)
