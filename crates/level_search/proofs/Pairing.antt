-- Pairs of a state and a key, as they are seen.
use Rattle.std.proofs.Common.{◌≡◌, ℕ, ◌<◌, true, List, [], ◌∷◌, ◌++◌, Some, length, ap, sym, subst, ◌∙◌, arith, get_or}
use Rattle.std.specs.Prelude.{position}
use Rattle.std.specs.List.{position_or_len}
use Rattle.std.proofs.lemmas.List.Sums.{passes_at_first}
use Rattle.indexmap.specs.IndexSet.{insert_key}
use Rattle.language_theory.specs.Words.{Over}
use Rattle.language_theory.proofs.Shortlex.{over_last}
use Rattle.language_theory.proofs.Graphs.{walk_append, node_within}
use Rattle.exploration.specs.States.{AreKept, IsNext, IsCounted}
use Rattle.exploration.specs.NumberedKeys.{position_is}
use Rattle.exploration.proofs.Interning.{insert_keeps, insert_numbers, insert_counts, insert_reached}
use Rattle.level_search.specs.Pairs.{Pairs, ArePairs, pair_of, next_pair, pair_eq, pair_at, number_of, pair_Decides}

-- the pair of a word with a letter behind it
pub pair_last : (p : Pairs) (w : List ℕ) (a : ℕ) → pair_of p (w ++ a ∷ [])
    ≡ next_pair p (pair_of p w) a
pair_last p w a = let e = walk_append p.dfa.graph 0 w (a ∷ []) in let f =
    walk_append p.keys 0 w (a ∷ []) in λ i. (e i, f i)

-- the number of a word's pair leads back to the pair
pub pair_at_number : (p : Pairs) (w : List ℕ) (n : ℕ) → number_of p w ≡ Some n → pair_of p w
    ≡ pair_at p n
pair_at_number p w n e =
    let (a, h) = position_is (pair_eq (pair_of p w)) p.seen n e in
    (pair_Decides (pair_of p w) (pair_at p n)).0
    (subst (λ (m : ℕ). pair_eq (pair_of p w) (get_or p.seen m (0, 0)) ≡ true) a
    (passes_at_first (pair_eq (pair_of p w)) p.seen (0, 0) (omega arith)))

-- the machine after a pair was seen
abbrev pub with_seen : Pairs → ℕ × ℕ → Pairs
with_seen p s = record p { seen = insert_key pair_eq p.seen s }

pub seen_pairs : (p : Pairs) (w : List ℕ) (s : ℕ × ℕ) → Over p.dfa.graph.letters w → pair_of p w ≡ s
    → ArePairs p → ArePairs (with_seen p s)
seen_pairs p w s o e h = record {
  states = h.states;
  keys = h.keys;
  letters = h.letters;
  few = h.few;
  finals = h.finals;
  seen = insert_reached pair_eq pair_Decides p.dfa.graph.letters (pair_of p) p.seen s w o e h.seen;
}

pub seen_keeps : (p : Pairs) (s : ℕ × ℕ)
    → AreKept p.dfa.graph.letters (number_of p) (number_of (with_seen p s))
seen_keeps p s =
    record { kept = λ w n o e. insert_keeps pair_eq pair_Decides p.seen (pair_of p w) s n e }

pub seen_next : (p : Pairs) (q a : ℕ) (s : ℕ × ℕ) → s ≡ next_pair p (pair_at p q) a
    → IsNext p.dfa.graph.letters (number_of p) (number_of (with_seen p s)) q a
    (position_or_len (pair_eq s) p.seen)
seen_next p q a s f = record {
  leads = λ w o e.
      let at : pair_of p (w ++ a ∷ []) ≡ s =
      pair_last p w a
      ∙ (ap (λ (t : ℕ × ℕ). next_pair p t a) (pair_at_number p w q e) ∙ sym f) in
      subst (λ (t : ℕ × ℕ). position (pair_eq t) (insert_key pair_eq p.seen s)
      ≡ Some (position_or_len (pair_eq s) p.seen)) (sym at)
      (insert_numbers pair_eq pair_Decides p.seen s);
}

pub seen_counts : (p : Pairs) (s : ℕ × ℕ)
    → IsCounted (length p.seen) (length (insert_key pair_eq p.seen s))
    (position_or_len (pair_eq s) p.seen)
seen_counts p s = insert_counts pair_eq pair_Decides p.seen s

-- the successor of a pair that was seen is the pair of a word
pub next_reached : (p : Pairs) (q a : ℕ) → ArePairs p → q < length p.seen → a < p.dfa.graph.letters
    → (w : List ℕ) × Over p.dfa.graph.letters w × (pair_of p w ≡ next_pair p (pair_at p q) a)
next_reached p q a h hq ha =
    let (w, o, e) = h.seen.reached q hq in (
      w ++ a ∷ [],
      over_last p.dfa.graph.letters w a o ha,
      pair_last p w a
          ∙ ap (λ (t : ℕ × ℕ). next_pair p t a) (pair_at_number p w q e),
    )

-- a pair that was seen has a state of the automaton and a node of the graph of keys
pub pair_within : (p : Pairs) (q : ℕ) → ArePairs p → q < length p.seen
    → ((pair_at p q).0 < p.dfa.graph.size) × ((pair_at p q).1 < p.keys.size)
pair_within p q h hq =
    let (w, o, e) = h.seen.reached q hq in
    let at = pair_at_number p w q e in
    let there : Over p.keys.letters w = subst (λ (k : ℕ). Over k w) (sym h.letters) o in
    subst (λ (s : ℕ × ℕ). (s.0 < p.dfa.graph.size) × (s.1 < p.keys.size)) at
    (node_within p.dfa.graph w h.states o, node_within p.keys w h.keys there)

-- the same of a pair that a program has read
pub key_within : (p : Pairs) (q : ℕ) (s : ℕ × ℕ) → s ≡ pair_at p q → ArePairs p → q < length p.seen
    → s.1 < p.keys.size
key_within p q s e h hq = subst (λ (t : ℕ × ℕ). t.1 < p.keys.size) (sym e) (pair_within p q h hq).1
