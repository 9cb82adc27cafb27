-- Whether keys fix what is recognized.
use Rattle.std.proofs.Common.{◌≡◌, ◌↔◌, ◌⊎◌, inl, inr, ℕ, ◌+◌, ◌<◌, ◌≤◌, Bool, true, false, IsTrue, List, Option, Some, None, length, replicate, refl, ap, sym, subst, ◌∙◌, arith, get_or, set}
use Rattle.std.specs.Prelude.{not}
use Rattle.std.specs.Bool.{beq}
use Rattle.std.specs.Option.{option_eq}
use Rattle.std.specs.Cmp.{both_ways}
use Rattle.std.proofs.lemmas.Bool.{cases_lt}
use Rattle.std.proofs.lemmas.List.{get_or_default, get_or-set_same, get_or-set_other, length-set, get_or-replicate, get_or_past, length-replicate}
use Rattle.language_theory.specs.Words.{Over}
use Rattle.language_theory.specs.Automaton.{is_marked}
use Rattle.language_theory.specs.Representatives.{HasMoreClasses}
use Rattle.language_theory.specs.ShortlexGraph.{node, IsGraphOf}
use Rattle.language_theory.specs.Nerode.{IsMinimal}
use Rattle.language_theory.proofs.Numbers.{equal_or_not}
use Rattle.language_theory.proofs.Congruences.{both_directions, other_direction}
use Rattle.language_theory.specs.Congruence.{Agree}
use Rattle.level_search.specs.Levels.{Suffices, SamePair}
use Rattle.level_search.specs.Pairs.{Pairs, ArePairs, AreFixedByKeys, IsOnePair, pair_at, final_at, number_of}
use Rattle.level_search.proofs.Pairing.{pair_at_number}

-- ---- the marks of the keys

-- what is known of each key from the first i pairs: whether its words are recognized, if it is one
-- of theirs
pub record IsKnown (p : Pairs) (i : ℕ) (known : List (Option Bool)) : Type 0 where
  pub long : length known ≡ p.keys.size
  pub each : (j : ℕ) → j < i → get_or known (pair_at p j).1 None ≡ Some (final_at p j)
  pub from : (q : ℕ) (b : Bool) → get_or known q None ≡ Some b → (j : ℕ) × (j < i)
      × ((pair_at p j).1 ≡ q) × (final_at p j ≡ b)

none_there : (n q : ℕ) → get_or (replicate n (let x : Option Bool = None in x)) q None ≡ None
none_there n q = elim (cases_lt q n) [
  | inl l ↦ get_or-replicate n q None None l
  | inr l ↦ (let e = length-replicate n (let x : Option Bool = None in x) in
      get_or_past (replicate n None) q None (omega arith))
]

pub none_known : (p : Pairs) (n : ℕ) → n ≡ p.keys.size → IsKnown p 0 (replicate n None)
none_known p n e = record {
  long = length-replicate n None ∙ e;
  each = λ j l. absurd (omega arith);
  from = λ q b f. let g = none_there n q in cc;
}

not_other : (b c : Bool) → ¬ (b ≡ not c) → b ≡ c
not_other true true n = refl
not_other true false n = absurd (n refl)
not_other false true n = absurd (n refl)
not_other false false n = refl

other : (b : Bool) → ¬ (not b ≡ b)
other true e = cc
other false e = cc

-- one pair more
pub one_known : (p : Pairs) (i : ℕ) (known : List (Option Bool)) → IsKnown p i known
    → (pair_at p i).1 < p.keys.size
    → ¬ (get_or known (pair_at p i).1 None ≡ Some (not (final_at p i)))
    → IsKnown p (i + 1) (set known (pair_at p i).1 (Some (final_at p i)))
one_known p i known h within differs = record {
  long = length-set known (pair_at p i).1 (Some (final_at p i)) ∙ h.long;
  each = λ j l. each j (cases_lt j i) l;
  from = λ q b e. from q b (equal_or_not q (pair_at p i).1) e;
}
  where
    key : ℕ
    key = (pair_at p i).1

    here : get_or (set known key (Some (final_at p i))) key None ≡ Some (final_at p i)
    here = get_or-set_same known key (Some (final_at p i)) None (rw h.long within)

    same_key : (j : ℕ) → j < i → (pair_at p j).1 ≡ key → final_at p j ≡ final_at p i
    same_key j l e = not_other (final_at p j) (final_at p i)
        (λ f. differs (ap (λ (q : ℕ). get_or known q None) (sym e)
        ∙ (h.each j l ∙ ap (λ (b : Bool). Some b) f)))

    each : (j : ℕ) → (j < i) ⊎ (i ≤ j) → j < i + 1
        → get_or (set known key (Some (final_at p i))) (pair_at p j).1 None ≡ Some (final_at p j)
    each j (inl l) _ = elim (equal_or_not (pair_at p j).1 key) [
      | inl e ↦ ap (λ (q : ℕ). get_or (set known key (Some (final_at p i))) q None) e
          ∙ (here ∙ ap (λ (b : Bool). Some b) (sym (same_key j l e)))
      | inr n ↦ get_or-set_other known key (pair_at p j).1 (Some (final_at p i)) None n ∙ h.each j l
    ]
    each j (inr l) m =
        let e : i ≡ j = omega arith in
        subst (λ (n : ℕ). get_or (set known key (Some (final_at p i))) (pair_at p n).1 None
        ≡ Some (final_at p n)) e here

    from : (q : ℕ) (b : Bool) → (q ≡ key) ⊎ ¬ (q ≡ key)
        → get_or (set known key (Some (final_at p i))) q None ≡ Some b → (j : ℕ) × (j < i + 1)
        × ((pair_at p j).1 ≡ q) × (final_at p j ≡ b)
    from q b (inl e) f =
        let g : Some (final_at p i) ≡ Some b =
        sym here
        ∙ (ap (λ (n : ℕ). get_or (set known key (Some (final_at p i))) n None) (sym e) ∙ f) in
        (i, omega arith, sym e, cc)
    from q b (inr n) f =
        let (j, l, e, g) =
        h.from q b (sym (get_or-set_other known key q (Some (final_at p i)) None n) ∙ f) in
        (j, omega arith, e, g)

-- two pairs with one key are told apart
pub not_fixed : (p : Pairs) (i : ℕ) (known : List (Option Bool)) → i < length p.seen
    → IsKnown p i known → get_or known (pair_at p i).1 None ≡ Some (not (final_at p i))
    → ¬ AreFixedByKeys p
not_fixed p i known l h e f =
    let (j, m, g, d) = h.from (pair_at p i).1 (not (final_at p i)) e in
    other (final_at p i) (sym d ∙ f.fixed j i (omega arith) l g)

-- after the last pair
pub all_fixed : (p : Pairs) (i : ℕ) (known : List (Option Bool)) → i ≡ length p.seen
    → IsKnown p i known → AreFixedByKeys p
all_fixed p i known e h = record {
  fixed = λ a b la lb f.
      let g : Some (final_at p a) ≡ Some (final_at p b) = sym (h.each a (omega arith))
      ∙ (ap (λ (q : ℕ). get_or known q None) f ∙ h.each b (omega arith)) in
      cc;
}

-- ---- pairs and words

module _ (k : ℕ) (L : List ℕ → Type 0) (same : List ℕ → List ℕ → Type 0) (p : Pairs)
    (words : List (List ℕ)) (m : IsMinimal k L p.dfa) (g : IsGraphOf k same p.keys words) where
  -- words have one pair exactly where they are in one Nerode class and have the same key
  pub pair_is_class : Agree k (SamePair k L same) (IsOnePair p)
  pair_is_class = record {
    both = λ u v ou ov. (
      λ h. let e = (m.classes.nodes.both u v ou ov).1 h.0 in let f =
          (g.nodes.both u v ou ov).1 h.1 in λ i. (e i, f i),
      λ e. (
        (m.classes.nodes.both u v ou ov).0 (ap (λ (s : ℕ × ℕ). s.0) e),
        (g.nodes.both u v ou ov).0 (ap (λ (s : ℕ × ℕ). s.1) e),
      ),
    );
  }

  module _ (letters : p.dfa.graph.letters ≡ k) (h : ArePairs p)
      (all : (w : List ℕ) → Over k w → (n : ℕ) × (number_of p w ≡ Some n) × (n < length p.seen))
    where
      -- whether the pair of a word is recognized
      final_of : (w : List ℕ) (n : ℕ) → Over k w → number_of p w ≡ Some n → IsTrue (final_at p n)
          ↔ L w
      final_of w n o e = subst (λ (s : ℕ × ℕ). IsTrue (is_marked p.dfa.finals s.0) ↔ L w)
          (pair_at_number p w n e) (m.final w o)

      -- keys fix what is recognized exactly where the level suffices
      pub fixed_suffices : AreFixedByKeys p ↔ Suffices k L same
      fixed_suffices = (to, from)
        where
          to : AreFixedByKeys p → Suffices k L same
          to f = record { alike = alike }
            where
              alike : (u v : List ℕ) → Over k u → Over k v → same u v → L u ↔ L v
              alike u v ou ov s =
                  let (a, e, la) = all u ou in
                  let (b, d, lb) = all v ov in
                  let keys : (pair_at p a).1 ≡ (pair_at p b).1 =
                  ap (λ (t : ℕ × ℕ). t.1) (sym (pair_at_number p u a e))
                  ∙ ((g.nodes.both u v ou ov).1 s
                  ∙ ap (λ (t : ℕ × ℕ). t.1) (pair_at_number p v b d)) in
                  both_directions (other_direction (final_of u a ou e))
                  (subst (λ (c : Bool). IsTrue c ↔ L v) (sym (f.fixed a b la lb keys))
                  (final_of v b ov d))

          word_of : (n : ℕ) → n < length p.seen → (w : List ℕ) × Over k w × (number_of p w ≡ Some n)
          word_of n l = let (w, o, e) = h.seen.reached n l in
              (w, subst (λ (c : ℕ). Over c w) letters o, e)

          from : Suffices k L same → AreFixedByKeys p
          from s = record { fixed = fixed }
            where
              fixed : (i j : ℕ) → i < length p.seen → j < length p.seen → (pair_at p i).1
                  ≡ (pair_at p j).1 → final_at p i ≡ final_at p j
              fixed i j li lj f =
                  let (u, ou, e) = word_of i li in
                  let (v, ov, d) = word_of j lj in
                  let keys : node p.keys u ≡ node p.keys v =
                  ap (λ (t : ℕ × ℕ). t.1) (pair_at_number p u i e)
                  ∙ (f ∙ ap (λ (t : ℕ × ℕ). t.1) (sym (pair_at_number p v j d))) in
                  let l = s.alike u v ou ov ((g.nodes.both u v ou ov).0 keys) in
                  let a = final_of u i ou e in
                  let b = final_of v j ov d in
                  both_ways (final_at p i) (final_at p j) (λ t. b.1 (l.0 (a.0 t)))
                  (λ t. a.1 (l.1 (b.0 t)))

-- there are at least as many pairs as keys
pub more_pairs_than_keys : (k : ℕ) (L : List ℕ → Type 0) (same : List ℕ → List ℕ → Type 0)
    (most : ℕ) → HasMoreClasses k same most → HasMoreClasses k (SamePair k L same) most
more_pairs_than_keys k L same most (words, many, apart) =
    (words, many, record { over = apart.over; apart = λ i j h l s. apart.apart i j h l s.1 })

-- ---- the test of what is known

test_holds : (b c : Bool) → beq b c ≡ true → b ≡ c
test_holds true true e = refl
test_holds true false e = cc
test_holds false true e = cc
test_holds false false e = refl

test_fails : (b c : Bool) → beq b c ≡ false → ¬ (b ≡ c)
test_fails true true e f = cc
test_fails true false e f = cc
test_fails false true e f = cc
test_fails false false e f = cc

pub known_holds : (x : Option Bool) (b : Bool) → option_eq beq x (Some b) ≡ true → x ≡ Some b
known_holds None b e = cc
known_holds (Some a) b e = ap (λ (c : Bool). Some c) (test_holds a b e)

pub known_fails : (x : Option Bool) (b : Bool) → option_eq beq x (Some b) ≡ false → ¬ (x ≡ Some b)
known_fails None b e f = cc
known_fails (Some a) b e f = test_fails a b e (cc)

-- what a program reads of the key of a pair
pub known_of_pair : (p : Pairs) (n : ℕ) (s : ℕ × ℕ) (known : List (Option Bool)) (x : Option Bool)
    → IsKnown p n known → s ≡ pair_at p n → s.1 < p.keys.size → x ≡ get_or known s.1 x → x
    ≡ get_or known (pair_at p n).1 None
known_of_pair p n s known x h e l read =
    read ∙ (get_or_default known s.1 x None (rw h.long l)
    ∙ ap (λ (t : ℕ × ℕ). get_or known t.1 None) e)
