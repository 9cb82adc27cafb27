-- Moore's rounds: they keep together what no word tells apart, and end with the coarsest partition.
use Rattle.std.proofs.Common.{◌≡◌, ◌≢◌, ℕ, ◌*◌, ◌-◌, ◌<◌, ◌≤◌, ◌⊎◌, inl, inr, Bool, true, false, cond, List, [], ◌∷◌, length, map, refl, ap, sym, subst, ◌∙◌, arith, zero-add}
use Rattle.std.specs.Prelude.{slice_index}
use Rattle.std.specs.List.{range_with_len}
use Rattle.std.proofs.lemmas.Bool.{cases_lt}
use Rattle.std.proofs.lemmas.List.FromFn.{length-map-range_with_len, get_or-map-range_with_len, fill_by_all}
use Rattle.language_theory.specs.Words.{Over}
use Rattle.language_theory.specs.Automaton.{is_marked}
use Rattle.language_theory.specs.ShortlexGraph.{Graph, IsGraph, IsNumbering, IsCoarsest, target, walk}
use Rattle.language_theory.proofs.Shortlex.{strong_induction}
use Rattle.language_theory.proofs.Graphs.{target_within}
use Rattle.language_theory.proofs.Numbers.{equal_or_not, least_or_none}
use Rattle.refinement.specs.Splitting.{Respects}
use Rattle.refinement.specs.Refinement.{Classes, signature, IsSplit, KeepsAlike}
use Rattle.refinement.proofs.Totals.{total, total_lt, total_bound}

abbrev number_of_mark : Bool → ℕ
number_of_mark b = cond b 1 0

mark_from_number : (b c : Bool) → number_of_mark b ≡ number_of_mark c → b ≡ c
mark_from_number true true e = refl
mark_from_number true false e = absurd (omega arith)
mark_from_number false true e = absurd (omega arith)
mark_from_number false false e = refl

-- two nodes have the same mark and the same class, and so have their targets
pub record LooksAlike (g : Graph) (marks : List Bool) (classes : List ℕ) (i j : ℕ) : Type 0 where
  pub mark : is_marked marks i ≡ is_marked marks j
  pub class : slice_index classes i ≡ slice_index classes j
  pub targets : (a : ℕ) → a < g.letters
      → slice_index classes (target g i a) ≡ slice_index classes (target g j a)

module _ (g : Graph) (marks : List Bool) (classes : List ℕ) (i j : ℕ) where
  abbrev target_class : ℕ → ℕ → ℕ
  target_class n a = slice_index classes (target g n a)

  at : (n a : ℕ) → a < g.letters
      → slice_index (map (target_class n) (range_with_len 0 g.letters)) a ≡ target_class n a
  at n a ha = get_or-map-range_with_len (target_class n) 0 g.letters a a 0 ha (zero-add a)

  pub looks_from_signature : signature g marks classes i ≡ signature g marks classes j
      → LooksAlike g marks classes i j
  looks_from_signature e = record {
    mark = mark_from_number (is_marked marks i) (is_marked marks j) (cc e);
    class = cc e;
    targets = λ a ha.
        let rest : map (target_class i) (range_with_len 0 g.letters)
        ≡ map (target_class j) (range_with_len 0 g.letters) = cc e in
        sym (at i a ha) ∙ ap (λ (xs : List ℕ). slice_index xs a) rest ∙ at j a ha;
  }

  pub signature_from_looks : LooksAlike g marks classes i j
      → signature g marks classes i ≡ signature g marks classes j
  signature_from_looks h =
      let rest : map (target_class i) (range_with_len 0 g.letters)
      ≡ map (target_class j) (range_with_len 0 g.letters) =
      fill_by_all (target_class j) (map (target_class i) (range_with_len 0 g.letters)) g.letters 0
      (length-map-range_with_len (target_class i) 0 g.letters)
      (λ a ha. at i a ha ∙ h.targets a ha) in
      let first : number_of_mark (is_marked marks i) ≡ number_of_mark (is_marked marks j) =
      ap number_of_mark h.mark in
      cc (first, h.class, rest)

-- classes that are told apart by a word alone keep alike nodes together
pub keeping_respects : (g : Graph) (marks : List Bool) (p : Classes) → KeepsAlike g marks p
    → Respects g marks p.classes
keeping_respects g marks p h = record { alike = h.alike }

module _ (g : Graph) (marks : List Bool) (graph : IsGraph g) where
  -- a round keeps together what no word tells apart
  pub split_keeps : (old : List ℕ) (new : Classes) → Respects g marks old → IsSplit g marks old new
      → KeepsAlike g marks new
  split_keeps old new h s = record {
    long = s.long;
    few = s.few;
    numbering = s.numbering;
    alike = λ i j hi hj same. (s.split i j hi hj).1 (signature_from_looks g marks old i j (record {
      mark = same [] tt;
      class = h.alike i j hi hj same;
      targets = λ a ha.
          h.alike (target g i a) (target g j a) (target_within g i a graph hi ha)
          (target_within g j a graph hj ha)
          (λ w o. same (a ∷ w) (ha, o));
    }));
  }

  -- a round that splits nothing ends it
  pub split_ends : (old new : Classes) → KeepsAlike g marks old → IsSplit g marks old.classes new
      → new.classes ≡ old.classes → IsCoarsest g marks new.count new.classes
  split_ends old new h s e = record {
    partition = record { long = s.long; numbering = s.numbering; kept = kept };
    alike = λ i j hi hj. (
      λ same w o. marked w i j hi hj same o,
      (split_keeps old.classes new (keeping_respects g marks old h) s).alike i j hi hj,
    );
  }
    where
      looks : (i j : ℕ) → i < g.size → j < g.size
          → slice_index new.classes i ≡ slice_index new.classes j
          → LooksAlike g marks new.classes i j
      looks i j hi hj same = subst (λ (c : List ℕ). LooksAlike g marks c i j) (sym e)
          (looks_from_signature g marks old.classes i j ((s.split i j hi hj).0 same))

      kept : (i j a : ℕ) → i < g.size → j < g.size → a < g.letters
          → slice_index new.classes i ≡ slice_index new.classes j
          → slice_index new.classes (target g i a) ≡ slice_index new.classes (target g j a)
      kept i j a hi hj ha same = (looks i j hi hj same).targets a ha

      marked : (w : List ℕ) (i j : ℕ) → i < g.size → j < g.size
          → slice_index new.classes i ≡ slice_index new.classes j → Over g.letters w
          → is_marked marks (walk g i w) ≡ is_marked marks (walk g j w)
      marked [] i j hi hj same o = (looks i j hi hj same).mark
      marked (a ∷ w) i j hi hj same o = marked w (target g i a) (target g j a)
          (target_within g i a graph hi o.0) (target_within g j a graph hj o.0)
          (kept i j a hi hj o.0 same) o.1

-- a finer partition, numbered by first occurrence, has nowhere a smaller number
pub finer_is_greater : (m n : ℕ) (xs ys : List ℕ) → IsNumbering m xs → IsNumbering n ys
    → length ys ≡ length xs → ((i j : ℕ) → i < length xs → j < length xs
    → slice_index ys i ≡ slice_index ys j → slice_index xs i ≡ slice_index xs j) → (i : ℕ)
    → i < length xs → slice_index xs i ≤ slice_index ys i
finer_is_greater m n xs ys hx hy long finer =
    strong_induction (λ i. i < length xs → slice_index xs i ≤ slice_index ys i) step
  where
    earlier : (i : ℕ) → ((l : ℕ) → l < i → l < length xs → slice_index xs l ≤ slice_index ys l)
        → i < length xs → (l : ℕ) → l < i → slice_index ys l ≡ slice_index ys i
        → slice_index xs i ≤ slice_index ys i
    earlier i before hi l hl e =
        let same : slice_index xs l ≡ slice_index xs i = finer l i (omega arith) hi e in
        omega (arith, before l hl (omega arith), same, e)

    first : (i : ℕ) → ((l : ℕ) → l < i → l < length xs → slice_index xs l ≤ slice_index ys l)
        → i < length xs → ((l : ℕ) → l < i → ¬ (slice_index ys l ≡ slice_index ys i))
        → (slice_index ys i < slice_index xs i) ⊎ (slice_index xs i ≤ slice_index ys i)
        → slice_index xs i ≤ slice_index ys i
    first i before hi none (inr l) = l
    first i before hi none (inl l) =
        let (p, hp, e) = hx.order i (slice_index ys i) hi l in
        let at : slice_index xs p ≤ slice_index ys p = before p hp (omega arith) in
        let other : ¬ (slice_index ys p ≡ slice_index ys i) = none p hp in
        let above : slice_index ys i < slice_index ys p = omega arith in
        let (q, hq, f) = hy.order p (slice_index ys i) (omega arith) above in
        absurd (none q (omega arith) f)

    step : (i : ℕ) → ((l : ℕ) → l < i → l < length xs → slice_index xs l ≤ slice_index ys l)
        → i < length xs → slice_index xs i ≤ slice_index ys i
    step i before hi = elim (least_or_none (λ l. slice_index ys l ≡ slice_index ys i)
        (λ l. equal_or_not (slice_index ys l) (slice_index ys i)) i) [
          | inl l ↦ earlier i before hi l.0 l.1 l.2
          | inr none ↦ first i before hi none (cases_lt (slice_index ys i) (slice_index xs i))
        ]

-- what is left to split, at most
abbrev pub unsplit : Graph → Classes → ℕ
unsplit g p = g.size * g.size - total p.classes

-- a round that splits something leaves less
pub split_is_less : (g : Graph) (marks : List Bool) (old new : Classes) → KeepsAlike g marks old
    → IsSplit g marks old.classes new → new.classes ≢ old.classes → unsplit g new < unsplit g old
split_is_less g marks old new h s n =
    let long : length new.classes ≡ length old.classes = s.long ∙ sym h.long in
    let greater = finer_is_greater old.count new.count old.classes new.classes h.numbering
    s.numbering long
    (λ i j hi hj e. (looks_from_signature g marks old.classes i j
    ((s.split i j (omega (arith, h.long)) (omega (arith, h.long))).0 e)).class) in
    let less : total old.classes < total new.classes =
    total_lt old.classes new.classes (sym long) greater (λ e. n (sym e)) in
    let most : total new.classes ≤ length new.classes * g.size =
    total_bound new.classes g.size (λ i hi. omega (arith, s.numbering.within i hi, s.few)) in
    let bound : total new.classes ≤ g.size * g.size =
    subst (λ (m : ℕ). total new.classes ≤ m * g.size) s.long most in
    omega arith
