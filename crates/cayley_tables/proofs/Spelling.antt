-- Links spell the words that they link.
use Rattle.std.proofs.Common.{◌≡◌, ℕ, suc, ◌+◌, ◌<◌, ◌≤◌, ◌⊎◌, inl, inr, List, [], ◌∷◌, ◌++◌, length, ap, sym, subst, ◌∙◌, arith, length-append}
use Rattle.std.specs.Prelude.{slice_index}
use Rattle.std.proofs.lemmas.Bool.{cases_lt}
use Rattle.std.proofs.lemmas.List.{ext_get_or, get_or_append_left, get_or_push}
use Rattle.language_theory.specs.Words.{word_at}
use Rattle.cayley_tables.specs.Links.{LinkLists, AreLinks, spelled, spelled_behind}

-- the list has the first words of another one
record IsFront (front words : List (List ℕ)) : Type 0 where
  few : length front ≤ length words
  each : (i : ℕ) → i < length front → word_at front i ≡ word_at words i

-- prefixes and last letters of the words behind the first n
record AreBehind (words : List (List ℕ)) (n : ℕ) (prefix last : List ℕ) : Type 0 where
  long : n + length prefix ≡ length words
  lasts : length last ≡ length prefix
  splits : (i : ℕ) → i < length prefix
      → word_at words (n + i) ≡ word_at words (slice_index prefix i) ++ slice_index last i ∷ []
  earlier : (i : ℕ) → i < length prefix → slice_index prefix i < n + i

front_is_all : (front words : List (List ℕ)) → IsFront front words → length front ≡ length words
    → front ≡ words
front_is_all front words h e = ext_get_or [] front words e h.each

front_push : (front words : List (List ℕ)) (w : List ℕ) → IsFront front words
    → length front < length words → w ≡ word_at words (length front)
    → IsFront (front ++ w ∷ []) words
front_push front words w h l e =
    record {
      few = omega (arith, longer);
      each =
          λ i hi. by i
          (elim (cases_lt i (length front))
          [ inl o ↦ inl o | inr o ↦ inr (omega (arith, longer)) ]);
    }
  where
    longer : length (front ++ w ∷ []) ≡ length front + 1
    longer = simp length-append

    by : (i : ℕ) → (i < length front) ⊎ (length front ≡ i)
        → word_at (front ++ w ∷ []) i ≡ word_at words i
    by i (inl o) = get_or_append_left front (w ∷ []) [] i o ∙ h.each i o
    by i (inr o) = get_or_push front w [] i o ∙ e ∙ ap (word_at words) o

behind_tail : (words : List (List ℕ)) (n p a : ℕ) (prefix last : List ℕ)
    → AreBehind words n (p ∷ prefix) (a ∷ last) → AreBehind words (n + 1) prefix last
behind_tail words n p a prefix last h = record {
  long = let e = h.long in omega arith;
  lasts = let e = h.lasts in omega arith;
  splits = λ i hi. subst
      (λ (j : ℕ). word_at words j ≡ word_at words (slice_index prefix i) ++ slice_index last i ∷ [])
      (omega arith) (h.splits (suc i) (omega arith));
  earlier = λ i hi. let e = h.earlier (suc i) (omega arith) in omega arith;
}

behind_is_spelled : (front words : List (List ℕ)) (prefix last : List ℕ) → IsFront front words
    → AreBehind words (length front) prefix last → spelled_behind front prefix last ≡ words
behind_is_spelled front words [] last f h =
    front_is_all front words f (let e = h.long in omega arith)
behind_is_spelled front words (p ∷ prefix) [] f h = absurd (let e = h.lasts in omega arith)
behind_is_spelled front words (p ∷ prefix) (a ∷ last) f h =
    behind_is_spelled (front ++ next ∷ []) words prefix last pushed
    (subst (λ (n : ℕ). AreBehind words n prefix last) (sym longer)
    (behind_tail words (length front) p a prefix last h))
  where
    next : List ℕ
    next = word_at front p ++ a ∷ []

    longer : length (front ++ next ∷ []) ≡ length front + 1
    longer = simp length-append

    inside : p < length front
    inside = let e = h.earlier 0 (omega arith) in omega arith

    is_next : next ≡ word_at words (length front)
    is_next = ap (λ (w : List ℕ). w ++ a ∷ []) (f.each p inside)
        ∙ sym (subst (λ (j : ℕ). word_at words j ≡ word_at words p ++ a ∷ []) (omega arith)
        (h.splits 0 (omega arith)))

    pushed : IsFront (front ++ next ∷ []) words
    pushed = front_push front words next f (let e = h.long in omega arith) is_next

-- the links of all words spell them
pub links_spell : (k : ℕ) (words : List (List ℕ)) (l : LinkLists)
    → AreLinks k words (length words) l → spelled l.prefix l.last ≡ words
links_spell k words l h =
    by l.prefix l.last h.prefixes h.lasts (λ i z m. (h.prefix i z m).splits) h.earlier
  where
    by : (prefix last : List ℕ) → length prefix ≡ length words → length last ≡ length words
        → ((i : ℕ) → 0 < i → i < length words
        → word_at words i ≡ word_at words (slice_index prefix i) ++ slice_index last i ∷ [])
        → ((i : ℕ) → 0 < i → i < length words → slice_index prefix i < i)
        → spelled prefix last ≡ words
    by [] last e f splits earlier = absurd (let s = h.some in omega arith)
    by (p ∷ prefix) [] e f splits earlier = absurd (let s = h.some in omega arith)
    by (p ∷ prefix) (a ∷ last) e f splits earlier =
        behind_is_spelled ([] ∷ []) words prefix last
        (record {
          few = h.some;
          each =
              λ i hi. subst (λ (j : ℕ). word_at ([] ∷ []) j ≡ word_at words j) (omega arith)
              (sym h.root);
        }) (record {
          long = omega arith;
          lasts = omega arith;
          splits = λ i hi. subst
              (λ (j : ℕ). word_at words j
              ≡ word_at words (slice_index prefix i) ++ slice_index last i ∷ []) (omega arith)
              (splits (suc i) (omega arith) (omega arith));
          earlier = λ i hi. let g = earlier (suc i) (omega arith) (omega arith) in omega arith;
        })
