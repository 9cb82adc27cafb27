-- The links and the left graph when one more element is found.
use Rattle.std.proofs.Common.{◌≡◌, ℕ, ◌+◌, ◌*◌, ◌<◌, ◌≤◌, ◌⊎◌, inl, inr, List, [], ◌∷◌, ◌++◌, Option, length, refl, ap, sym, ◌∙◌, arith, length-append}
use Rattle.std.specs.Prelude.{slice_index}
use Rattle.std.proofs.lemmas.Bool.{cases_lt}
use Rattle.std.proofs.lemmas.List.{get_or_append_left, get_or_push}
use Rattle.language_theory.specs.Words.{Over, word_at}
use Rattle.exploration.specs.States.{AreKept}
use Rattle.exploration.proofs.Places.{row_within}
use Rattle.cayley_tables.specs.Links.{LinkLists, AreLinks, with_link}
use Rattle.cayley_tables.specs.LeftRows.{AreLeftNumbers}
use Rattle.cayley_tables.proofs.Linking.{links_more}

module _ (words : List (List ℕ)) (x : List ℕ) where
  abbrev All : List (List ℕ)
  All = words ++ x ∷ []

  pub longer_list : length (words ++ x ∷ []) ≡ length words + 1
  longer_list = simp length-append

  pub old_word : (i : ℕ) → i < length words → word_at (words ++ x ∷ []) i ≡ word_at words i
  old_word i h = get_or_append_left words (x ∷ []) [] i h

  pub new_word : (i : ℕ) → length words ≡ i → word_at (words ++ x ∷ []) i ≡ x
  new_word i e = get_or_push words x [] i e

  pub old_or_new : (i : ℕ) → i < length words + 1 → (i < length words) ⊎ (length words ≡ i)
  old_or_new i h = elim (cases_lt i (length words)) [ inl o ↦ inl o | inr o ↦ inr (omega arith) ]

  within : (i : ℕ) → i < length words → i < length (words ++ x ∷ [])
  within i h = let e = longer_list in omega arith

  -- the links of the words that were there
  links_kept : (k : ℕ) (l : LinkLists) → AreLinks k words (length words) l
      → AreLinks k (words ++ x ∷ []) (length words) l
  links_kept k l h = record {
    some = h.some;
    root = old_word 0 h.some ∙ h.root;
    prefixes = h.prefixes;
    lasts = h.lasts;
    suffixes = h.suffixes;
    firsts = h.firsts;
    prefix = λ i z m. let f = h.prefix i z m in record {
      whole = within i m;
      prefix = within (slice_index l.prefix i) f.prefix;
      splits = old_word i m ∙ f.splits
          ∙ ap (λ (w : List ℕ). w ++ slice_index l.last i ∷ [])
          (sym (old_word (slice_index l.prefix i) f.prefix));
    };
    earlier = h.earlier;
    last = h.last;
    suffix = λ i z m. let f = h.suffix i z m in record {
      whole = within i m;
      suffix = within (slice_index l.suffix i) f.suffix;
      splits = old_word i m ∙ f.splits
          ∙ ap (λ (w : List ℕ). slice_index l.first i ∷ w)
          (sym (old_word (slice_index l.suffix i) f.suffix));
    };
    shorter = h.shorter;
    first = h.first;
  }

  -- the links with those of the new element
  pub links_push : (k : ℕ) (l : LinkLists) (p a s b : ℕ) → AreLinks k words (length words) l
      → p < length words → a < k → s < length words → b < k → x ≡ word_at words p ++ a ∷ []
      → x ≡ b ∷ word_at words s
      → AreLinks k (words ++ x ∷ []) (length words + 1) (with_link l p a s b)
  links_push k l p a s b h hp ha hs hb front back =
      let last : length words < length (words ++ x ∷ []) = (let e = longer_list in omega arith) in
      let new = new_word (length words) refl in
      links_more k (words ++ x ∷ []) (length words) l p a s b (links_kept k l h)
      (record {
        whole = last;
        prefix = within p hp;
        splits = new ∙ front ∙ ap (λ (w : List ℕ). w ++ a ∷ []) (sym (old_word p hp));
      }) hp ha
      (record {
        whole = last;
        suffix = within s hs;
        splits = new ∙ back ∙ ap (λ (w : List ℕ). b ∷ w) (sym (old_word s hs));
      }) hs hb

  -- the left graph, as far as it is known, is the same with one more element
  pub left_grows : (k : ℕ) (old new : List ℕ → Option ℕ) (left : List ℕ) → AreKept k old new
      → ((i : ℕ) → i < length words → Over k (word_at words i)) → length left ≤ length words * k
      → AreLeftNumbers k old words left → AreLeftNumbers k new (words ++ x ∷ []) left
  left_grows k old new left kept over few f = record {
    within = λ i a ha p. let e = longer_list in let g = f.within i a ha p in omega arith;
    leads = λ i a ha p. let m = inside i a p in
        ap (λ (w : List ℕ). new (a ∷ w)) (old_word i m)
        ∙ kept.kept (a ∷ word_at words i) (slice_index left (i * k + a)) (ha, over i m)
        (f.leads i a ha p);
    least = λ i a ha p. let m = inside i a p in
        rw (old_word i m, old_word (slice_index left (i * k + a)) (f.within i a ha p))
        (f.least i a ha p);
  }
    where
      inside : (i a : ℕ) → i * k + a < length left → i < length words
      inside i a p = row_within i a k (length words) (omega arith)

-- the same left graph for other numbers of the same words
pub left_kept : (k : ℕ) (old new : List ℕ → Option ℕ) (words : List (List ℕ)) (left : List ℕ)
    → AreKept k old new → ((i : ℕ) → i < length words → Over k (word_at words i))
    → length left ≤ length words * k → AreLeftNumbers k old words left
    → AreLeftNumbers k new words left
left_kept k old new words left kept over few f = record {
  within = f.within;
  leads = λ i a ha p. kept.kept (a ∷ word_at words i) (slice_index left (i * k + a))
      (ha, over i (row_within i a k (length words) (omega arith))) (f.leads i a ha p);
  least = f.least;
}
