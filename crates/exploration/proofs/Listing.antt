-- Along the targets of a shortlex graph its nodes occur in order, each for the first time behind
-- its least word without its last letter.
use Rattle.std.proofs.Common.{◌≡◌, ◌≢◌, ℕ, ◌+◌, ◌*◌, ◌<◌, ◌≤◌, ◌⊎◌, inl, inr, List, [], ◌∷◌, ◌++◌, length, refl, ap, sym, subst, ◌∙◌, arith, length-append}
use Rattle.std.proofs.lemmas.Bool.{cases_lt}
use Rattle.std.proofs.lemmas.Nat.{same_from_place}
use Rattle.std.proofs.lemmas.List.{get_or_append_left, get_or_push}
use Rattle.language_theory.specs.Words.{Over, ◌⊏◌, word_at}
use Rattle.language_theory.specs.ShortlexGraph.{Graph, IsShortlex, target, node}
use Rattle.language_theory.proofs.Shortlex.{last_letter, over_last, over_prefix, over_suffix, shortlex_irrefl, shortlex_asymm, shortlex_append_longer, shortlex_append_letters, shortlex_append_last, shortlex_then_not_greater}
use Rattle.language_theory.proofs.Graphs.{walk_append, node_within, node_word_over, node_word_least, node_word_prefix, root_word, row_place, target_within}
use Rattle.std.proofs.lemmas.List.{ext_get_or}
use Rattle.exploration.specs.Listing.{IsListing}
use Rattle.exploration.proofs.Places.{place_order}

-- node m's word is that of node p with the letter a behind it, which leads there
pub record IsLink (g : Graph) (words : List (List ℕ)) (m p a : ℕ) : Type 0 where
  pub letter : a < g.letters
  pub earlier : p < m
  pub leads : target g p a ≡ m
  pub longer : word_at words m ≡ word_at words p ++ a ∷ []

module _ (g : Graph) (words : List (List ℕ)) (s : IsShortlex g words) where
  rise : (i j : ℕ) → i < j → j < g.size → word_at words i ⊏ word_at words j
  rise i j h l = s.least.rise i j h (omega (arith, s.long))

  -- nodes are in the order of their words
  earlier_node : (p m : ℕ) → p < g.size → m < g.size → word_at words p ⊏ word_at words m → p < m
  earlier_node p m hp hm l = by (cases_lt p m) (cases_lt m p)
    where
      by : (p < m) ⊎ (m ≤ p) → (m < p) ⊎ (p ≤ m) → p < m
      by (inl h) _ = h
      by (inr h) (inl i) =
          absurd (shortlex_asymm (word_at words p) (word_at words m) l (rise m p i hp))
      by (inr h) (inr i) = let e : m ≡ p = omega arith in
          absurd (shortlex_irrefl (word_at words p)
          (subst (λ (n : ℕ). word_at words p ⊏ word_at words n) e l))

  pub link_of : (m : ℕ) → 0 < m → m < g.size → (p : ℕ) × (a : ℕ) × IsLink g words m p a
  link_of m pos hm = elim (last_letter (word_at words m)) [
    | inl e ↦ absurd
        (shortlex_irrefl [] (subst (λ (w : List ℕ). w ⊏ []) (root_word g words s)
        (subst (λ (w : List ℕ). word_at words 0 ⊏ w) e (rise 0 m pos hm))))
    | inr (u, a, e) ↦ (node g u, a, link u a e)
  ]
    where
      link : (u : List ℕ) (a : ℕ) → word_at words m ≡ u ++ a ∷ [] → IsLink g words m (node g u) a
      link u a e =
          let prefix : word_at words (node g u) ≡ u =
          node_word_prefix g words s m u (a ∷ []) hm e in
          let o : Over g.letters (u ++ a ∷ []) =
          subst (Over g.letters) e (node_word_over g words s m hm) in
          let leads : target g (node g u) a ≡ m = sym (walk_append g 0 u (a ∷ []))
          ∙ ap (node g) (sym e) ∙ s.leads m hm in
          let longer : word_at words m ≡ word_at words (node g u) ++ a ∷ [] = e
          ∙ ap (λ (w : List ℕ). w ++ a ∷ []) (sym prefix) in
          let grows : word_at words (node g u) ⊏ word_at words m =
          subst (λ (w : List ℕ). word_at words (node g u) ⊏ w) (sym longer)
          (shortlex_append_longer (word_at words (node g u)) a) in
          let within : node g u < g.size =
          node_within g u s.graph (over_prefix g.letters u (a ∷ []) o) in
          record {
            letter = (over_suffix g.letters u (a ∷ []) o).0;
            earlier = earlier_node (node g u) m within hm grows;
            leads = leads;
            longer = longer;
          }

  -- no target has a greater word than the one that leads to it
  pub target_word_least : (q b : ℕ) → q < g.size → b < g.letters
      → ¬ ((word_at words q ++ b ∷ []) ⊏ word_at words (target g q b))
  target_word_least q b hq hb =
      let o = over_last g.letters (word_at words q) b (node_word_over g words s q hq) hb in
      let e : node g (word_at words q ++ b ∷ []) ≡ target g q b =
      walk_append g 0 (word_at words q) (b ∷ [])
      ∙ ap (λ (n : ℕ). target g n b) (s.leads q hq) in
      subst (λ (t : ℕ). ¬ ((word_at words q ++ b ∷ []) ⊏ word_at words t)) e
      (node_word_least g words s (word_at words q ++ b ∷ []) o)

  -- of two places the word that leads from the earlier one is smaller
  pub place_word : (q b p a : ℕ) → a < g.letters → p < g.size
      → q * g.letters + b < p * g.letters + a
      → (word_at words q ++ b ∷ []) ⊏ (word_at words p ++ a ∷ [])
  place_word q b p a ha hp h = by (place_order q b p a g.letters ha h)
    where
      by : (q < p) ⊎ ((q ≡ p) × (b < a)) → (word_at words q ++ b ∷ []) ⊏ (word_at words p ++ a ∷ [])
      by (inl l) = shortlex_append_letters (word_at words q) (word_at words p) b a (rise q p l hp)
      by (inr l) = subst (λ (n : ℕ). (word_at words q ++ b ∷ []) ⊏ (word_at words n ++ a ∷ [])) l.0
          (shortlex_append_last (word_at words q) b a l.1)

module _ (g : Graph) (n : ℕ) (found : List (List ℕ)) (h : IsListing g n found) where
  -- the next node's link is at a place that was not handled
  next_link : (m : ℕ) → length found ≡ m → m < g.size
      → (p : ℕ) × (a : ℕ) × IsLink g h.words m p a × (n ≤ p * g.letters + a)
  next_link m e hm =
      let (p, a, l) = link_of g h.words h.shortlex m (omega (arith, h.some)) hm in (
        p,
        a,
        l,
        elim (cases_lt (p * g.letters + a) n) [
          | inl before ↦ absurd (omega (arith, h.handled p a l.letter before, l.leads))
          | inr after ↦ after
        ],
      )

  -- where a row is begun, its node has a word
  pub row_has_word : (q : ℕ) → n ≡ q * g.letters → q < g.size → q < length found
  row_has_word q e hq = elim (cases_lt q (length found)) [
    | inl l ↦ l
    | inr l ↦ (let (p, a, link, after) = next_link (length found) refl (omega arith) in
        absurd (omega (arith, row_place p a q g.letters (omega (arith, link.earlier)) link.letter)))
  ]

  module _ (q b : ℕ) (place : n ≡ q * g.letters + b) (hq : q < g.size) (hb : b < g.letters) where
    -- a target is a node that was found, or the next
    pub target_not_beyond : target g q b ≤ length found
    target_not_beyond = by (cases_lt (length found) (target g q b))
      where
        same_or_later : (p a : ℕ) → a < g.letters → p < g.size
            → q * g.letters + b ≤ p * g.letters + a
            → ¬ ((word_at h.words p ++ a ∷ []) ⊏ (word_at h.words q ++ b ∷ []))
        same_or_later p a ha hp l less = elim (cases_lt (q * g.letters + b) (p * g.letters + a)) [
          | inl m ↦ shortlex_asymm (word_at h.words q ++ b ∷ []) (word_at h.words p ++ a ∷ [])
              (place_word g h.words h.shortlex q b p a ha hp m) less
          | inr m ↦ (let (eq, eb) = same_from_place p a q b g.letters ha hb (omega arith) in
              shortlex_irrefl (word_at h.words q ++ b ∷ [])
              (subst (λ (c : ℕ). (word_at h.words q ++ c ∷ []) ⊏ (word_at h.words q ++ b ∷ []))
              eb (subst (λ (c : ℕ). (word_at h.words c ++ a ∷ [])
              ⊏ (word_at h.words q ++ b ∷ [])) eq less)))
        ]

        by : (length found < target g q b) ⊎ (target g q b ≤ length found)
            → target g q b ≤ length found
        by (inr l) = l
        by (inl l) =
            let ht : target g q b < g.size = target_within g q b h.shortlex.graph hq hb in
            let (p, a, link, after) = next_link (length found) refl (omega arith) in
            let below : word_at h.words (length found) ⊏ word_at h.words (target g q b) =
            h.shortlex.least.rise (length found) (target g q b) l
            (omega (arith, h.shortlex.long)) in
            let less : (word_at h.words p ++ a ∷ []) ⊏ (word_at h.words q ++ b ∷ []) =
            subst (λ (w : List ℕ). w ⊏ (word_at h.words q ++ b ∷ [])) link.longer
            (shortlex_then_not_greater (word_at h.words (length found))
            (word_at h.words (target g q b)) (word_at h.words q ++ b ∷ []) below
            (target_word_least g h.words h.shortlex q b hq hb)) in
            absurd (same_or_later p a link.letter (omega (arith, link.earlier))
            (omega (arith, after, place)) less)

    -- the next node's word is the one that leads there
    pub next_word : target g q b ≡ length found
        → word_at h.words (length found) ≡ word_at h.words q ++ b ∷ []
    next_word e =
        let ht : target g q b < g.size = target_within g q b h.shortlex.graph hq hb in
        let (p, a, link, after) = next_link (length found) refl (omega arith) in
        elim (cases_lt (q * g.letters + b) (p * g.letters + a)) [
          | inl m ↦ absurd (target_word_least g h.words h.shortlex q b hq hb
              (subst (λ (t : ℕ). (word_at h.words q ++ b ∷ []) ⊏ word_at h.words t) (sym e)
              (subst (λ (w : List ℕ). (word_at h.words q ++ b ∷ []) ⊏ w) (sym link.longer)
              (place_word g h.words h.shortlex q b p a link.letter (omega (arith, link.earlier))
              m))))
          | inr m ↦ (let (eq, eb) = same_from_place p a q b g.letters link.letter hb
              (omega (arith, after, place, m)) in link.longer
              ∙ ap (λ (c : ℕ). word_at h.words c ++ a ∷ []) eq
              ∙ ap (λ (c : ℕ). word_at h.words q ++ c ∷ []) eb)
        ]

    handled : (length_now : ℕ) → length found ≤ length_now → target g q b < length_now → (p a : ℕ)
        → a < g.letters → p * g.letters + a < n + 1 → target g p a < length_now
    handled length_now l t p a ha hp = elim (cases_lt (p * g.letters + a) n) [
      | inl m ↦ omega (arith, h.handled p a ha m)
      | inr m ↦ (let (ep, ea) = same_from_place p a q b g.letters ha hb (omega (arith, place)) in
          subst (λ (c : ℕ). target g c a < length_now) (sym ep)
          (subst (λ (c : ℕ). target g q c < length_now) (sym ea) t))
    ]

    -- the place leads to a node that was found
    pub listing_skip : target g q b ≢ length found → IsListing g (n + 1) found
    listing_skip other = record {
      words = h.words;
      shortlex = h.shortlex;
      some = h.some;
      few = h.few;
      front = h.front;
      handled = handled (length found) (omega arith) (let l = target_not_beyond in omega arith);
    }

    -- the place leads to the next node
    pub listing_push : (w : List ℕ) (more : List (List ℕ)) → target g q b ≡ length found
        → q < length found → w ≡ word_at found q ++ b ∷ [] → more ≡ found ++ w ∷ []
        → IsListing g (n + 1) more
    listing_push w more e hw is f = rw f (record {
      words = h.words;
      shortlex = h.shortlex;
      some = omega (arith, longer);
      few = let ht : target g q b < g.size = target_within g q b h.shortlex.graph hq hb in
          omega (arith, longer);
      front = λ i hi. front i (cases_lt i (length found)) hi;
      handled = handled (length (found ++ w ∷ [])) (omega (arith, longer)) (omega (arith, longer));
    })
      where
        longer : length (found ++ w ∷ []) ≡ length found + 1
        longer = simp length-append

        front : (i : ℕ) → (i < length found) ⊎ (length found ≤ i) → i < length (found ++ w ∷ [])
            → word_at (found ++ w ∷ []) i ≡ word_at h.words i
        front i (inl l) _ = get_or_append_left found (w ∷ []) [] i l ∙ h.front i l
        front i (inr l) hi =
            let at : length found ≡ i = omega (arith, longer) in
            get_or_push found w [] i at ∙ is ∙ ap (λ (v : List ℕ). v ++ b ∷ []) (h.front q hw)
            ∙ sym (next_word e) ∙ ap (word_at h.words) at

-- the root's word is empty
pub listing_begins : (g : Graph) (n : ℕ) (words found : List (List ℕ)) → n ≡ 0 → IsShortlex g words
    → found ≡ [] ∷ [] → IsListing g n found
listing_begins g n words found z s e = rw (z, e) (record {
  words = words;
  shortlex = s;
  some = omega arith;
  few = omega (arith, s.graph.root);
  front = λ i hi. let at : 0 ≡ i = omega arith in
      subst (λ (n : ℕ). word_at ([] ∷ []) n ≡ word_at words n) at (sym (root_word g words s));
  handled = λ p a ha hp. absurd (omega arith);
})

-- all targets give all words
pub listing_ends : (g : Graph) (n : ℕ) (found : List (List ℕ)) → n ≡ g.size * g.letters
    → IsListing g n found → IsShortlex g found
listing_ends g n found e h = subst (IsShortlex g) (sym all) h.shortlex
  where
    long : length found ≡ g.size
    long = elim (cases_lt (length found) g.size) [
      | inl l ↦ (let (p, a, link, after) = next_link g n found h (length found) refl l in
          absurd (omega (
            arith,
            after,
            e,
            row_place p a g.size g.letters (omega (arith, link.earlier)) link.letter,
          )))
      | inr l ↦ omega (arith, h.few)
    ]

    all : found ≡ h.words
    all = ext_get_or [] found h.words (long ∙ sym h.shortlex.long) (λ i hi. h.front i hi)
