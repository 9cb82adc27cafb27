-- How the links of a monoid's elements are found along the targets of its right graph.
use Rattle.std.proofs.Common.{◌≡◌, ◌≢◌, ℕ, ◌+◌, ◌*◌, ◌<◌, ◌≤◌, ◌⊎◌, inl, inr, List, [], ◌∷◌, ◌++◌, length, take, refl, ap, sym, subst, ◌∙◌, arith, length-append}
use Rattle.std.specs.Prelude.{slice_index}
use Rattle.std.proofs.lemmas.Bool.{cases_lt}
use Rattle.std.proofs.lemmas.Nat.{same_from_place}
use Rattle.std.proofs.Math.Nat.{mul-le-mul_right}
use Rattle.std.proofs.lemmas.List.{get_or_append_left, get_or_push, get_or-take, length-take-le}
use Rattle.language_theory.specs.Words.{word_at}
use Rattle.language_theory.specs.Congruence.{IsCongruence}
use Rattle.language_theory.specs.ShortlexGraph.{Graph, target, node, SameNode}
use Rattle.language_theory.specs.Links.{IsPrefixLink, IsSuffixLink}
use Rattle.language_theory.proofs.Graphs.{walk_append, target_within, root_word, congruence_by_nodes}
use Rattle.language_theory.proofs.Links.{suffix_exists}
use Rattle.exploration.specs.Listing.{IsListing}
use Rattle.exploration.proofs.Listing.{row_has_word, target_not_beyond, next_word}
use Rattle.cayley_tables.specs.CayleyGraphs.{IsMonoidGraph}
use Rattle.cayley_tables.specs.Links.{LinkLists, AreLinks, with_link}
use Rattle.cayley_tables.specs.Tables.{IsLinking}

-- to lead to one node of a monoid's graph is a congruence
pub monoid_congruence : (g : Graph) (words : List (List ℕ)) → IsMonoidGraph g words
    → IsCongruence g.letters (SameNode g)
monoid_congruence g words h = (congruence_by_nodes g words h.shortlex).1 h.alike

module _ (k : ℕ) (words : List (List ℕ)) (m : ℕ) (l : LinkLists) (p a s b : ℕ)
    (h : AreLinks k words m l) (front : IsPrefixLink words m p a) (before : p < m) (ha : a < k)
    (back : IsSuffixLink words m b s) (shorter : s < m) (hb : b < k) where
  old_or_new : (i : ℕ) → i < m + 1 → (i < m) ⊎ (m ≡ i)
  old_or_new i hi = elim (cases_lt i m) [ inl o ↦ inl o | inr o ↦ inr (omega arith) ]

  prefix_of : (i : ℕ) → 0 < i → (i < m) ⊎ (m ≡ i)
      → IsPrefixLink words i (slice_index (l.prefix ++ p ∷ []) i) (slice_index (l.last ++ a ∷ []) i)
      × (slice_index (l.prefix ++ p ∷ []) i < i) × (slice_index (l.last ++ a ∷ []) i < k)
  prefix_of i z (inl o) =
      let n = h.prefixes in
      let r = h.lasts in
      rw (
        get_or_append_left l.prefix (p ∷ []) 0 i (omega arith),
        get_or_append_left l.last
            (a ∷ []) 0 i (omega arith),
      ) (h.prefix i z o, h.earlier i z o, h.last i z o)
  prefix_of i z (inr o) =
      let n = h.prefixes in
      let r = h.lasts in
      rw (get_or_push l.prefix p 0 i (omega arith), get_or_push l.last a 0 i (omega arith))
      (subst (λ (j : ℕ). IsPrefixLink words j p a) o front, omega arith, ha)

  suffix_of : (i : ℕ) → 0 < i → (i < m) ⊎ (m ≡ i)
      → IsSuffixLink words i (slice_index (l.first ++ b ∷ []) i)
      (slice_index (l.suffix ++ s ∷ []) i) × (slice_index (l.suffix ++ s ∷ []) i < i)
      × (slice_index (l.first ++ b ∷ []) i < k)
  suffix_of i z (inl o) =
      let n = h.suffixes in
      let r = h.firsts in
      rw (
        get_or_append_left l.suffix (s ∷ []) 0 i (omega arith),
        get_or_append_left l.first
            (b ∷ []) 0 i (omega arith),
      ) (h.suffix i z o, h.shorter i z o, h.first i z o)
  suffix_of i z (inr o) =
      let n = h.suffixes in
      let r = h.firsts in
      rw (get_or_push l.suffix s 0 i (omega arith), get_or_push l.first b 0 i (omega arith))
      (subst (λ (j : ℕ). IsSuffixLink words j b s) o back, omega arith, hb)

  -- the links of one word more
  pub links_more : AreLinks k words (m + 1) (with_link l p a s b)
  links_more = record {
    some = omega arith;
    root = h.root;
    prefixes = let n : length (l.prefix ++ p ∷ []) ≡ length l.prefix + 1 = simp length-append in
        let e = h.prefixes in omega arith;
    lasts = let n : length (l.last ++ a ∷ []) ≡ length l.last + 1 = simp length-append in let e =
        h.lasts in omega arith;
    suffixes = let n : length (l.suffix ++ s ∷ []) ≡ length l.suffix + 1 = simp length-append in
        let e = h.suffixes in omega arith;
    firsts = let n : length (l.first ++ b ∷ []) ≡ length l.first + 1 = simp length-append in let e =
        h.firsts in omega arith;
    prefix = λ i z o. (prefix_of i z (old_or_new i o)).0;
    earlier = λ i z o. (prefix_of i z (old_or_new i o)).1;
    last = λ i z o. (prefix_of i z (old_or_new i o)).2;
    suffix = λ i z o. (suffix_of i z (old_or_new i o)).0;
    shorter = λ i z o. (suffix_of i z (old_or_new i o)).1;
    first = λ i z o. (suffix_of i z (old_or_new i o)).2;
  }

module _ (g : Graph) (n : ℕ) (l : LinkLists) (h : IsLinking g n l) where
  pub front_long : length (take (length l.prefix) h.words) ≡ length l.prefix
  front_long =
      length-take-le (length l.prefix) h.words (let e = h.monoid.shortlex.long in let f = h.few in
      omega arith)

  -- the words that are linked are a listing
  abbrev pub listing : IsListing g n (take (length l.prefix) h.words)
  listing = record {
    words = h.words;
    shortlex = h.monoid.shortlex;
    some = let e = front_long in let s = h.links.some in omega arith;
    few = let e = front_long in let f = h.few in omega arith;
    front = λ i hi. get_or-take (length l.prefix) h.words i [] (let e = front_long in omega arith);
    handled = λ p a ha hp. let e = front_long in let t = h.handled p a ha hp in omega arith;
  }

  pub row_is_linked : (q : ℕ) → n ≡ q * g.letters → q < g.size → q < length l.prefix
  row_is_linked q e hq = let f = front_long in let r =
      row_has_word g n (take (length l.prefix) h.words) listing q e hq in omega arith

  module _ (q b : ℕ) (place : n ≡ q * g.letters + b) (hq : q < g.size) (hb : b < g.letters)
      (linked : q < length l.prefix) where
    handled_next : (count : ℕ) → length l.prefix ≤ count → target g q b < count → (p a : ℕ)
        → a < g.letters → p * g.letters + a < n + 1 → target g p a < count
    handled_next count more t p a ha hp = elim (cases_lt (p * g.letters + a) n) [
      | inl o ↦ (let d = h.handled p a ha o in omega arith)
      | inr o ↦ (let (ep, ea) = same_from_place p a q b g.letters ha hb (omega (arith, place)) in
          subst (λ (c : ℕ). target g c a < count) (sym ep)
          (subst (λ (c : ℕ). target g q c < count) (sym ea) t))
    ]

    -- the place leads to an element that is linked
    pub link_skip : target g q b ≢ length l.prefix → IsLinking g (n + 1) l
    link_skip other = record {
      words = h.words;
      monoid = h.monoid;
      few = h.few;
      links = h.links;
      handled = handled_next (length l.prefix) (omega arith) (let t =
          target_not_beyond g n (take (length l.prefix) h.words) listing q b place hq hb in let e =
          front_long in omega arith);
    }

    module _ (new : target g q b ≡ length l.prefix) where
      next_is : word_at h.words (length l.prefix) ≡ word_at h.words q ++ b ∷ []
      next_is = subst (λ (c : ℕ). word_at h.words c ≡ word_at h.words q ++ b ∷ []) front_long
          (next_word g n (take (length l.prefix) h.words) listing q b place hq hb
          (new ∙ sym front_long))

      inside : length l.prefix < g.size
      inside = let t = target_within g q b h.monoid.shortlex.graph hq hb in omega arith

      listed : length l.prefix < length h.words
      listed = let e = h.monoid.shortlex.long in let i = inside in omega arith

      next_prefix : IsPrefixLink h.words (length l.prefix) q b
      next_prefix = record {
        whole = listed;
        prefix = let i = inside in let l = listed in omega arith;
        splits = next_is;
      }

      linking_with : (more : LinkLists) → AreLinks g.letters h.words (length l.prefix + 1) more
          → IsLinking g (n + 1) more
      linking_with more f = record {
        words = h.words;
        monoid = h.monoid;
        few = let e = f.prefixes in let i = inside in omega arith;
        links = subst (λ (c : ℕ). AreLinks g.letters h.words c more) (sym f.prefixes) f;
        handled = handled_next (length more.prefix) (let e = f.prefixes in omega arith) (let e =
            f.prefixes in omega arith);
      }

      -- it is the letter itself
      pub link_letter : q ≡ 0 → IsLinking g (n + 1) (with_link l 0 b 0 b)
      link_letter z =
          linking_with (with_link l 0 b 0 b)
          (links_more g.letters h.words (length l.prefix) l 0 b 0 b h.links
          (subst (λ (c : ℕ). IsPrefixLink h.words (length l.prefix) c b) z next_prefix) h.links.some
          hb (record {
            whole = listed;
            suffix = let l = listed in omega arith;
            splits = next_is ∙ ap (λ (c : ℕ). word_at h.words c ++ b ∷ []) z
                ∙ ap (λ (w : List ℕ). w ++ b ∷ []) h.links.root
                ∙ ap (λ (w : List ℕ). b ∷ w) (sym h.links.root);
          }) h.links.some hb)

      -- or an element and a letter: without the first letter it is the suffix and the letter
      pub link_longer : 0 < q
          → IsLinking g (n + 1)
          (with_link l q b (target g (slice_index l.suffix q) b) (slice_index l.first q))
      link_longer z =
          let k = g.letters in
          let words = h.words in
          let count = length l.prefix in
          let s = slice_index l.suffix q in
          let f = slice_index l.first q in
          let some = h.links.some in
          let long = h.monoid.shortlex.long in
          let hm : count < length words = (let i = inside in omega arith) in
          let (a, t, ha, link) =
          suffix_exists k (SameNode g) words
          (monoid_congruence g words h.monoid) h.monoid.shortlex.least count some hm in
          let own = h.links.suffix q z linked in
          let splits : word_at words count ≡ f ∷ (word_at words s ++ b ∷ []) =
          next_is ∙ ap (λ (w : List ℕ). w ++ b ∷ []) own.splits in
          let both : a ∷ word_at words t ≡ f ∷ (word_at words s ++ b ∷ []) =
          sym link.splits ∙ splits in
          let rest : word_at words t ≡ word_at words s ++ b ∷ [] = cc in
          let leads_s : node g (word_at words s) ≡ s =
          h.monoid.shortlex.leads s (let w = own.suffix in omega arith) in
          let leads_t : node g (word_at words t) ≡ t =
          h.monoid.shortlex.leads t (let w = link.suffix in omega arith) in
          let is : target g s b ≡ t =
          sym (walk_append g 0 (word_at words s) (b ∷ [])
          ∙ ap (λ (c : ℕ). target g c b) leads_s) ∙ ap (node g) (sym rest) ∙ leads_t in
          let back : IsSuffixLink words count f (target g s b) =
          record {
            whole = hm;
            suffix = (let w = link.suffix in omega arith);
            splits =
                splits ∙ ap (λ (w : List ℕ). f ∷ w) (sym rest)
                ∙ ap (λ (c : ℕ). f ∷ word_at words c) (sym is);
          } in
          let shorter : target g s b < count =
          h.handled s b hb (let e = h.links.shorter q z linked in
          omega (arith, place, mul-le-mul_right {m = s + 1} {n = q} k (omega arith))) in
          linking_with (with_link l q b (target g s b) f)
          (links_more k words count l q b
          (target g s b) f h.links next_prefix linked hb back shorter
          (h.links.first q z linked))

-- before any target, the empty word is linked
pub linking_begins : (g : Graph) (words : List (List ℕ)) → IsMonoidGraph g words
    → IsLinking g 0 (record { prefix = 0 ∷ []; last = 0 ∷ []; suffix = 0 ∷ []; first = 0 ∷ [] })
linking_begins g words h = record {
  words = words;
  monoid = h;
  few = let r = h.shortlex.graph.root in omega arith;
  links = record {
    some = omega arith;
    root = root_word g words h.shortlex;
    prefixes = refl;
    lasts = refl;
    suffixes = refl;
    firsts = refl;
    prefix = λ i z m. absurd (omega arith);
    earlier = λ i z m. absurd (omega arith);
    last = λ i z m. absurd (omega arith);
    suffix = λ i z m. absurd (omega arith);
    shorter = λ i z m. absurd (omega arith);
    first = λ i z m. absurd (omega arith);
  };
  handled = λ p a ha hp. absurd (omega arith);
}

-- rows of one length that fill one list are as many
pub same_size : (n m k : ℕ) → 1 ≤ k → n * k ≡ m * k → n ≡ m
same_size n m k some e = by (cases_lt n m) (cases_lt m n)
  where
    by : (n < m) ⊎ (m ≤ n) → (m < n) ⊎ (n ≤ m) → n ≡ m
    by (inl o) _ = absurd (omega (arith, mul-le-mul_right {m = n + 1} {n = m} k (omega arith)))
    by (inr o) (inl p) =
        absurd (omega (arith, mul-le-mul_right {m = m + 1} {n = n} k (omega arith)))
    by (inr o) (inr p) = omega arith
