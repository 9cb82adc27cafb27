-- What is known of the elements stays known when the next target is found, and when the words get
-- longer.
use Rattle.std.proofs.Common.{◌≡◌, ℕ, zero, suc, ◌+◌, ◌*◌, ◌<◌, ◌≤◌, true, false, List, [], ◌∷◌, ◌++◌, Some, length, refl, ap, sym, subst, ◌∙◌, arith, length-append, nat_eq}
use Rattle.std.specs.Prelude.{slice_index}
use Rattle.std.proofs.Math.Nat.{mul-le-mul_right}
use Rattle.std.proofs.lemmas.List.Elements.{All-get_or}
use Rattle.language_theory.specs.Words.{word_at}
use Rattle.std.specs.Cmp.Lexicographic.{pointwise}
use Rattle.indexmap.specs.IndexSet.{insert_key}
use Rattle.language_theory.proofs.Shortlex.{over_last}
use Rattle.language_theory.proofs.Graphs.{row_place}
use Rattle.froidure_pin.specs.Batches.{IsNextRow}
use Rattle.exploration.specs.States.{AreKept, IsNext}
use Rattle.exploration.specs.Search.{IsSearched}
use Rattle.exploration.proofs.BreadthFirst.{search_meets, search_finds}
use Rattle.exploration.proofs.Searching.{nodes_meet, nodes_find, search_begins}
use Rattle.cayley_tables.specs.Links.{LinkLists, AreLinks}
use Rattle.cayley_tables.specs.LeftRows.{AreRightNumbers, AreLeftNumbers, IsKnownFor, CanGoOn}
use Rattle.froidure_pin.specs.declared.elements.Progress.{Progress}
use Rattle.froidure_pin.specs.Maps.{Maps, SameMap}
use Rattle.froidure_pin.specs.Rows.{number_of, AreSeen}
use Rattle.froidure_pin.specs.Search.{AreShorter, IsReady, IsFirst, rest_of, is_reduced, needs_row, read_target, next_links}
use Rattle.froidure_pin.proofs.Shortcut.{IsAt, not_needed, first_place, prefix_place, product_place, read_is_next, read_is_within, links_by_reduced, rest_within}
use Rattle.froidure_pin.proofs.Growth.{links_push, left_grows, left_kept}
use Rattle.froidure_pin.proofs.Lengths.{stands_before, shorter_push, next_shorter, first_shorter}
use Rattle.froidure_pin.proofs.RowLaws.{rows_invariant, seen_rows, next_row_is}

module _ (m : Maps) (rows : List (List ℕ)) (progress : Progress) (targets : List ℕ)
    (h : IsReady m rows progress targets) where
  long_words : length h.searched.words ≡ length rows
  long_words = h.searched.long

  -- the left rows are those of listed words
  left_few : length progress.left.items ≤ length h.searched.words * m.letters
  left_few =
      let e = h.long in
      let w = h.within in
      let s = h.some in
      let n = long_words in
      omega (
        arith,
        mul-le-mul_right {m = progress.from} {n =
            length h.searched.words} m.letters (omega arith),
      )

  all_links : AreLinks m.letters h.searched.words (length h.searched.words) progress.links
  all_links = subst (λ (n : ℕ). AreLinks m.letters h.searched.words n progress.links)
      (sym h.searched.long) h.linked

  -- the right targets of the suffix of an element of this length are found
  pub suffix_known : (i a : ℕ) → 0 < i → progress.from ≤ i → i < progress.to → a < m.letters
      → slice_index progress.links.suffix i * m.letters + a < length targets
  suffix_known i a z from to letter =
      let w = h.within in
      let e = long_words in
      let link = all_links.suffix i z (omega arith) in
      let split = ap length link.splits in
      let short = h.short.below i to in
      let b = h.begun in
      let before : slice_index progress.links.suffix i < progress.from =
      stands_before h.searched.words h.n progress.from
      (slice_index progress.links.suffix i) h.shorter link.suffix (omega arith) in
      omega (
        arith,
        row_place
            (slice_index progress.links.suffix i) a progress.from m.letters before letter,
      )

  pub rest_known : (i a : ℕ) → 0 < i → progress.from ≤ i → i < progress.to → a < m.letters
      → rest_of m.letters targets progress.links i a < length rows
  rest_known i a z from to letter = let e = long_words in let t =
      All-get_or (λ t. t < length h.searched.words) targets
      (slice_index progress.links.suffix i * m.letters + a) 0
      (suffix_known i a z from to letter) h.searched.first.within in omega arith

  -- the right graph that is known
  pub right_numbers : AreRightNumbers m.letters (number_of m rows) h.searched.words targets
  right_numbers = record {
    over = h.searched.first.over;
    rise = h.searched.first.rise;
    own = h.searched.nodes.own;
    within = λ i a ha p. All-get_or (λ t. t < length h.searched.words) targets
        (i * m.letters + a) 0 p h.searched.first.within;
    next = λ i a w ha p o e. h.searched.nodes.next i a w ha p o e;
    least = λ i a ha p. h.searched.first.least i a ha p;
  }

  -- when all targets of a length are found, enough is known for the left rows of its elements
  pub length_known : length targets ≡ progress.to * m.letters
      → IsKnownFor m.letters (number_of m rows) h.searched.words targets progress.links progress.to
  length_known whole = record {
    numbers = right_numbers;
    few = let w = h.within in let e = long_words in omega arith;
    linked = length rows;
    enough = h.within;
    links = h.linked;
    ready = λ i j hi hj l.
        let short = h.short.below i hi in
        let before : j < progress.to =
        stands_before h.searched.words (h.n + 1) progress.to j h.short hj (omega arith) in
        omega (arith, mul-le-mul_right {m = j + 1} {n = progress.to} m.letters (omega arith));
  }

  pub length_can_go_on : length targets ≡ progress.to * m.letters
      → CanGoOn m.letters targets progress.links progress.to progress.left.items
  length_can_go_on whole =
      record {
        number = number_of m rows;
        words = h.searched.words;
        known = length_known whole;
        numbers = h.known;
      }

  -- and then the search goes on with longer words
  pub ready_longer : (next : Progress) → length targets ≡ progress.to * m.letters
      → progress.to < length rows → next.links ≡ progress.links
      → length next.left.items ≡ progress.to * m.letters
      → AreLeftNumbers m.letters (number_of m rows) h.searched.words next.left.items
      → next.from ≡ progress.to → next.to ≡ length rows → IsReady m rows next targets
  ready_longer next whole more links long known from to = record {
    searched = h.searched;
    linked = subst (λ (l : LinkLists). AreLinks m.letters h.searched.words (length rows) l)
        (sym links) h.linked;
    known = known;
    long = long ∙ ap (λ (i : ℕ). i * m.letters) (sym from);
    n = h.n + 1;
    shorter = subst (AreShorter h.searched.words (h.n + 1)) (sym from) h.short;
    short = subst (AreShorter h.searched.words (h.n + 1 + 1)) (h.searched.long ∙ sym to)
        (next_shorter m.letters h.searched.words targets h.n progress.to h.searched.first whole
        h.short);
    some = omega arith;
    within = omega arith;
    begun = rw (from, whole) (omega arith);
    unfinished =
        rw (to, whole)
        (mul-le-mul_right {m = progress.to} {n = length rows} m.letters (omega arith));
  }

module _ (m : Maps) (rows : List (List ℕ)) (progress : Progress) (targets : List ℕ)
    (h : IsReady m rows progress targets) (seen : AreSeen m rows) where
  module _ (i a : ℕ) (from : progress.from ≤ i) (to : i < progress.to) (letter : a < m.letters)
      (here : length targets ≡ i * m.letters + a) where
    element : i < length h.searched.words
    element = let w = h.within in let n = (long_words m rows progress targets h) in omega arith

    -- what is known at the next target
    pub ready_at : IsAt m.letters
        (number_of m rows) h.searched.words targets progress.links progress.left.items i a
    ready_at = record {
      search = h.searched.first;
      nodes = h.searched.nodes;
      invariant = rows_invariant m rows seen.maps;
      links = (all_links m rows progress targets h);
      lefts = h.known;
      here = here;
      element = element;
      letter = letter;
      shorter = λ j hj l.
          let short = h.short.below i to in
          let e = h.long in
          let before : j < progress.from =
          stands_before h.searched.words h.n progress.from j h.shorter hj (omega arith) in
          omega (arith, mul-le-mul_right {m = j + 1} {n = progress.from} m.letters (omega arith));
    }

    -- one more target of this length is found
    open_again : length targets + 1 ≤ progress.to * m.letters
    open_again = let p = row_place i a progress.to m.letters to letter in omega arith

    -- the next target is an element that was found before
    pub ready_meets : (later : List (List ℕ)) (t : ℕ) → AreSeen m later
        → AreKept m.letters (number_of m rows) (number_of m later)
        → IsNext m.letters (number_of m rows) (number_of m later) i a t → t < length rows
        → length later ≡ length rows → IsReady m later progress (targets ++ t ∷ [])
    ready_meets later t again kept next inside same = record {
      searched = record {
        words = h.searched.words;
        long = h.searched.long ∙ sym same;
        first = search_meets m.letters h.searched.words targets i a t h.searched.first element here
            letter (let n = (long_words m rows progress targets h) in omega arith);
        nodes = nodes_meet m.letters (SameMap m) (SameMap m) (number_of m rows) (number_of m later)
            (length rows) (length later) seen.numbered again.numbered
            (record { both = λ u v _ _. (λ e. e, λ e. e) }) kept h.searched.words targets i a t
            h.searched.first h.searched.long h.searched.nodes (let w = h.within in
            omega arith) letter here next;
      };
      linked = subst (λ (n : ℕ). AreLinks m.letters h.searched.words n progress.links)
          (sym same) h.linked;
      known = left_kept m.letters (number_of m rows)
          (number_of m later) h.searched.words progress.left.items kept h.searched.first.over
          (left_few m rows progress targets h) h.known;
      long = h.long;
      n = h.n;
      shorter = h.shorter;
      short = h.short;
      some = h.some;
      within = let w = h.within in omega arith;
      begun = let b = h.begun in let e : length (targets ++ t ∷ []) ≡ length targets + 1 =
          simp length-append in omega arith;
      unfinished = let b = open_again in let e : length (targets ++ t ∷ []) ≡ length targets + 1 =
          simp length-append in omega arith;
    }

    -- it is read from the graphs that are there
    pub ready_reads : 0 < i → is_reduced m.letters targets progress.links i a ≡ false
        → IsReady m rows progress
        (targets ++ read_target m.letters targets progress.links progress.left.items i a ∷ [])
    ready_reads z e =
        ready_meets rows (read_target m.letters targets progress.links progress.left.items i a) seen
        (record { kept = λ w n o f. f })
        (read_is_next m.letters
        (number_of m rows) h.searched.words targets progress.links progress.left.items i a ready_at
        z e) (let n = (long_words m rows progress targets h) in let w =
        read_is_within m.letters
        (number_of m rows) h.searched.words targets progress.links progress.left.items i a ready_at
        z e in omega arith) refl

    -- the places that are read
    pub reads_first : needs_row m.letters targets progress.links i a ≡ false
        → slice_index progress.links.first i < length progress.left.items
    reads_first e =
        first_place m.letters
        (number_of m rows) h.searched.words targets progress.links progress.left.items i a ready_at
        (not_needed m.letters targets progress.links i a e).0

    pub reads_prefix : needs_row m.letters targets progress.links i a ≡ false
        → 0 < rest_of m.letters targets progress.links i a
        → slice_index progress.links.prefix
        (rest_of m.letters targets progress.links i a) * m.letters + slice_index
        progress.links.first i < length progress.left.items
    reads_prefix e o = let n = not_needed m.letters targets progress.links i a e in
        prefix_place m.letters
        (number_of m rows) h.searched.words targets progress.links progress.left.items i a ready_at
        n.0 n.1 o

    pub reads_product : needs_row m.letters targets progress.links i a ≡ false
        → 0 < rest_of m.letters targets progress.links i a
        → slice_index progress.left.items
        (slice_index progress.links.prefix
        (rest_of m.letters targets progress.links i a) * m.letters + slice_index
        progress.links.first i) * m.letters + slice_index progress.links.last
        (rest_of m.letters targets progress.links i a) < length targets
    reads_product e o = let n = not_needed m.letters targets progress.links i a e in
        product_place m.letters
        (number_of m rows) h.searched.words targets progress.links progress.left.items i a ready_at
        n.0 n.1 o

    -- what the target that is read is
    pub reads_next : needs_row m.letters targets progress.links i a ≡ false
        → IsNext m.letters (number_of m rows) (number_of m rows) i a
        (read_target m.letters targets progress.links progress.left.items i a)
    reads_next e = let n = not_needed m.letters targets progress.links i a e in
        read_is_next m.letters
        (number_of m rows) h.searched.words targets progress.links progress.left.items i a ready_at
        n.0 n.1

    pub reads_within : needs_row m.letters targets progress.links i a ≡ false
        → read_target m.letters targets progress.links progress.left.items i a < length rows
    reads_within e = let n = not_needed m.letters targets progress.links i a e in let w =
        read_is_within m.letters
        (number_of m rows) h.searched.words targets progress.links progress.left.items i a ready_at
        n.0 n.1 in let l = (long_words m rows progress targets h) in omega arith

    pub reads_ready : needs_row m.letters targets progress.links i a ≡ false
        → IsReady m rows progress
        (targets ++ read_target m.letters targets progress.links progress.left.items i a ∷ [])
    reads_ready e = let n = not_needed m.letters targets progress.links i a e in ready_reads n.0 n.1

    -- the word of the element with the letter behind it
    abbrev found : List ℕ
    found = word_at h.searched.words i ++ a ∷ []

    found_long : length found ≡ length (word_at h.searched.words i) + 1
    found_long = simp length-append

  -- the links of a new element
  pub new_links : (i a : ℕ) (from : progress.from ≤ i) (to : i < progress.to)
      (letter : a < m.letters) (here : length targets ≡ i * m.letters + a)
      → needs_row m.letters targets progress.links i a ≡ true
      → AreLinks m.letters (h.searched.words ++ (word_at h.searched.words i ++ a ∷ []) ∷ [])
      (length h.searched.words + 1) (next_links m.letters targets progress.links i a)
  new_links zero a from to letter here needed =
      let first : 0 < length h.searched.words = h.searched.first.some in
      links_push h.searched.words
      (word_at h.searched.words 0 ++ a ∷ []) m.letters progress.links 0 a 0 a
      (all_links m rows progress targets h) first letter first letter refl
      (ap (λ (w : List ℕ). w ++ a ∷ []) h.searched.first.root
      ∙ ap (λ (w : List ℕ). a ∷ w) (sym h.searched.first.root))
  new_links (suc i) a from to letter here needed =
      let k = m.letters in
      let l = progress.links in
      let words = h.searched.words in
      let at = ready_at (suc i) a from to letter here in
      let r = rest_of k targets l (suc i) a in
      let s = slice_index l.suffix (suc i) in
      let b = slice_index l.first (suc i) in
      let z : 0 < suc i = omega arith in
      let inside : r < length words =
      rest_within k (number_of m rows) words targets l progress.left.items (suc i) a at z in
      let (o, p, c) = links_by_reduced k targets l (suc i) a needed in
      let rest : word_at words r ≡ word_at words s ++ a ∷ [] =
      ((all_links m rows progress targets h).prefix r o inside).splits
      ∙ ap (λ (q : ℕ). word_at words q ++ slice_index l.last r ∷ []) p
      ∙ ap (λ (x : ℕ). word_at words s ++ x ∷ []) c in
      let splits : word_at words (suc i) ≡ b ∷ word_at words s =
      ((all_links m rows progress targets h).suffix (suc i) z at.element).splits in
      let back : word_at words (suc i) ++ a ∷ [] ≡ b ∷ word_at words r =
      ap (λ (w : List ℕ). w ++ a ∷ []) splits ∙ ap (λ (w : List ℕ). b ∷ w) (sym rest) in
      links_push words (word_at words (suc i) ++ a ∷ []) k l (suc i) a r b
      (all_links m rows progress targets h) at.element letter inside
      ((all_links m rows progress targets h).first (suc i) z at.element) refl back

  -- the next target is a new element
  pub ready_finds : (i a : ℕ) (from : progress.from ≤ i) (to : i < progress.to)
      (letter : a < m.letters) (here : length targets ≡ i * m.letters + a) (later : List (List ℕ))
      (n : ℕ) (links : LinkLists) → needs_row m.letters targets progress.links i a ≡ true
      → AreSeen m later → AreKept m.letters (number_of m rows) (number_of m later)
      → IsNext m.letters (number_of m rows) (number_of m later) i a n → n ≡ length rows
      → length later ≡ length rows + 1 → links ≡ next_links m.letters targets progress.links i a
      → IsReady m later (record progress { links = links }) (targets ++ n ∷ [])
  ready_finds i a from to letter here later n links needed again kept next last more made =
      subst (λ (t : ℕ). IsReady m later (record progress { links = links }) (targets ++ t ∷ []))
      (sym counted) (record {
        searched = record {
          words = words ++ found i a from to letter here ∷ [];
          long = omega (arith, longer, (long_words m rows progress targets h));
          first = search_finds m.letters words targets i a h.searched.first
              (element i a from to letter here) here letter;
          nodes = nodes_find m.letters (SameMap m) (SameMap m) (number_of m rows) (number_of m later)
              (length rows) (length later) seen.numbered again.numbered
              (record { both = λ u v _ _. (λ e. e, λ e. e) }) kept words targets i a h.searched.first
              h.searched.long h.searched.nodes (let w = h.within in
              omega arith) letter here
              (subst (IsNext m.letters (number_of m rows) (number_of m later) i a) counted next);
        };
        linked = subst
            (λ (l : LinkLists). AreLinks m.letters (words ++ found i a from to letter here ∷ [])
            (length later) l) (sym made)
            (subst (λ (c : ℕ). AreLinks m.letters (words ++ found i a from to letter here ∷ []) c
            (next_links m.letters targets progress.links i a)) (let e =
            (long_words m rows progress targets h) in
            omega arith) (new_links i a from to letter here needed));
        known = left_grows words (found i a from to letter here) m.letters (number_of m rows)
            (number_of m later) progress.left.items kept h.searched.first.over
            (left_few m rows progress targets h) h.known;
        long = h.long;
        n = h.n;
        shorter = shorter_push words (found i a from to letter here) h.n progress.from (let w =
            h.within in let e = (long_words m rows progress targets h) in let s = h.some in
            omega arith) (let b = h.shorter.above i from (element i a from to letter here) in
            omega (arith, found_long i a from to letter here)) h.shorter;
        short = shorter_push words (found i a from to letter here) (h.n + 1) progress.to (let w =
            h.within in let e = (long_words m rows progress targets h) in omega arith) (let b =
            h.shorter.above i from (element i a from to letter here) in
            omega (arith, found_long i a from to letter here)) h.short;
        some = h.some;
        within = let w = h.within in omega arith;
        begun = let b = h.begun in let e : length (targets ++ length words ∷ []) ≡ length targets + 1 =
            simp length-append in omega arith;
        unfinished = let b = open_again i a from to letter here in
            let e : length (targets ++ length words ∷ []) ≡ length targets + 1 = simp length-append in
            omega arith;
      })
    where
      words : List (List ℕ)
      words = h.searched.words

      counted : n ≡ length h.searched.words
      counted = last ∙ sym h.searched.long

      longer : length (h.searched.words ++ found i a from to letter here ∷ [])
          ≡ length h.searched.words + 1
      longer = simp length-append

  -- the row of a next element is that of a word
  pub next_seen : (i a : ℕ) (from : progress.from ≤ i) (to : i < progress.to)
      (letter : a < m.letters) (x : List ℕ) → IsNextRow m rows i a x
      → AreSeen m (insert_key (pointwise nat_eq) rows x)
  next_seen i a from to letter x row =
      let w = word_at h.searched.words i in
      let inside : i < length h.searched.words =
      (let e = h.within in let n = (long_words m rows progress targets h) in omega arith) in
      seen_rows m rows (w ++ a ∷ []) x
      (over_last m.letters w a (h.searched.first.over i inside) letter)
      (next_row_is m rows i a x w row (h.searched.nodes.own i inside)) seen

-- what is known when the element of the empty word is found
pub ready_begins : (m : Maps) (rows : List (List ℕ)) (progress : Progress) → length rows ≡ 1
    → number_of m rows [] ≡ Some 0 → IsFirst progress → IsReady m rows progress []
ready_begins m rows progress one e f = record {
  searched = begun;
  linked = rw f.links (record {
    some = omega arith;
    root = begun.first.root;
    prefixes = omega arith;
    lasts = omega arith;
    suffixes = omega arith;
    firsts = omega arith;
    prefix = λ i z h. absurd (omega arith);
    earlier = λ i z h. absurd (omega arith);
    last = λ i z h. absurd (omega arith);
    suffix = λ i z h. absurd (omega arith);
    shorter = λ i z h. absurd (omega arith);
    first = λ i z h. absurd (omega arith);
  });
  known = rw f.left
      (record {
        within = λ i a ha p. absurd (omega arith);
        leads = λ i a ha p. absurd (omega arith);
        least = λ i a ha p. absurd (omega arith);
      });
  long = let none : length progress.left.items ≡ 0 = ap length f.left in
      let z : progress.from * m.letters ≡ 0 * m.letters = ap (λ (i : ℕ). i * m.letters) f.from in
      omega arith;
  n = 0;
  shorter = subst (AreShorter begun.words 0) (sym f.from)
      (first_shorter begun.words (begun.long ∙ one) begun.first.root).0;
  short = subst (AreShorter begun.words 1) (sym f.to)
      (first_shorter begun.words (begun.long ∙ one) begun.first.root).1;
  some = let z = f.from in let t = f.to in omega arith;
  within = let t = f.to in omega arith;
  begun = (let z : progress.from * m.letters ≡ 0 * m.letters = ap (λ (i : ℕ). i * m.letters)
      f.from in omega arith);
  unfinished = omega arith;
}
  where
    begun : IsSearched m.letters (number_of m rows) (length rows) []
    begun = search_begins m.letters (number_of m rows) (length rows) [] one refl e
