-- What a step of a machine of numbered states makes of a search, and what a whole search has found.
use Rattle.std.proofs.Common.{◌≡◌, ℕ, ◌+◌, ◌*◌, ◌<◌, ◌≤◌, ◌⊎◌, inl, inr, List, [], ◌∷◌, ◌++◌, Option, Some, length, refl, ap, sym, subst, ◌∙◌, arith, length-append}
use Rattle.std.specs.Prelude.{slice_index, All}
use Rattle.std.proofs.lemmas.List.Elements.{All-nil}
use Rattle.std.proofs.lemmas.Bool.{cases_lt}
use Rattle.std.proofs.lemmas.List.{get_or_append_left, get_or_push}
use Rattle.language_theory.specs.Words.{Over, word_at}
use Rattle.language_theory.specs.Representatives.{HasMoreClasses}
use Rattle.language_theory.proofs.Shortlex.{over_last}
use Rattle.language_theory.specs.Congruence.{Agree}
use Rattle.language_theory.proofs.Representatives.{agreeing_classes}
use Rattle.exploration.specs.States.{AreNumbered, IsSameMachine, AreKept, IsNext, IsCounted}
use Rattle.exploration.specs.Search.{IsBreadthFirst, AreNodes, IsSearched, IsExploring, HasExplored}
use Rattle.exploration.proofs.Places.{row_within, place_before_or_last}
use Rattle.exploration.proofs.BreadthFirst.{search_finds, search_meets}

module _ (k : ℕ) (same later : List ℕ → List ℕ → Type 0) (old new : List ℕ → Option ℕ)
    (count after : ℕ) (before : AreNumbered k same old count) (now : AreNumbered k later new after)
    (agree : Agree k same later) (kept : AreKept k old new) where
  -- a number that was given goes to no other word
  pub number_before : (w : List ℕ) (n : ℕ) → Over k w → n < count → new w ≡ Some n → old w ≡ Some n
  number_before w n o h e =
      let u = before.used n h in
      (before.one u.0 w n u.1 o u.2).1
      ((agree.both u.0 w u.1 o).1 ((now.one u.0 w n u.1 o (kept.kept u.0 n u.1 u.2)).0 e))

  next_again : (words : List (List ℕ)) (targets : List ℕ) (p a n : ℕ)
      → IsBreadthFirst k words targets → length words ≡ count → AreNodes k old words targets
      → p < count → a < k → length targets ≡ p * k + a → IsNext k old new p a n
      → (q b : ℕ) (w : List ℕ) → b < k → (q * k + b < length targets) ⊎ ((q ≡ p) × (b ≡ a))
      → Over k w
      → new w ≡ Some q → new (w ++ b ∷ []) ≡ Some (slice_index (targets ++ n ∷ []) (q * k + b))
  next_again words targets p a n f long h hp ha e next q b w hb (inl l) o given =
      let hq : q < length words = row_within q b k (length words) (omega (arith, l, f.handled)) in
      kept.kept (w ++ b ∷ []) (slice_index targets (q * k + b)) (over_last k w b o hb)
      (h.next q b w hb l o (number_before w q o (omega arith) given))
      ∙ ap (λ (t : ℕ). Some t) (sym (get_or_append_left targets (n ∷ []) 0 (q * k + b) l))
  next_again words targets p a n f long h hp ha e next q b w hb (inr l) o given =
      let place : length targets ≡ q * k + b = rw (l.0, l.1) e in
      let given_p : new w ≡ Some p = given ∙ ap (λ (t : ℕ). Some t) l.0 in
      subst (λ (c : ℕ). new (w ++ c ∷ []) ≡ Some n) (sym l.1)
      (next.leads w o (number_before w p o hp given_p))
      ∙ ap (λ (t : ℕ). Some t) (sym (get_or_push targets n 0 (q * k + b) place))

  pub nodes_meet : (words : List (List ℕ)) (targets : List ℕ) (p a n : ℕ)
      → IsBreadthFirst k words targets → length words ≡ count → AreNodes k old words targets
      → p < count → a < k → length targets ≡ p * k + a → IsNext k old new p a n
      → AreNodes k new words (targets ++ n ∷ [])
  nodes_meet words targets p a n f long h hp ha e next = record {
    own = λ i hi. kept.kept (word_at words i) i (f.over i hi) (h.own i hi);
    next = λ q b w hb place o given. next_again words targets p a n f long h hp ha e next q b w hb
        (place_before_or_last q b p a k targets n hb ha e place) o given;
  }

  pub nodes_find : (words : List (List ℕ)) (targets : List ℕ) (p a : ℕ)
      → IsBreadthFirst k words targets → length words ≡ count → AreNodes k old words targets
      → p < count → a < k → length targets ≡ p * k + a → IsNext k old new p a (length words)
      → AreNodes k new (words ++ (word_at words p ++ a ∷ []) ∷ []) (targets ++ length words ∷ [])
  nodes_find words targets p a f long h hp ha e next = record {
    own = λ i hi. own i
        (elim (cases_lt i (length words)) [ inl l ↦ inl l | inr l ↦ inr (omega (arith, more)) ]);
    next = λ q b w hb place o given. next_again words targets p a (length words) f long h hp ha e
        next q b w hb (place_before_or_last q b p a k targets (length words) hb ha e place) o given;
  }
    where
      found : List ℕ
      found = word_at words p ++ a ∷ []

      more : length (words ++ found ∷ []) ≡ length words + 1
      more = simp length-append

      own : (i : ℕ) → (i < length words) ⊎ (length words ≡ i)
          → new (word_at (words ++ found ∷ []) i) ≡ Some i
      own i (inl l) = ap new (get_or_append_left words (found ∷ []) [] i l)
          ∙ kept.kept (word_at words i) i (f.over i l) (h.own i l)
      own i (inr l) =
          let hp' : p < length words = omega arith in
          ap new (get_or_push words found [] i l)
          ∙ next.leads (word_at words p) (f.over p hp') (h.own p hp') ∙ ap (λ (t : ℕ). Some t) l

  -- the next target is listed
  pub search_next : (targets : List ℕ) (p a n : ℕ) → IsSearched k old count targets → p < count
      → a < k → length targets ≡ p * k + a → IsNext k old new p a n → IsCounted count after n
      → IsSearched k new after (targets ++ n ∷ [])
  search_next targets p a n h hp ha e next (inl l) =
      let hp' : p < length h.words = omega (arith, h.long) in
      let hn : n < length h.words = omega (arith, h.long, l.0) in
      record {
        words = h.words;
        long = h.long ∙ sym l.1;
        first = search_meets k h.words targets p a n h.first hp' e ha hn;
        nodes = nodes_meet h.words targets p a n h.first h.long h.nodes hp ha e next;
      }
  search_next targets p a n h hp ha e next (inr l) =
      let same_n : n ≡ length h.words = l.0 ∙ sym h.long in
      let hp' : p < length h.words = omega (arith, h.long) in
      let more : length (h.words ++ (word_at h.words p ++ a ∷ []) ∷ []) ≡ length h.words + 1 =
      simp length-append in
      subst (λ (m : ℕ). IsSearched k new after (targets ++ m ∷ [])) (sym same_n) (record {
        words = h.words ++ (word_at h.words p ++ a ∷ []) ∷ [];
        long = omega (arith, more, h.long, l.1);
        first = search_finds k h.words targets p a h.first hp' e ha;
        nodes = nodes_find h.words targets p a h.first h.long h.nodes hp ha e
            (subst (λ (m : ℕ). IsNext k old new p a m) same_n next);
      })

-- the same with the laws as the machine gives them
pub search_step : (k l : ℕ) (same later : List ℕ → List ℕ → Type 0) (old new : List ℕ → Option ℕ)
    (count after : ℕ) (targets : List ℕ) (p a n : ℕ) → AreNumbered k same old count
    → AreNumbered l later new after → IsSameMachine k l same later → AreKept k old new
    → IsSearched k old count targets → p < count → a < k → length targets ≡ p * k + a
    → IsNext k old new p a n → IsCounted count after n
    → AreNumbered k later new after × IsSearched k new after (targets ++ n ∷ [])
search_step k l same later old new count after targets p a n before now machine kept h hp ha e next
    counted =
    let numbered = subst (λ (m : ℕ). AreNumbered m later new after) machine.letters now in (
      numbered,
      search_next k same later old new count after before numbered machine.same kept
          targets p a n h hp ha e next counted,
    )

counted_grows : (count after n : ℕ) → IsCounted count after n → count ≤ after
counted_grows count after n (inl h) = omega arith
counted_grows count after n (inr h) = omega arith

-- a search that stays within its limit goes on to the next place
pub search_goes_on : (k l : ℕ) (same later : List ℕ → List ℕ → Type 0) (old new : List ℕ → Option ℕ)
    (count after limit p a n : ℕ) (targets : List ℕ)
    → AreNumbered k same old count → AreNumbered l later new after → IsSameMachine k l same later
    → AreKept k old new
    → p < count → a < k → IsExploring k old count limit (p * k + a) targets
    → IsNext k old new p a n → IsCounted count after n → after ≤ limit
    → HasExplored k new count after limit (p * k + a + 1) (targets ++ n ∷ [])
search_goes_on k l same later old new count after limit p a n targets before now machine kept hp ha
    h next counted few =
    let longer : length (targets ++ n ∷ []) ≡ length targets + 1 = simp length-append in
    let (_, searched) =
    search_step k l same later old new count after targets p a n before now machine kept
    h.searched hp ha h.here next counted in
    record {
      grows = counted_grows count after n counted;
      exploring = record {
        small = h.small;
        few = few;
        here =
            omega (arith, h.here, longer);
        searched = searched;
      };
    }

-- there are as many classes as words were found
pub search_has_classes : (k : ℕ) (same : List ℕ → List ℕ → Type 0) (number : List ℕ → Option ℕ)
    (count : ℕ) (targets : List ℕ) (limit : ℕ) → AreNumbered k same number count
    → IsSearched k number count targets → limit < count → HasMoreClasses k same limit
search_has_classes k same number count targets limit now h l = (
  h.words,
  omega (arith, h.long),
  record {
    over = h.first.over;
    apart = λ i j hij hj alike.
        let hi : i < length h.words = omega arith in
        let other : number (word_at h.words j) ≡ Some i =
        (now.one (word_at h.words i) (word_at h.words j) i (h.first.over i hi)
        (h.first.over j hj) (h.nodes.own i hi)).1 alike in
        let equal : i ≡ j = cc (h.nodes.own j hj, other) in
        absurd (omega arith);
  },
)

-- relations that agree have as many classes
pub agree_classes : (k : ℕ) (same later : List ℕ → List ℕ → Type 0) (limit : ℕ) → Agree k same later
    → HasMoreClasses k later limit → HasMoreClasses k same limit
agree_classes k same later limit agree = ((agreeing_classes k same later agree).both limit).1

-- a search that passes its limit has found more classes
pub search_passes_limit : (k l : ℕ) (same later : List ℕ → List ℕ → Type 0)
    (old new : List ℕ → Option ℕ)
    (count after limit p a n : ℕ) (targets : List ℕ)
    → AreNumbered k same old count → AreNumbered l later new after → IsSameMachine k l same later
    → AreKept k old new
    → p < count → a < k → IsExploring k old count limit (p * k + a) targets
    → IsNext k old new p a n → IsCounted count after n → limit < after → HasMoreClasses k same limit
search_passes_limit k l same later old new count after limit p a n targets before now machine kept
    hp ha h next counted more =
    let (numbered, searched) =
    search_step k l same later old new count after targets p a n before now machine kept
    h.searched hp ha h.here next counted in
    agree_classes k same later limit machine.same
    (search_has_classes k later new after (targets ++ n ∷ []) limit numbered searched more)

-- the same relation in a later machine has as many classes
pub machine_classes : (k l : ℕ) (same later : List ℕ → List ℕ → Type 0) (limit : ℕ)
    → IsSameMachine k l same later → HasMoreClasses l later limit → HasMoreClasses k same limit
machine_classes k l same later limit machine h =
    agree_classes k same later limit machine.same
    (subst (λ (m : ℕ). HasMoreClasses m later limit) machine.letters h)

-- the class of the empty word is one
pub one_class : (k : ℕ) (same : List ℕ → List ℕ → Type 0) (limit : ℕ) → limit < 1
    → HasMoreClasses k same limit
one_class k same limit few = (
  [] ∷ [],
  few,
  record {
    over = λ i hi.
        let z : 0 ≡ i = omega arith in subst (λ (n : ℕ). Over k (word_at ([] ∷ []) n)) z tt;
    apart = λ i j hij hj _. omega arith;
  },
)

-- the search begins with the root, whose word is empty
pub search_begins : (k : ℕ) (number : List ℕ → Option ℕ) (count : ℕ) (targets : List ℕ) → count ≡ 1
    → targets ≡ [] → number [] ≡ Some 0 → IsSearched k number count targets
search_begins k number count targets one none e = record {
  words = [] ∷ [];
  long = sym one;
  first = record {
    some = omega arith;
    root = refl;
    over = λ i hi.
        let z : 0 ≡ i = omega arith in subst (λ (n : ℕ). Over k (word_at ([] ∷ []) n)) z tt;
    rise = λ i j hij hj. absurd (omega arith);
    found = λ j pos hj. absurd (omega arith);
    handled = rw none (omega arith);
    within = subst (All (λ t. t < 1)) (sym none) (All-nil (λ t. t < 1));
    least = λ p a ha place _. let empty : length targets ≡ 0 = ap length none in omega arith;
  };
  nodes = record {
    own = λ i hi. let z : 0 ≡ i = omega arith in
        subst (λ (n : ℕ). number (word_at ([] ∷ []) n) ≡ Some n) z e;
    next = λ p a w ha place o given.
        let empty : length targets ≡ 0 = ap length none in absurd (omega arith);
  };
}
