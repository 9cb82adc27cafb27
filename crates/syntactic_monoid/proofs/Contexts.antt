-- Least separating contexts, found among the elements: the first word is that of the first element
-- from whose state the words part, the second that of the first element that tells apart the states
-- to which they lead.
use Rattle.std.proofs.Common.{◌≡◌, ◌↔◌, ◌⊎◌, inl, inr, ℕ, ◌<◌, Bool, List, Option, ◌++◌, length, sym, ap, subst, subst₂, ◌∙◌, arith}
use Rattle.language_theory.specs.Words.{Over, word_at}
use Rattle.language_theory.specs.Automaton.{is_marked}
use Rattle.language_theory.specs.Congruence.{Syntactic}
use Rattle.language_theory.specs.Languages.{IsLeastWord}
use Rattle.language_theory.specs.Nerode.{MinimalAutomaton, IsMinimal}
use Rattle.language_theory.specs.ShortlexGraph.{walk, node, IsGraphOf}
use Rattle.language_theory.proofs.Graphs.{walk_append, walk_within, node_within, first_node_least}
use Rattle.language_theory.proofs.Minimal.{syntactic_by_walks, minimal_word_over}
use Rattle.monoid_theory.specs.Separation.{Separates, CanSeparate, IsSeparation, IsFirstParting}
use Rattle.monoid_theory.proofs.Contexts.{parting_or_none, can_separate_by_parting, separates_by_marks}
use Rattle.syntactic_monoid.specs.SyntacticMonoid.{SyntacticMonoid, recognised, IsSyntactic}
use Rattle.syntactic_monoid.specs.Action.{IsActing, IsFirstBelow, Part, TellApart, taken, state_of}
use Rattle.syntactic_monoid.proofs.OneMonoid.{right_graph}
use Rattle.syntactic_monoid.proofs.Acting.{in_right, from_right, element_within, element_acts, element_state, letters_of_automaton, acting_is_syntactic, acting_minimal}

-- words that lead to one element are congruent
pub congruent_at : (m : SyntacticMonoid) → IsSyntactic m → (s t : List ℕ)
    → Over m.graphs.right.letters s → Over m.graphs.right.letters t
    → node m.graphs.right s ≡ node m.graphs.right t
    → Syntactic m.graphs.right.letters (recognised m) s t
congruent_at m h s t os ot e =
    ((right_graph m.graphs.right.letters (recognised m) m h.monoid).nodes.both s t os ot).0 e

module _ (m : SyntacticMonoid) (rows : List (List ℕ)) (finals : List Bool) (returns : Option ℕ)
    (h : IsActing m rows finals returns) (s t : List ℕ)
    (os : Over m.graphs.right.letters s) (ot : Over m.graphs.right.letters t) where
  abbrev auto : MinimalAutomaton
  auto = h.automaton

  abbrev element : List ℕ → ℕ
  element w = node m.graphs.right w

  abbrev Parts : ℕ → Type 0
  Parts e = Part rows (element s) (element t) e

  minimal : IsMinimal auto.graph.letters (recognised m) auto
  minimal = acting_minimal m rows finals returns h

  over : (w : List ℕ) → Over m.graphs.right.letters w → Over auto.graph.letters w
  over w o = from_right auto m.graphs rows finals h.action w o

  over_s : Over auto.graph.letters s
  over_s = over s os

  over_t : Over auto.graph.letters t
  over_t = over t ot

  graph : IsGraphOf auto.graph.letters (Syntactic auto.graph.letters (recognised m))
      m.graphs.right m.graphs.words
  graph =
      let e = letters_of_automaton m rows finals returns h in
      subst (λ (k : ℕ). IsGraphOf k (Syntactic k (recognised m)) m.graphs.right m.graphs.words) e
      (right_graph m.graphs.right.letters (recognised m) m
      (acting_is_syntactic m rows finals returns h).monoid)

  state_within : (w : List ℕ) → Over auto.graph.letters w → node auto.graph w < auto.graph.size
  state_within w o =
      node_within auto.graph w minimal.classes.shortlex.graph
      (subst (λ (k : ℕ). Over k w) (sym minimal.classes.letters) o)

  -- from the state of an element a word leads as its own element takes it
  taken_at : (x w : List ℕ) → Over auto.graph.letters x → Over auto.graph.letters w
      → taken rows (element x) (state_of rows (element w))
      ≡ walk auto.graph (node auto.graph w) x
  taken_at x w ox ow =
      ap (taken rows (element x)) (element_state auto m.graphs rows finals h.action w ow)
      ∙ element_acts auto m.graphs rows finals h.action x (node auto.graph w) ox
      (state_within w ow)

  -- the words part at an element of w exactly where w, with some word, separates them
  parts_at : (w : List ℕ) → Over auto.graph.letters w → Parts (element w)
      ↔ CanSeparate auto.graph.letters (recognised m) s t w
  parts_at w ow =
      let c = can_separate_by_parting auto.graph.letters (recognised m) auto minimal s t w
      over_s over_t ow in
      let e = taken_at s w over_s ow in
      let f = taken_at t w over_t ow in (
        λ n. c.1 (λ g. n (e ∙ (g ∙ sym f))),
        λ g n. c.0 g (sym e ∙ (n ∙ f)),
      )

  -- words of two elements part somewhere
  pub some_parts : ¬ (element s ≡ element t) → (e : ℕ) × (e < length rows) × Parts e
  some_parts n = by (parting_or_none auto.graph.letters (recognised m) auto minimal s t)
    where
      by : ((i : ℕ) × IsFirstParting auto.graph s t i)
          ⊎ ((i : ℕ) → i < auto.graph.size → walk auto.graph i s ≡ walk auto.graph i t)
          → (e : ℕ) × (e < length rows) × Parts e
      by (inl (i, f)) =
          let w = word_at auto.words i in
          let ow = minimal_word_over auto.graph.letters (recognised m) auto minimal i f.within in
          let l = element_within auto m.graphs rows finals h.action w ow in
          let at : node auto.graph w ≡ i = minimal.classes.shortlex.leads i f.within in
          let parts : Parts (element w) =
          λ e. f.parts (subst (λ (p : ℕ). walk auto.graph p s ≡ walk auto.graph p t) at
          (sym (taken_at s w over_s ow) ∙ (e ∙ taken_at t w over_t ow))) in
          (element w, (let e = h.action.long in omega arith), parts)
      by (inr all) =
          absurd (n ((graph.nodes.both s t over_s over_t).1
          (((syntactic_by_walks auto.graph.letters (recognised m) auto minimal).both s t over_s
          over_t).1 all)))

  module _ (e : ℕ) (f : IsFirstBelow (length rows) (Part rows (element s) (element t)) e) where
    abbrev before : List ℕ
    before = word_at m.graphs.words e

    inside : e < m.graphs.right.size
    inside =
        let a = f.within in let b = h.action.long in let c = graph.shortlex.long in omega arith

    leads : element before ≡ e
    leads = graph.shortlex.leads e inside

    -- the word of the first element at which they part is the least word before
    least_before : IsLeastWord auto.graph.letters
        (CanSeparate auto.graph.letters (recognised m) s t) before
    least_before =
        let first = first_node_least m.graphs.right m.graphs.words graph.shortlex Parts e inside
        f.holds f.first in
        let o = over before first.over in
        record {
          over = o;
          holds = (parts_at before o).0 first.holds;
          least = λ v ov g. first.least v (in_right auto m.graphs rows finals h.action v ov)
              ((parts_at v ov).1 g);
        }

    -- where the words lead from its state
    led : (x : List ℕ) → Over auto.graph.letters x
        → taken rows (element x) (state_of rows e) ≡ node auto.graph (before ++ x)
    led x ox =
        subst (λ (i : ℕ). taken rows (element x) (state_of rows i)
        ≡ node auto.graph (before ++ x)) leads
        (taken_at x before ox least_before.over ∙ sym (walk_append auto.graph 0 before x))

    pub led_within : (x : List ℕ) → Over m.graphs.right.letters x
        → taken rows (element x) (state_of rows e) < auto.graph.size
    led_within x o =
        let ox = over x o in
        subst (λ (p : ℕ). p < auto.graph.size)
        (sym (subst (λ (i : ℕ). taken rows (element x) (state_of rows i)
        ≡ walk auto.graph (node auto.graph before) x) leads
        (taken_at x before ox least_before.over)))
        (walk_within auto.graph (node auto.graph before) x minimal.classes.shortlex.graph
        (state_within before least_before.over)
        (subst (λ (k : ℕ). Over k x) (sym minimal.classes.letters) ox))

    abbrev Tells : ℕ → Type 0
    Tells g =
        TellApart rows finals (taken rows (element s) (state_of rows e))
        (taken rows (element t) (state_of rows e)) g

    mark_at : (x w : List ℕ) → Over m.graphs.right.letters x → Over auto.graph.letters w
        → is_marked finals (taken rows (element w) (taken rows (element x) (state_of rows e)))
        ≡ is_marked auto.finals (walk auto.graph (node auto.graph (before ++ x)) w)
    mark_at x w o ow =
        ap (is_marked finals) (element_acts auto m.graphs rows finals h.action w
        (taken rows (element x) (state_of rows e)) ow (led_within x o)
        ∙ ap (λ (p : ℕ). walk auto.graph p w) (led x (over x o)))
        ∙ ap (λ (xs : List Bool). is_marked xs
        (walk auto.graph (node auto.graph (before ++ x)) w)) h.action.same_finals

    -- an element tells the two states apart exactly where its words separate behind
    tells_at : (w : List ℕ) → Over auto.graph.letters w → Tells (element w)
        ↔ Separates (recognised m) s t before w
    tells_at w ow =
        let c = separates_by_marks auto.graph.letters (recognised m) auto minimal s t before w
        over_s over_t least_before.over ow in
        let a = mark_at s w os ow in
        let b = mark_at t w ot ow in (
          λ n. c.1 (λ g. n (a ∙ (g ∙ sym b))),
          λ g n. c.0 g (sym a ∙ (n ∙ b)),
        )

    pub some_tells : (g : ℕ) × (g < length rows)
        × TellApart rows finals (taken rows (element s) (state_of rows e))
        (taken rows (element t) (state_of rows e)) g
    some_tells =
        let (v, ov, apart) = least_before.holds in
        let l = element_within auto m.graphs rows finals h.action v ov in
        (element v, (let b = h.action.long in omega arith), (tells_at v ov).1 apart)

    -- the words of both elements are the least separating context
    pub first_separate : (g : ℕ)
        → IsFirstBelow (length rows)
        (TellApart rows finals (taken rows (element s) (state_of rows e))
        (taken rows (element t) (state_of rows e))) g
        → IsSeparation m.graphs.right.letters (recognised m) s t (word_at m.graphs.words e)
        (word_at m.graphs.words g)
    first_separate g b =
        subst (λ (k : ℕ). IsSeparation k (recognised m) s t before (word_at m.graphs.words g))
        (sym (letters_of_automaton m rows finals returns h))
        (record { before = least_before; behind = least_behind })
      where
        least_behind : IsLeastWord auto.graph.letters (Separates (recognised m) s t before)
            (word_at m.graphs.words g)
        least_behind =
            let l : g < m.graphs.right.size =
            (let x = b.within in let y = h.action.long in let z = graph.shortlex.long in
            omega arith) in
            let first = first_node_least m.graphs.right m.graphs.words graph.shortlex Tells g l
            b.holds b.first in
            let o = over (word_at m.graphs.words g) first.over in
            record {
              over = o;
              holds = (tells_at (word_at m.graphs.words g) o).0 first.holds;
              least = λ v ov c. first.least v (in_right auto m.graphs rows finals h.action v ov)
                  ((tells_at v ov).1 c);
            }

-- the same for numbers that stand for the elements, and for the states to which they lead
module _ (m : SyntacticMonoid) (rows : List (List ℕ)) (finals : List Bool) (returns : Option ℕ)
    (h : IsActing m rows finals returns) (s t : List ℕ)
    (os : Over m.graphs.right.letters s) (ot : Over m.graphs.right.letters t) (i j : ℕ)
    (ei : i ≡ node m.graphs.right s) (ej : j ≡ node m.graphs.right t) where
  pub congruent_found : i ≡ j → Syntactic m.graphs.right.letters (recognised m) s t
  congruent_found e =
      congruent_at m (acting_is_syntactic m rows finals returns h) s t os ot
      (sym ei ∙ (e ∙ ej))

  pub parting_exists : ¬ (i ≡ j) → (e : ℕ) × (e < length rows) × Part rows i j e
  parting_exists n =
      subst₂ (λ (x y : ℕ). (e : ℕ) × (e < length rows) × Part rows x y e) (sym ei) (sym ej)
      (some_parts m rows finals returns h s t os ot (λ e. n (ei ∙ (e ∙ sym ej))))

  module _ (e state p q : ℕ) (f : IsFirstBelow (length rows) (Part rows i j) e)
      (es : state ≡ state_of rows e) (ep : p ≡ taken rows i state)
      (eq : q ≡ taken rows j state) where
    first : IsFirstBelow (length rows)
        (Part rows (node m.graphs.right s) (node m.graphs.right t)) e
    first = subst₂ (λ (x y : ℕ). IsFirstBelow (length rows) (Part rows x y) e) ei ej f

    led_s : p ≡ taken rows (node m.graphs.right s) (state_of rows e)
    led_s = ep ∙ (ap (λ (x : ℕ). taken rows x state) ei
        ∙ ap (taken rows (node m.graphs.right s)) es)

    led_t : q ≡ taken rows (node m.graphs.right t) (state_of rows e)
    led_t = eq ∙ (ap (λ (x : ℕ). taken rows x state) ej
        ∙ ap (taken rows (node m.graphs.right t)) es)

    pub telling_exists : (g : ℕ) × (g < length rows) × TellApart rows finals p q g
    telling_exists =
        subst₂ (λ (x y : ℕ). (g : ℕ) × (g < length rows) × TellApart rows finals x y g)
        (sym led_s) (sym led_t) (some_tells m rows finals returns h s t os ot e first)

    pub separation_found : (g : ℕ) → IsFirstBelow (length rows) (TellApart rows finals p q) g
        → IsSeparation m.graphs.right.letters (recognised m) s t (word_at m.graphs.words e)
        (word_at m.graphs.words g)
    separation_found g b =
        first_separate m rows finals returns h s t os ot e first g
        (subst₂ (λ (x y : ℕ). IsFirstBelow (length rows) (TellApart rows finals x y) g) led_s led_t
        b)
