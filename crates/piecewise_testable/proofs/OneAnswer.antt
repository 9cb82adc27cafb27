-- A language has one answer of each kind.
use Rattle.std.proofs.Common.{◌≡◌, ◌↔◌, ℕ, ◌⊎◌, inl, inr, Bool, IsTrue, List, [], ◌∷◌, ◌++◌, refl, sym, ap, subst, ◌∙◌, arith}
use Rattle.std.specs.Prelude.{Option, Some, None}
use Rattle.std.specs.Cmp.{both_ways}
use Rattle.std.proofs.lemmas.Bool.{cases_lt}
use Rattle.language_theory.specs.Congruence.{Syntactic}
use Rattle.language_theory.proofs.LeastWords.{least_words_equal}
use Rattle.monoid_theory.specs.Separation.{IsSeparation}
use Rattle.monoid_theory.proofs.Contexts.{separation_is_one}
use Rattle.level_search.specs.declared.level.Level.{Level}
use Rattle.level_search.specs.declared.level.Level.TheVariants as level
use Rattle.level_search.proofs.Answering.{one_answer}
use Rattle.subword_theory.specs.ShortSubwords.{SameSubwords}
use Rattle.subword_theory.specs.SubwordRows.{width}
use Rattle.answers.specs.declared.subwords.Side.{Side}
use Rattle.answers.specs.declared.subwords.Side.TheVariants.{Right, Left}
use Rattle.answers.specs.declared.subwords.PtWitness.{PtWitness}
use Rattle.answers.specs.declared.commuting.CWitness.{CWitness}
use Rattle.answers.specs.declared.subwords.PtAnswer.{PtAnswer}
use Rattle.answers.specs.declared.subwords.PtAnswer.TheVariants as answer
use Rattle.piecewise_testable.specs.Sides.{beside, HasOther, Moves, Leads, IsTrivialOn, IsLeastLetter, IsRound}
use Rattle.piecewise_testable.specs.Witness.{IsWitness, IsRTrivialAnswer}
use Rattle.piecewise_testable.specs.Commuting.{IsCommutative, Commute, HasSwap, IsCommutativeWitness, IsCommutativeAnswer}
use Rattle.piecewise_testable.specs.Answers.{IsTrivialAnswer, IsFirstSide, IsRefusal, IsPiecewiseAnswer, answer_of}
use Rattle.piecewise_testable.proofs.ToldApart.{not_trivial_on}

pub one_least_letter : (k : ℕ) (P : ℕ → Type 0) (a b : ℕ) → IsLeastLetter k P a
    → IsLeastLetter k P b → a ≡ b
one_least_letter k P a b h g = elim (cases_lt a b) [
  | inl l ↦ absurd (g.first a l h.holds)
  | inr l ↦ elim (cases_lt b a) [
    | inl m ↦ absurd (h.first b m g.holds)
    | inr m ↦ omega arith
  ]
]

-- marks that stand for one fact
one_mark : (a b : Bool) (P : Type 0) → IsTrue a ↔ P → IsTrue b ↔ P → a ≡ b
one_mark a b P f g = both_ways a b (λ t. g.1 (f.0 t)) (λ t. f.1 (g.0 t))

-- ---- witnesses

-- the fields of a witness on a side
pub record AreParts (side : Side) (k : ℕ) (L : List ℕ → Type 0) (u s : List ℕ) (a : ℕ)
    (y v : List ℕ) (b : Bool) : Type 0 where
  pub round : IsRound side k (Syntactic k L) s a y
  pub context : IsSeparation k L s (beside side s (a ∷ [])) u v
  pub first_in : IsTrue b ↔ L (u ++ (s ++ v))

parts_of : (k : ℕ) (L : List ℕ → Type 0) (w : PtWitness) → IsWitness k L w
    → AreParts w.side k L w.u w.s w.letter w.y w.v w.first_in
parts_of k L w h = record { round = h.round; context = h.context; first_in = h.first_in }

module _ (side : Side) (k : ℕ) (L : List ℕ → Type 0) where
  one_element : (s t : List ℕ) (a b : ℕ) (y z : List ℕ) → IsRound side k (Syntactic k L) s a y
      → IsRound side k (Syntactic k L) t b z → s ≡ t
  one_element s t a b y z h g =
      least_words_equal k (HasOther side k (Syntactic k L)) s t h.element g.element

  one_letter : (s : List ℕ) (a b : ℕ) (y z : List ℕ) → IsRound side k (Syntactic k L) s a y
      → IsRound side k (Syntactic k L) s b z → a ≡ b
  one_letter s a b y z h g =
      one_least_letter k (Moves side k (Syntactic k L) s) a b h.letter g.letter

  one_back : (s : List ℕ) (a : ℕ) (y z : List ℕ) → IsRound side k (Syntactic k L) s a y
      → IsRound side k (Syntactic k L) s a z → y ≡ z
  one_back s a y z h g =
      least_words_equal k (Leads side (Syntactic k L) (beside side s (a ∷ [])) s) y z h.back g.back

-- two witnesses on one side are equal
module _ (k : ℕ) (L : List ℕ → Type 0) (x w : PtWitness) (same : x.side ≡ w.side)
    (h : IsWitness k L x) (g : IsWitness k L w) where
  -- the other one, on the side of the first
  other : AreParts x.side k L w.u w.s w.letter w.y w.v w.first_in
  other =
      subst (λ (d : Side). AreParts d k L w.u w.s w.letter w.y w.v w.first_in) (sym same)
      (parts_of k L w g)

  element : x.s ≡ w.s
  element = one_element x.side k L x.s w.s x.letter w.letter x.y w.y h.round other.round

  with_element : AreParts x.side k L w.u x.s w.letter w.y w.v w.first_in
  with_element =
      subst (λ (s : List ℕ). AreParts x.side k L w.u s w.letter w.y w.v w.first_in) (sym element)
      other

  letter : x.letter ≡ w.letter
  letter = one_letter x.side k L x.s x.letter w.letter x.y w.y h.round with_element.round

  with_letter : AreParts x.side k L w.u x.s x.letter w.y w.v w.first_in
  with_letter =
      subst (λ (a : ℕ). AreParts x.side k L w.u x.s a w.y w.v w.first_in) (sym letter) with_element

  back : x.y ≡ w.y
  back = one_back x.side k L x.s x.letter x.y w.y h.round with_letter.round

  context : (x.u ≡ w.u) × (x.v ≡ w.v)
  context =
      separation_is_one k L x.s (beside x.side x.s (x.letter ∷ [])) x.u x.v w.u w.v h.context
      with_letter.context

  first_in : x.first_in ≡ w.first_in
  first_in =
      one_mark x.first_in w.first_in (L (x.u ++ (x.s ++ x.v))) h.first_in
      (subst (λ (u : List ℕ). IsTrue w.first_in ↔ L (u ++ (x.s ++ x.v))) (sym context.0)
      (subst (λ (v : List ℕ). IsTrue w.first_in ↔ L (w.u ++ (x.s ++ v))) (sym context.1)
      with_letter.first_in))

  pub one_witness : x ≡ w
  one_witness =
      let d = same in
      let e = element in
      let l = letter in
      let b = back in
      let p = context.0 in
      let r = context.1 in
      let f = first_in in
      λ i. record { side = d i; u = p i; s = e i; letter = l i; y = b i; v = r i; first_in = f i }

-- ---- answers

pub one_r_trivial_answer : (k : ℕ) (L : List ℕ → Type 0) (a b : Option PtWitness)
    → IsRTrivialAnswer k L a → IsRTrivialAnswer k L b → a ≡ b
one_r_trivial_answer k L None None h g = refl
one_r_trivial_answer k L None (Some w) h (e, g) =
    absurd (not_trivial_on k L w g
    (subst (λ (d : Side). IsTrivialOn d k (Syntactic k L)) (sym e) h))
one_r_trivial_answer k L (Some w) None (e, h) g =
    absurd (not_trivial_on k L w h
    (subst (λ (d : Side). IsTrivialOn d k (Syntactic k L)) (sym e) g))
one_r_trivial_answer k L (Some x) (Some w) (e, h) (f, g) =
    ap (λ (v : PtWitness). Some v) (one_witness k L x w (e ∙ sym f) h g)

-- two refusals are on one side
one_side : (k : ℕ) (L : List ℕ → Type 0) (d f : Side) → IsFirstSide d k (Syntactic k L)
    → IsFirstSide f k (Syntactic k L) → ¬ IsTrivialOn d k (Syntactic k L)
    → ¬ IsTrivialOn f k (Syntactic k L) → d ≡ f
one_side k L Right Right h g m n = refl
one_side k L Right Left h g m n = absurd (m g)
one_side k L Left Right h g m n = absurd (n h)
one_side k L Left Left h g m n = refl

one_refusal : (k : ℕ) (L : List ℕ → Type 0) (x w : PtWitness) → IsRefusal k L x → IsRefusal k L w
    → x ≡ w
one_refusal k L x w h g =
    one_witness k L x w
    (one_side k L x.side w.side h.side g.side (not_trivial_on k L x h.witness)
    (not_trivial_on k L w g.witness)) h.witness g.witness

-- an answer is a refusal, or that of a search
abbrev pub IsEither : ℕ → (List ℕ → Type 0) → ℕ → ℕ → PtAnswer → Type 0
IsEither k L most last a =
    ((w : PtWitness) × (a ≡ answer.No w) × IsRefusal k L w)
    ⊎ ((l : Level) × (a ≡ answer_of l) × IsTrivialAnswer k L most last l)

pub either : (k : ℕ) (L : List ℕ → Type 0) (most last : ℕ) (a : PtAnswer)
    → IsPiecewiseAnswer k L most last a → IsEither k L most last a
either k L most last (answer.No w) h = inl (w, refl, h)
either k L most last (answer.Yes n) h = inr (level.Yes n, refl, h)
either k L most last (answer.Wide n) h = inr (level.Wide n, refl, h)
either k L most last (answer.Pairs n) h = inr (level.Pairs n, refl, h)
either k L most last (answer.NoneTo n) h = inr (level.NoneTo n, refl, h)

pub level_is_answer : (k : ℕ) (L : List ℕ → Type 0) (most last : ℕ) (l : Level)
    → IsTrivialAnswer k L most last l → IsPiecewiseAnswer k L most last (answer_of l)
level_is_answer k L most last (level.Yes n) h = h
level_is_answer k L most last (level.Wide n) h = h
level_is_answer k L most last (level.Pairs n) h = h
level_is_answer k L most last (level.NoneTo n) h = h

module _ (k : ℕ) (L : List ℕ → Type 0) (most last : ℕ) where
  pub one_piecewise_answer : (a b : PtAnswer) → IsPiecewiseAnswer k L most last a
      → IsPiecewiseAnswer k L most last b → a ≡ b
  one_piecewise_answer a b h g = by (either k L most last a h) (either k L most last b g)
    where
      by : IsEither k L most last a → IsEither k L most last b → a ≡ b
      by (inl (x, e, p)) (inl (w, f, r)) =
          e ∙ (ap (λ (v : PtWitness). answer.No v) (one_refusal k L x w p r) ∙ sym f)
      by (inl (x, e, p)) (inr (l, f, r)) = absurd (p.not_trivial r.0)
      by (inr (l, e, p)) (inl (w, f, r)) = absurd (r.not_trivial p.0)
      by (inr (l, e, p)) (inr (m, f, r)) =
          e ∙ (ap answer_of
          (one_answer k L (width k) (λ n. SameSubwords n) most 0 last l m p.1 r.1) ∙ sym f)

-- ---- letters that do not commute

pub not_commutative : (k : ℕ) (L : List ℕ → Type 0) (w : CWitness) → IsCommutativeWitness k L w
    → ¬ IsCommutative k (Syntactic k L)
not_commutative k L w h c =
    h.second.holds (c.commute (w.a ∷ []) (w.b ∷ []) (h.first.within, tt) (h.second.within, tt))

-- the fields of a witness
pub record AreSwapParts (k : ℕ) (L : List ℕ → Type 0) (a b : ℕ) (u v : List ℕ)
    (m : Bool) : Type 0 where
  pub first : IsLeastLetter k (HasSwap k (Syntactic k L)) a
  pub second : IsLeastLetter k (λ d. ¬ Commute (Syntactic k L) a d) b
  pub context : IsSeparation k L (a ∷ b ∷ []) (b ∷ a ∷ []) u v
  pub first_in : IsTrue m ↔ L (u ++ ((a ∷ b ∷ []) ++ v))

module _ (k : ℕ) (L : List ℕ → Type 0) (x w : CWitness) (h : IsCommutativeWitness k L x)
    (g : IsCommutativeWitness k L w) where
  first_letter : x.a ≡ w.a
  first_letter =
      one_least_letter k (HasSwap k (Syntactic k L)) x.a w.a h.first g.first

  with_first : AreSwapParts k L x.a w.b w.u w.v w.first_in
  with_first =
      subst (λ (a : ℕ). AreSwapParts k L a w.b w.u w.v w.first_in) (sym first_letter)
      (record {
        first = g.first;
        second = g.second;
        context = g.context;
        first_in = g.first_in;
      })

  second_letter : x.b ≡ w.b
  second_letter =
      one_least_letter k (λ d. ¬ Commute (Syntactic k L) x.a d) x.b w.b h.second
      with_first.second

  with_second : AreSwapParts k L x.a x.b w.u w.v w.first_in
  with_second =
      subst (λ (b : ℕ). AreSwapParts k L x.a b w.u w.v w.first_in) (sym second_letter) with_first

  swap_context : (x.u ≡ w.u) × (x.v ≡ w.v)
  swap_context =
      separation_is_one k L (x.a ∷ x.b ∷ []) (x.b ∷ x.a ∷ []) x.u x.v w.u w.v h.context
      with_second.context

  swap_first_in : x.first_in ≡ w.first_in
  swap_first_in =
      one_mark x.first_in w.first_in (L (x.u ++ ((x.a ∷ x.b ∷ []) ++ x.v))) h.first_in
      (subst (λ (u : List ℕ). IsTrue w.first_in ↔ L (u ++ ((x.a ∷ x.b ∷ []) ++ x.v)))
      (sym swap_context.0)
      (subst (λ (v : List ℕ). IsTrue w.first_in ↔ L (w.u ++ ((x.a ∷ x.b ∷ []) ++ v)))
      (sym swap_context.1) with_second.first_in))

  one_swap : x ≡ w
  one_swap =
      let d = first_letter in
      let e = second_letter in
      let p = swap_context.0 in
      let r = swap_context.1 in
      let f = swap_first_in in
      λ i. record { a = d i; b = e i; u = p i; v = r i; first_in = f i }

pub one_commutative_answer : (k : ℕ) (L : List ℕ → Type 0) (a b : Option CWitness)
    → IsCommutativeAnswer k L a → IsCommutativeAnswer k L b → a ≡ b
one_commutative_answer k L None None h g = refl
one_commutative_answer k L None (Some w) h g = absurd (not_commutative k L w g h)
one_commutative_answer k L (Some w) None h g = absurd (not_commutative k L w h g)
one_commutative_answer k L (Some x) (Some w) h g =
    ap (λ (v : CWitness). Some v) (one_swap k L x w h g)
