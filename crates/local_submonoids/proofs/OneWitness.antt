-- A language has one local work and one witness.
use Rattle.std.proofs.Common.{◌≡◌, ◌↔◌, inl, inr, ℕ, ◌<◌, Bool, IsTrue, List, ◌++◌, length, refl, ap, sym, subst, ◌∙◌, arith}
use Rattle.std.specs.Prelude.{slice_index}
use Rattle.std.specs.Cmp.{both_ways}
use Rattle.std.proofs.lemmas.Bool.{cases_lt}
use Rattle.std.proofs.lemmas.List.{ext_get_or}
use Rattle.language_theory.specs.Words.{word_at}
use Rattle.language_theory.specs.Congruence.{Syntactic}
use Rattle.language_theory.specs.Representatives.{AreRepresentatives}
use Rattle.language_theory.proofs.Congruences.{syntactic_congruence}
use Rattle.language_theory.proofs.LeastWords.{least_words_equal}
use Rattle.language_theory.proofs.Representatives.{one_list}
use Rattle.monoid_theory.specs.Separation.{IsSeparation}
use Rattle.monoid_theory.proofs.Contexts.{separation_is_one}
use Rattle.answers.specs.declared.factors.LtKind.{LtKind}
use Rattle.answers.specs.declared.factors.LtKind.TheVariants as kind
use Rattle.answers.specs.declared.factors.LtWitness.{LtWitness}
use Rattle.local_submonoids.specs.LocalSubmonoids.{local, FailsByRepeat, GiveOne, IsLocalSize, IsSizeAt, IsLocalWork, sum_of_squares}
use Rattle.local_submonoids.specs.Witness.{IsFirstFailing, IsFirstRepeat, IsFirstSwap, IsOfFirstFailing, IsRepeatWitness, IsSwapWitness, IsWitnessOf, IsWitness, IsLeastNonempty}
use Rattle.local_submonoids.proofs.LocalWords.{give_one_equivalence}

one_bool : (a b : Bool) (P : Type 0) → IsTrue a ↔ P → IsTrue b ↔ P → a ≡ b
one_bool a b P f g = both_ways a b (λ t. g.1 (f.0 t)) (λ t. f.1 (g.0 t))

module _ (k : ℕ) (L : List ℕ → Type 0) (words : List (List ℕ))
    (r : AreRepresentatives k (Syntactic k L) words) where
  -- ---- one local work

  one_size : (e m n : ℕ) → e < length words → IsLocalSize k (Syntactic k L) (word_at words e) m
      → IsLocalSize k (Syntactic k L) (word_at words e) n → m ≡ n
  one_size e m n l f g =
      sym f.long
      ∙ (ap length (one_list k (GiveOne (Syntactic k L) (word_at words e)) f.elements g.elements
      (give_one_equivalence k (Syntactic k L) (syntactic_congruence k L) (word_at words e)
      (r.over e l)) f.representatives g.representatives) ∙ g.long)

  one_size_at : (e m n : ℕ) → e < length words → IsSizeAt k (Syntactic k L) words e m
      → IsSizeAt k (Syntactic k L) words e n → m ≡ n
  one_size_at e m n l (inl (i, f)) (inl (j, g)) = one_size e m n l f g
  one_size_at e m n l (inl (i, f)) (inr (not, g)) = absurd (not i)
  one_size_at e m n l (inr (not, f)) (inl (j, g)) = absurd (not j)
  one_size_at e m n l (inr (_, f)) (inr (_, g)) = f ∙ sym g

  pub one_work : (a b : ℕ) → IsLocalWork k (Syntactic k L) words a
      → IsLocalWork k (Syntactic k L) words b → a ≡ b
  one_work a b f g = sym f.sum ∙ (ap sum_of_squares sizes ∙ g.sum)
    where
      sizes : f.sizes ≡ g.sizes
      sizes = ext_get_or 0 f.sizes g.sizes (f.long ∙ sym g.long) (λ e l. let n = f.long in
          let b : e < length words = omega arith in
          one_size_at e (slice_index f.sizes e) (slice_index g.sizes e) b (f.each e b) (g.each e b))

  -- ---- one witness

  one_failing : (e f : ℕ) → IsFirstFailing k (Syntactic k L) words e
      → IsFirstFailing k (Syntactic k L) words f → e ≡ f
  one_failing e f g h = elim (cases_lt e f) [
    | inl l ↦ absurd (h.first e l g.idempotent g.fails)
    | inr l ↦ elim (cases_lt f e) [
      | inl m ↦ absurd (g.first f m h.idempotent h.fails)
      | inr m ↦ omega arith
    ]
  ]

  one_nonempty : (x y : List ℕ) → IsOfFirstFailing k L words x → IsOfFirstFailing k L words y → x
      ≡ y
  one_nonempty x y f g =
      least_words_equal k
      (λ w. (0 < length w) × Syntactic k L (word_at words f.e) w) x y f.least
      (subst (λ (e : ℕ). IsLeastNonempty k (Syntactic k L) words e y)
      (sym (one_failing f.e g.e f.failing g.failing)) g.least)

  one_repeat : (x : List ℕ) (s t : ℕ) → IsFirstRepeat (Syntactic k L) words x s
      → IsFirstRepeat (Syntactic k L) words x t → s ≡ t
  one_repeat x s t f g = elim (cases_lt s t) [
    | inl l ↦ absurd (f.fails (g.first s l))
    | inr l ↦ elim (cases_lt t s) [
      | inl m ↦ absurd (g.fails (f.first t m))
      | inr m ↦ omega arith
    ]
  ]

  one_swap_first : (x : List ℕ) (s t p q : ℕ) → IsFirstSwap (Syntactic k L) words x s t
      → IsFirstSwap (Syntactic k L) words x p q → s ≡ p
  one_swap_first x s t p q f g = elim (cases_lt s p) [
    | inl l ↦ absurd (f.fails (g.first s t l f.other_within))
    | inr l ↦ elim (cases_lt p s) [
      | inl m ↦ absurd (g.fails (f.first p q m g.other_within))
      | inr m ↦ omega arith
    ]
  ]

  one_swap_second : (x : List ℕ) (s t q : ℕ) → IsFirstSwap (Syntactic k L) words x s t
      → IsFirstSwap (Syntactic k L) words x s q → t ≡ q
  one_swap_second x s t q f g = elim (cases_lt t q) [
    | inl l ↦ absurd (f.fails (g.second t l))
    | inr l ↦ elim (cases_lt q t) [
      | inl m ↦ absurd (g.fails (f.second q m))
      | inr m ↦ omega arith
    ]
  ]

  -- what a repeat witness has, but for its letters
  repeat_and_swap : (v w : LtWitness) → IsRepeatWitness k L words v → IsSwapWitness k L words w → ⊥
  repeat_and_swap v w f g =
      let x = one_nonempty v.x w.x f.failing g.failing in
      g.no_repeat (subst (FailsByRepeat k (Syntactic k L)) x
      (word_at words f.s, r.over f.s f.repeat.within, f.repeat.fails))

  -- witnesses of the same kind, whose parts are equal
  module _ (v w : LtWitness) where
    equal_witnesses : v.kind ≡ w.kind → v.u ≡ w.u → v.x ≡ w.x → v.y ≡ w.y → v.z ≡ w.z → v.v ≡ w.v
        → v.first_in ≡ w.first_in → v ≡ w
    equal_witnesses a b c d e f g = λ i. record {
      kind = a i;
      u = b i;
      x = c i;
      y = d i;
      z = e i;
      v = f i;
      first_in = g i;
    }

    same_in : (s t : List ℕ) → s ≡ t → v.u ≡ w.u → v.v ≡ w.v
        → IsTrue v.first_in ↔ L (v.u ++ (s ++ v.v)) → IsTrue w.first_in ↔ L (w.u ++ (t ++ w.v))
        → v.first_in ≡ w.first_in
    same_in s t e a b f g =
        let whole : v.u ++ (s ++ v.v) ≡ w.u ++ (t ++ w.v) = cc (a, b, e) in
        one_bool v.first_in w.first_in (L (w.u ++ (t ++ w.v)))
        (subst (λ (p : List ℕ). IsTrue v.first_in ↔ L p) whole f) g

    one_repeat_witness : v.kind ≡ w.kind → IsRepeatWitness k L words v → IsRepeatWitness k L words w
        → v ≡ w
    one_repeat_witness same f g = equal_witnesses same context.0 x y z context.1
        (same_in (local v.x v.y) (local w.x w.y) once context.0 context.1 f.first_in g.first_in)
      where
        x : v.x ≡ w.x
        x = one_nonempty v.x w.x f.failing g.failing

        s : f.s ≡ g.s
        s = one_repeat w.x f.s g.s
            (subst (λ (p : List ℕ). IsFirstRepeat (Syntactic k L) words p f.s) x f.repeat) g.repeat

        y : v.y ≡ w.y
        y = f.y ∙ (ap (word_at words) s ∙ sym g.y)

        z : v.z ≡ w.z
        z = f.z ∙ sym g.z

        once : local v.x v.y ≡ local w.x w.y
        once = cc (x, y)

        context : (v.u ≡ w.u) × (v.v ≡ w.v)
        context =
            separation_is_one k L (local w.x w.y) (local w.x w.y ++ local w.x w.y) v.u v.v w.u w.v
            (subst (λ (p : List ℕ). IsSeparation k L p (p ++ p) v.u v.v) once f.context) g.context

    one_swap_witness : v.kind ≡ w.kind → IsSwapWitness k L words v → IsSwapWitness k L words w
        → v ≡ w
    one_swap_witness same f g = equal_witnesses same context.0 x y z context.1
        (same_in (local v.x v.y ++ local v.x v.z) (local w.x w.y ++ local w.x w.z) first context.0
        context.1 f.first_in g.first_in)
      where
        x : v.x ≡ w.x
        x = one_nonempty v.x w.x f.failing g.failing

        moved : IsFirstSwap (Syntactic k L) words w.x f.s f.t
        moved = subst (λ (p : List ℕ). IsFirstSwap (Syntactic k L) words p f.s f.t) x f.swap

        s : f.s ≡ g.s
        s = one_swap_first w.x f.s f.t g.s g.t moved g.swap

        t : f.t ≡ g.t
        t = one_swap_second w.x g.s f.t g.t
            (subst (λ (p : ℕ). IsFirstSwap (Syntactic k L) words w.x p f.t) s moved) g.swap

        y : v.y ≡ w.y
        y = f.y ∙ (ap (word_at words) s ∙ sym g.y)

        z : v.z ≡ w.z
        z = f.z ∙ (ap (word_at words) t ∙ sym g.z)

        first : local v.x v.y ++ local v.x v.z ≡ local w.x w.y ++ local w.x w.z
        first = cc (x, y, z)

        second : local v.x v.z ++ local v.x v.y ≡ local w.x w.z ++ local w.x w.y
        second = cc (x, y, z)

        context : (v.u ≡ w.u) × (v.v ≡ w.v)
        context =
            separation_is_one k L (local w.x w.y ++ local w.x w.z) (local w.x w.z ++ local w.x w.y)
            v.u v.v w.u w.v
            (subst (λ (p : List ℕ). IsSeparation k L p (local w.x w.z ++ local w.x w.y) v.u v.v)
            first
            (subst (λ (p : List ℕ). IsSeparation k L (local v.x v.y ++ local v.x v.z) p v.u v.v)
            second
            f.context)) g.context

    by_kinds : (a b : LtKind) → v.kind ≡ a → w.kind ≡ b → IsWitnessOf a k L words v
        → IsWitnessOf b k L words w → v ≡ w
    by_kinds kind.Repeat kind.Repeat c d f g = one_repeat_witness (c ∙ sym d) f g
    by_kinds kind.Repeat kind.Swap c d f g = absurd (repeat_and_swap v w f g)
    by_kinds kind.Swap kind.Repeat c d f g = absurd (repeat_and_swap w v g f)
    by_kinds kind.Swap kind.Swap c d f g = one_swap_witness (c ∙ sym d) f g

    pub one_witness : IsWitness k L words v → IsWitness k L words w → v ≡ w
    one_witness = by_kinds v.kind w.kind refl refl
