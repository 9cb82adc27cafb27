-- A language has one answer on its powers, and so have languages with the same words.
use Rattle.std.proofs.Common.{◌≡◌, ◌↔◌, ℕ, ◌+◌, Bool, List, ◌++◌, arith, refl, sym, ap, subst, subst₂, ◌∙◌}
use Rattle.std.specs.Cmp.{both_ways}
use Rattle.language_theory.specs.Words.{Over, power, word_at}
use Rattle.language_theory.specs.Languages.{HaveSameWords}
use Rattle.language_theory.specs.Congruence.{Syntactic, Agree}
use Rattle.monoid_theory.specs.Powers.{IsAperiodic, IsFirstLoop}
use Rattle.monoid_theory.specs.Separation.{Separates, CanSeparate, IsSeparation}
use Rattle.language_theory.proofs.Congruences.{syntactic_agrees, syntactic_congruence, agree_turned}
use Rattle.language_theory.proofs.Representatives.{agreeing_list, one_list}
use Rattle.language_theory.proofs.Shortlex.{over_append}
use Rattle.monoid_theory.proofs.Agreeing.{agreeing_index, agreeing_aperiodic}
use Rattle.monoid_theory.proofs.Aperiodic.{loop_not_aperiodic, first_loop_is_one}
use Rattle.monoid_theory.proofs.Contexts.{separation_is_one}
use Rattle.monoid_theory.proofs.Exponents.{over_power}
use Rattle.answers.specs.declared.powers.Loop.{Loop}
use Rattle.star_free.specs.declared.deciding.Powers.{Powers}
use Rattle.star_free.specs.declared.deciding.Powers.TheVariants as powers
use Rattle.star_free.specs.Loops.{IsFirstLoopWord, IsLoop, AreDecided}
use Rattle.star_free.proofs.Looping.{least_word_alike, exactly_one_alike}

module _ (k : ℕ) (L M : List ℕ → Type 0) (a : HaveSameWords k L M) where
  agree : Agree k (Syntactic k L) (Syntactic k M)
  agree = syntactic_agrees k L M a

  between : (u w v : List ℕ) → Over k u → Over k w → Over k v
      → L (u ++ (w ++ v)) ↔ M (u ++ (w ++ v))
  between u w v ou ow ov = a.both (u ++ (w ++ v))
      (over_append k u (w ++ v) ou (over_append k w v ow ov))

  module _ (s t : List ℕ) (os : Over k s) (ot : Over k t) where
    separates_in_both : (u v : List ℕ) → Over k u → Over k v
        → Separates L s t u v ↔ Separates M s t u v
    separates_in_both u v ou ov = (
      exactly_one_alike (L (u ++ (s ++ v))) (L (u ++ (t ++ v))) (M (u ++ (s ++ v)))
          (M (u ++ (t ++ v))) (between u s v ou os ov) (between u t v ou ot ov),
      exactly_one_alike (M (u ++ (s ++ v))) (M (u ++ (t ++ v))) (L (u ++ (s ++ v)))
          (L (u ++ (t ++ v))) ((between u s v ou os ov).1, (between u s v ou os ov).0)
          ((between u t v ou ot ov).1, (between u t v ou ot ov).0),
    )

    pub separation_in_both : (u v : List ℕ) → IsSeparation k L s t u v → IsSeparation k M s t u v
    separation_in_both u v e = record {
      before = least_word_alike k (CanSeparate k L s t) (CanSeparate k M s t) u
          (λ w ow. (
            λ (x, ox, f). (x, ox, (separates_in_both w x ow ox).0 f),
            λ (x, ox, f). (x, ox, (separates_in_both w x ow ox).1 f),
          )) e.before;
      behind = least_word_alike k (Separates L s t u) (Separates M s t u) v
          (λ w o. separates_in_both u w e.before.over o) e.behind;
    }

  first_loop_word : (x : List ℕ) (i p : ℕ) → IsFirstLoopWord k L x i p → IsFirstLoopWord k M x i p
  first_loop_word x i p (words, e, l, f, is) = (
    words,
    e,
    agreeing_list k (Syntactic k L) (Syntactic k M) agree words l,
    record {
      within = f.within;
      powers = agreeing_index k (Syntactic k L) (Syntactic k M) agree (word_at words e) i p
          (l.over e f.within) f.powers;
      more = f.more;
      first = λ j q r b s. f.first j q r b
          (agreeing_index k (Syntactic k M) (Syntactic k L)
          (agree_turned k (Syntactic k L) (Syntactic k M) agree) (word_at words j) q r
          (l.over j (let h = f.within in omega arith)) s);
    },
    is,
  )

  over_loop : (x : List ℕ) (i p : ℕ) → IsFirstLoopWord k L x i p → Over k x
  over_loop x i p (words, e, l, f, is) = rw is (l.over e f.within)

  loop_in_both : (l : Loop) → IsLoop k L l → IsLoop k M l
  loop_in_both l h = record {
    word = first_loop_word l.x l.index l.period h.word;
    context = separation_in_both (power l.index l.x) (power (l.index + 1) l.x)
        (over_power k l.index l.x ox) (over_power k (l.index + 1) l.x ox) l.u l.v h.context;
    first = (λ t. at.0 (h.first.0 t), λ m. h.first.1 (at.1 m));
    never = λ n. let (i, j, li, lj, y, z) = h.never n in (
      i,
      j,
      li,
      lj,
      (between l.u (power i l.x) l.v ou (over_power k i l.x ox) ov).0 y,
      λ m. z ((between l.u (power j l.x) l.v ou (over_power k j l.x ox) ov).1 m),
    );
  }
    where
      ox : Over k l.x
      ox = over_loop l.x l.index l.period h.word

      ou : Over k l.u
      ou = h.context.before.over

      ov : Over k l.v
      ov = h.context.behind.over

      at : L (l.u ++ (power l.index l.x ++ l.v)) ↔ M (l.u ++ (power l.index l.x ++ l.v))
      at = between l.u (power l.index l.x) l.v ou (over_power k l.index l.x ox) ov

  pub decided_in_both : (p : Powers) → AreDecided k L p → AreDecided k M p
  decided_in_both powers.Aperiodic h =
      agreeing_aperiodic k (Syntactic k L) (Syntactic k M) agree h
  decided_in_both (powers.Loops l) h = loop_in_both l h

abbrev made : List ℕ → List ℕ → List ℕ → ℕ → ℕ → Bool → Loop
made u x v i p f = record { u = u; x = x; v = v; index = i; period = p; first_in = f }

equal_parts : (u x v s y t : List ℕ) (i p j q : ℕ) (f g : Bool) → u ≡ s → x ≡ y → v ≡ t → i ≡ j
    → p ≡ q → f ≡ g → made u x v i p f ≡ made s y t j q g
equal_parts u x v s y t i p j q f g a b c d e h = cc (a, b, c, d, e, h)

module _ (k : ℕ) (L : List ℕ → Type 0) where
  one_first_loop : (x y : List ℕ) (i p j q : ℕ) → IsFirstLoopWord k L x i p
      → IsFirstLoopWord k L y j q → (x ≡ y) × (i ≡ j) × (p ≡ q)
  one_first_loop x y i p j q (words, e, l, f, is) (others, d, m, g, it) = by same
    where
      same : words ≡ others
      same = one_list k (Syntactic k L) words others (syntactic_congruence k L).equivalence l m

      by : words ≡ others → (x ≡ y) × (i ≡ j) × (p ≡ q)
      by s =
          let t = first_loop_is_one (Syntactic k L) words e i p d j q f
          (subst (λ (w : List (List ℕ)). IsFirstLoop (Syntactic k L) w d j q) (sym s) g) in (
            is ∙ (subst₂ (λ (w : List (List ℕ)) (n : ℕ). word_at words e ≡ word_at w n) s t.0 refl
                ∙ sym it),
            t.1,
            t.2,
          )

  pub no_both : (x : List ℕ) (i p : ℕ) → IsFirstLoopWord k L x i p → ¬ IsAperiodic k (Syntactic k L)
  no_both x i p (words, e, l, f, is) = loop_not_aperiodic k (Syntactic k L) words l e i p f

  pub one_loop : (l m : Loop) → IsLoop k L l → IsLoop k L m → l ≡ m
  one_loop l m h g = by l m h (one_first_loop l.x m.x l.index l.period m.index m.period h.word g.word) g
    where
      by : (l m : Loop) → IsLoop k L l → (l.x ≡ m.x) × (l.index ≡ m.index) × (l.period ≡ m.period)
          → IsLoop k L m → l ≡ m
      by l m h (ex, ei, ep) g =
          let c = separation_is_one k L (power l.index l.x) (power (l.index + 1) l.x) l.u l.v m.u m.v
          h.context (rw (ex, ei) g.context) in
          let f : l.first_in ≡ m.first_in = both_ways l.first_in m.first_in
          (λ t. g.first.1 (rw (← ex, ← ei, ← c.0, ← c.1) (h.first.0 t)))
          (λ t. h.first.1 (rw (ex, ei, c.0, c.1) (g.first.0 t))) in
          equal_parts l.u l.x l.v m.u m.x m.v l.index l.period m.index m.period l.first_in
          m.first_in c.0 ex c.1 ei ep f

  pub one_answer : (p q : Powers) → AreDecided k L p → AreDecided k L q → p ≡ q
  one_answer powers.Aperiodic powers.Aperiodic h g = refl
  one_answer powers.Aperiodic (powers.Loops m) h g =
      absurd (no_both m.x m.index m.period g.word h)
  one_answer (powers.Loops l) powers.Aperiodic h g =
      absurd (no_both l.x l.index l.period h.word g)
  one_answer (powers.Loops l) (powers.Loops m) h g = ap powers.Loops (one_loop l m h g)
