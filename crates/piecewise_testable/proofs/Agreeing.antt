-- Relations that agree, and languages with the same words, have the same rounds, the same least
-- contexts and the same witnesses.
use Rattle.std.proofs.Common.{◌↔◌, ℕ, ◌<◌, inl, inr, List, [], ◌∷◌, ◌++◌, arith}
use Rattle.std.specs.Prelude.{Option, Some, None}
use Rattle.language_theory.specs.Words.{Over}
use Rattle.language_theory.specs.Languages.{ExactlyOne, HaveSameWords}
use Rattle.language_theory.specs.Congruence.{Agree, Syntactic}
use Rattle.language_theory.proofs.Shortlex.{over_append}
use Rattle.language_theory.proofs.Congruences.{both_directions, other_direction, syntactic_agrees}
use Rattle.monoid_theory.specs.Separation.{Separates, CanSeparate, IsSeparation}
use Rattle.answers.specs.declared.subwords.Side.{Side}
use Rattle.answers.specs.declared.subwords.PtWitness.{PtWitness}
use Rattle.answers.specs.declared.commuting.CWitness.{CWitness}
use Rattle.piecewise_testable.specs.Sides.{beside, IsTrivialOn, IsOther, HasOther, Moves, Leads, IsLeastLetter, IsRound}
use Rattle.piecewise_testable.specs.Witness.{IsWitness, IsAnswerOn}
use Rattle.piecewise_testable.specs.Commuting.{IsCommutative, Commute, HasSwap, IsCommutativeWitness, IsCommutativeAnswer}
use Rattle.piecewise_testable.proofs.BothSides.{over_beside, mates_agree_on}
use Rattle.piecewise_testable.proofs.LeastPlaces.{least_word_again}

pub one_again : {P Q R S : Type 0} → P ↔ R → Q ↔ S → ExactlyOne P Q → ExactlyOne R S
one_again f g (inl (p, n)) = inl (f.0 p, λ s. n (g.1 s))
one_again f g (inr (n, q)) = inr (λ r. n (f.1 r), g.0 q)

pub least_letter_again : (k : ℕ) (P Q : ℕ → Type 0) (a : ℕ) → ((b : ℕ) → b < k → P b ↔ Q b)
    → IsLeastLetter k P a → IsLeastLetter k Q a
least_letter_again k P Q a f h = record {
  within = h.within;
  holds = (f a h.within).0 h.holds;
  first = λ b l p. h.first b l ((f b (let w = h.within in omega arith)).1 p);
}

module _ (k : ℕ) (same other : List ℕ → List ℕ → Type 0) (a : Agree k same other) where
  others_agree : (side : Side) (s t : List ℕ) → Over k s → Over k t
      → IsOther side k same s t ↔ IsOther side k other s t
  others_agree side s t os ot =
      let m = (mates_agree_on side k same other a).both s t os ot in
      let r = a.both s t os ot in (
        λ h. (m.0 h.0, λ e. h.1 (r.1 e)),
        λ h. (m.1 h.0, λ e. h.1 (r.0 e)),
      )

  has_other_agree : (side : Side) (s : List ℕ) → Over k s
      → HasOther side k same s ↔ HasOther side k other s
  has_other_agree side s os = (
    λ (t, ot, h). (t, ot, (others_agree side s t os ot).0 h),
    λ (t, ot, h). (t, ot, (others_agree side s t os ot).1 h),
  )

  pub trivial_agrees : (side : Side) → IsTrivialOn side k same → IsTrivialOn side k other
  trivial_agrees side h = record {
    one = λ s t os ot r. (a.both s t os ot).0
        (h.one s t os ot (((mates_agree_on side k same other a).both s t os ot).1 r));
  }

  pub round_agrees : (side : Side) (s : List ℕ) (b : ℕ) (y : List ℕ) → IsRound side k same s b y
      → IsRound side k other s b y
  round_agrees side s b y h = record {
    element = least_word_again k (HasOther side k same) (HasOther side k other) s
        (has_other_agree side) h.element;
    letter = least_letter_again k (Moves side k same s) (Moves side k other s) b
        (λ c l. others_agree side s (beside side s (c ∷ [])) os (moved c l)) h.letter;
    back = least_word_again k (Leads side same (beside side s (b ∷ [])) s)
        (Leads side other (beside side s (b ∷ [])) s) y
        (λ x ox. a.both s (beside side (beside side s (b ∷ [])) x) os
        (over_beside side k (beside side s (b ∷ [])) x (moved b h.letter.within) ox)) h.back;
  }
    where
      os : Over k s
      os = h.element.over

      moved : (c : ℕ) → c < k → Over k (beside side s (c ∷ []))
      moved c l = over_beside side k s (c ∷ []) os (l, tt)

  commute_agree : (b c : ℕ) → b < k → c < k → Commute same b c ↔ Commute other b c
  commute_agree b c lb lc =
      a.both (b ∷ c ∷ []) (c ∷ b ∷ []) (lb, (lc, tt)) (lc, (lb, tt))

  pub first_agrees : (b : ℕ) → IsLeastLetter k (HasSwap k same) b
      → IsLeastLetter k (HasSwap k other) b
  first_agrees b = least_letter_again k (HasSwap k same) (HasSwap k other) b
      (λ c lc. (
        λ (d, ld, n). (d, ld, λ h. n ((commute_agree c d lc ld).1 h)),
        λ (d, ld, n). (d, ld, λ h. n ((commute_agree c d lc ld).0 h)),
      ))

  pub second_agrees : (b c : ℕ) → b < k → IsLeastLetter k (λ d. ¬ Commute same b d) c
      → IsLeastLetter k (λ d. ¬ Commute other b d) c
  second_agrees b c lb = least_letter_again k (λ d. ¬ Commute same b d) (λ d. ¬ Commute other b d) c
      (λ d ld. (
        λ n h. n ((commute_agree b d lb ld).1 h),
        λ n h. n ((commute_agree b d lb ld).0 h),
      ))

  pub commutative_agrees : IsCommutative k same → IsCommutative k other
  commutative_agrees h = record {
    commute = λ s t os ot. (a.both (s ++ t) (t ++ s) (over_append k s t os ot)
        (over_append k t s ot os)).0 (h.commute s t os ot);
  }

-- ---- least contexts

-- words that separate the same in each context have the same least context
separation_again : (k : ℕ) (L M : List ℕ → Type 0) (s t x y u v : List ℕ)
    → ((p r : List ℕ) → Over k p → Over k r → Separates L s t p r ↔ Separates M x y p r)
    → IsSeparation k L s t u v → IsSeparation k M x y u v
separation_again k L M s t x y u v f h = record {
  before = least_word_again k (CanSeparate k L s t) (CanSeparate k M x y) u
      (λ p op. (
        λ (r, o, e). (r, o, (f p r op o).0 e),
        λ (r, o, e). (r, o, (f p r op o).1 e),
      ))
      h.before;
  behind = least_word_again k (Separates L s t u) (Separates M x y u) v
      (λ r o. f u r h.before.over o) h.behind;
}

-- congruent words have the same least context
pub separation_of_congruent : (k : ℕ) (L : List ℕ → Type 0) (s t x u v : List ℕ)
    → Syntactic k L t x → IsSeparation k L s t u v → IsSeparation k L s x u v
separation_of_congruent k L s t x u v e =
    separation_again k L L s t s x u v
    (λ p r op o. (
      one_again (λ h. h, λ h. h) (e p r op o),
      one_again (λ h. h, λ h. h) (other_direction (e p r op o)),
    ))

pub separation_of_both : (k : ℕ) (L : List ℕ → Type 0) (s t x y u v : List ℕ)
    → Syntactic k L s x → Syntactic k L t y → IsSeparation k L s t u v → IsSeparation k L x y u v
separation_of_both k L s t x y u v e f =
    separation_again k L L s t x y u v
    (λ p r op o. (
      one_again (e p r op o) (f p r op o),
      one_again (other_direction (e p r op o)) (other_direction (f p r op o)),
    ))

module _ (k : ℕ) (L M : List ℕ → Type 0) (a : HaveSameWords k L M) where
  in_context : (p s r : List ℕ) → Over k p → Over k s → Over k r
      → L (p ++ (s ++ r)) ↔ M (p ++ (s ++ r))
  in_context p s r op os o =
      a.both (p ++ (s ++ r)) (over_append k p (s ++ r) op (over_append k s r os o))

  pub separation_agrees : (s t u v : List ℕ) → Over k s → Over k t → IsSeparation k L s t u v
      → IsSeparation k M s t u v
  separation_agrees s t u v os ot =
      separation_again k L M s t s t u v
      (λ p r op o. (
        one_again (in_context p s r op os o) (in_context p t r op ot o),
        one_again (other_direction (in_context p s r op os o))
            (other_direction (in_context p t r op ot o)),
      ))

  agree : Agree k (Syntactic k L) (Syntactic k M)
  agree = syntactic_agrees k L M a

  pub witness_agrees : (w : PtWitness) → IsWitness k L w → IsWitness k M w
  witness_agrees w h = record {
    round = round_agrees k (Syntactic k L) (Syntactic k M) agree w.side w.s w.letter w.y h.round;
    context = separation_agrees w.s (beside w.side w.s (w.letter ∷ [])) w.u w.v os
        (over_beside w.side k w.s (w.letter ∷ []) os (h.round.letter.within, tt)) h.context;
    first_in = both_directions h.first_in
        (in_context w.u w.s w.v h.context.before.over os h.context.behind.over);
  }
    where
      os : Over k w.s
      os = h.round.element.over

  pub answer_on_agrees : (side : Side) (w : Option PtWitness) → IsAnswerOn side k L w
      → IsAnswerOn side k M w
  answer_on_agrees side None h = trivial_agrees k (Syntactic k L) (Syntactic k M) agree side h
  answer_on_agrees side (Some w) h = (h.0, witness_agrees w h.1)

  commutative_witness_agrees : (w : CWitness) → IsCommutativeWitness k L w
      → IsCommutativeWitness k M w
  commutative_witness_agrees w h = record {
    first = first_agrees k (Syntactic k L) (Syntactic k M) agree w.a h.first;
    second = second_agrees k (Syntactic k L) (Syntactic k M) agree w.a w.b la h.second;
    context = separation_agrees (w.a ∷ w.b ∷ []) (w.b ∷ w.a ∷ []) w.u w.v (la, (lb, tt))
        (lb, (la, tt)) h.context;
    first_in = both_directions h.first_in
        (in_context w.u (w.a ∷ w.b ∷ []) w.v h.context.before.over (la, (lb, tt))
        h.context.behind.over);
  }
    where
      la : w.a < k
      la = h.first.within

      lb : w.b < k
      lb = h.second.within

  pub commutative_answer_agrees : (w : Option CWitness) → IsCommutativeAnswer k L w
      → IsCommutativeAnswer k M w
  commutative_answer_agrees None h =
      commutative_agrees k (Syntactic k L) (Syntactic k M) agree h
  commutative_answer_agrees (Some w) h = commutative_witness_agrees w h
