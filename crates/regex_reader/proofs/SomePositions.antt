-- Each expression has a position automaton.
use Rattle.std.proofs.Common.{◌≡◌, ℕ, zero, suc, ◌+◌, ◌-◌, ◌<◌, ◌≤◌, Bool, true, false, ◌&&◌, ◌==◌, ◌⊎◌, inl, inr, List, [], ◌∷◌, length, get_or, refl, ap, sym, subst, ◌∙◌, arith}
use Rattle.std.specs.List.{All}
use Rattle.std.proofs.lemmas.List.{get_or_past}
use Rattle.std.proofs.lemmas.List.Elements.{All-get_or}
use Rattle.std.proofs.lemmas.Bool.{cases_lt, and_parts, and_from, eqb-true, eq-eqb}
use Rattle.std.proofs.lemmas.Bool.Decides.{Decides-eqb}
use Rattle.language_theory.specs.Automaton.{Automaton, steps_where}
use Rattle.language_theory.proofs.StepLists.{listed_where}
use Rattle.automata.proofs.Steps.{plain_in_order}
use Rattle.expression_theory.specs.Expression.{Tree}
use Rattle.expression_theory.specs.Positions.{positions, letter_of, IsFinalPosition, IsPositions}
use Rattle.expression_theory.proofs.Exchange.{between}
use Rattle.expression_theory.proofs.Acceptance.{steps_below}
use Rattle.regex_reader.proofs.Built.{Steps, Finals, step_decides, final_decides, steps_from_below, steps_to_position}

-- the marks of n numbers from i on
abbrev marks_from : (ℕ → Bool) → ℕ → ℕ → List Bool
marks_from f i zero = []
marks_from f i (suc n) = f i ∷ marks_from f (i + 1) n

length-marks : (f : ℕ → Bool) (i n : ℕ) → length (marks_from f i n) ≡ n
length-marks f i zero = refl
length-marks f i (suc n) = let e = length-marks f (i + 1) n in omega arith

mark_at : (f : ℕ → Bool) (i n p : ℕ) → p < n → get_or (marks_from f i n) p false ≡ f (i + p)
mark_at f i zero p h = absurd (omega arith)
mark_at f i (suc n) zero h = let same : i ≡ i + zero = omega arith in ap f same
mark_at f i (suc n) (suc p) h =
    let same : i + 1 + p ≡ i + suc p = omega arith in mark_at f (i + 1) n p (omega arith)
    ∙ ap f same

-- whether a step of the expression leads from p to q by a
abbrev leads : Tree → ℕ → ℕ → ℕ → Bool
leads t p a q = Steps t p q && (letter_of t q == a)

final_below : (t : Tree) (p : ℕ) → IsFinalPosition t p → p < length (positions t) + 1
final_below t zero h = omega arith
final_below t (suc p) (u, h) =
    let b : suc p < 1 + length (positions t) = (between 1 t (suc p) u [] h).1 in omega arith

-- the position automaton over k letters
abbrev position_automaton : ℕ → Tree → Automaton
position_automaton k t = record {
  states = length (positions t) + 1;
  letters = k;
  initial = marks_from (λ p. 0 == p) 0 (length (positions t) + 1);
  finals = marks_from (Finals t) 0 (length (positions t) + 1);
  steps = steps_where (length (positions t) + 1) k (leads t);
  moves = [];
}

-- a row of marks tells where a fact holds that holds of no number behind its end
row_tells : (f : ℕ → Bool) (n p : ℕ) (P : ℕ → Type 0)
    → ((q : ℕ) → (f q ≡ true → P q) × (P q → f q ≡ true)) → ((q : ℕ) → P q → q < n)
    → (get_or (marks_from f 0 n) p false ≡ true → P p)
    × (P p → get_or (marks_from f 0 n) p false ≡ true)
row_tells f n p P decides below = (λ h. to (cases_lt p n) h, λ h. at (below p h) ∙ (decides p).1 h)
  where
    at : p < n → get_or (marks_from f 0 n) p false ≡ f p
    at h = let same : 0 + p ≡ p = omega arith in mark_at f 0 n p h ∙ ap f same

    to : (p < n) ⊎ (n ≤ p) → get_or (marks_from f 0 n) p false ≡ true → P p
    to (inl h) e = (decides p).0 (sym (at h) ∙ e)
    to (inr h) e =
        absurd (let no : false ≡ true = sym
        (get_or_past (marks_from f 0 n) p false (omega (arith, length-marks f 0 n))) ∙ e in cc)

-- the letter at a position is below k where all are
letter_below : (k : ℕ) (t : Tree) (q : ℕ) → All (λ a. a < k) (positions t) → 1 ≤ q
    → q < 1 + length (positions t) → letter_of t q < k
letter_below k t q within some below =
    All-get_or (λ a. a < k) (positions t) (q - 1) 0 (omega arith) within

pub some_positions : (k : ℕ) (t : Tree) → All (λ a. a < k) (positions t)
    → (m : Automaton) × IsPositions t k m
some_positions k t within = (
  position_automaton k t,
  record {
    states = refl;
    letters = refl;
    initials = length-marks (λ p. 0 == p) 0 (length (positions t) + 1);
    finals = length-marks (Finals t) 0 (length (positions t) + 1);
    initial =
        λ p. row_tells (λ q. 0 == q) (length (positions t) + 1) p (λ q. q ≡ 0)
        (λ q. (λ e. sym ((Decides-eqb 0 q).0 e), λ e. (Decides-eqb 0 q).1 (sym e)))
        (λ q e. omega arith);
    final =
        λ p. row_tells (Finals t) (length (positions t) + 1) p (IsFinalPosition t) (final_decides t)
        (final_below t);
    step = λ p a q. (
      λ h.
          let tests = and_parts (Steps t p q) (letter_of t q == a)
          ((listed_where (length (positions t) + 1) k (leads t) p a q).0 h).3 in
          ((step_decides t p q).0 tests.0, eqb-true (letter_of t q) a tests.1),
      λ (s, l).
          let below : q < 1 + length (positions t) = steps_below t p q s in
          let letter = letter_below k t q within (steps_to_position t p q s) below in
          (listed_where (length (positions t) + 1) k (leads t) p a q).1 (
            steps_from_below t p q s,
            omega (arith, l, letter),
            omega arith,
            and_from (Steps t p q) (letter_of t q == a) ((step_decides t p q).1 s)
                (eq-eqb (letter_of t q) a l),
          ),
    );
    ordered = plain_in_order (position_automaton k t) (leads t) refl refl;
    plain = refl;
  },
)
