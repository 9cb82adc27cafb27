-- The position automaton of (ab)*.
use Rattle.std.proofs.Common.{◌≡◌, ℕ, zero, suc, false, ◌&&◌, ◌||◌, ◌==◌, ◌⊎◌, inl, inr, ◌↔◌, IsTrue, refl, sym, subst, arith}
use Rattle.std.specs.Bool.{Decides}
use Rattle.std.proofs.lemmas.Bool.{both_ways}
use Rattle.std.proofs.lemmas.Bool.Decides.{Decides-and, Decides-or, Decides-eqb}
use Rattle.language_theory.specs.Automaton.{is_initial, is_final, has_step, steps_where, moves_where, IsInOrder}
use Rattle.expression_theory.specs.Expression.{Tree, Letter, Cat, Star, nothing}
use Rattle.expression_theory.specs.Positions.{numbered, PositionWord, Begins, Ends, letter_of, StepsTo, IsFinalPosition, IsPositions}
use Rattle.expression_theory.specs.Examples.{ab_star_positions}
use Rattle.expression_theory.proofs.FirstLast.{firsts_decide, lasts_decide, follows_decide}

-- (ab)*
abbrev tree : Tree
tree = Star (Cat (Letter 0) (Letter 1))

-- a step leads from p to the position q, where the letter is a
abbrev Steps : (p a q : ℕ) → Type 0
Steps p a q = StepsTo tree p q × (letter_of tree q ≡ a)

never : Decides false ⊥
never = (λ e. absurd (both_ways false refl e), λ h. absurd h)

listed : (x p : ℕ) → Decides ((x == p) || false) ((x ≡ p) ⊎ ⊥)
listed x p = Decides-or (x == p) false (Decides-eqb x p) never

row : (p a q x b y : ℕ)
    → Decides ((x == p) && ((b == a) && (y == q))) ((x ≡ p) × ((b ≡ a) × (y ≡ q)))
row p a q x b y =
    Decides-and (x == p) ((b == a) && (y == q)) (Decides-eqb x p)
    (Decides-and (b == a) (y == q) (Decides-eqb b a) (Decides-eqb y q))

-- the three rows
abbrev Rows : (p a q : ℕ) → Type 0
Rows p a q = ((0 ≡ p) × ((0 ≡ a) × (1 ≡ q)))
    ⊎ (((1 ≡ p) × ((1 ≡ a) × (2 ≡ q))) ⊎ (((2 ≡ p) × ((0 ≡ a) × (1 ≡ q))) ⊎ ⊥))

rows_decide : (p a q : ℕ) → Decides (has_step ab_star_positions p a q) (Rows p a q)
rows_decide p a q =
    let first = (0 == p) && ((0 == a) && (1 == q)) in
    let second = (1 == p) && ((1 == a) && (2 == q)) in
    let third = (2 == p) && ((0 == a) && (1 == q)) in
    Decides-or first (second || (third || false)) (row p a q 0 0 1)
    (Decides-or second (third || false) (row p a q 1 1 2)
    (Decides-or third false (row p a q 2 0 1) never))

at : (p a q x b y : ℕ) → x ≡ p → b ≡ a → y ≡ q → Steps x b y → Steps p a q
at p a q x b y e f g k =
    subst (λ p. Steps p a q) e (subst (λ a. Steps x a q) f (subst (λ q. Steps x b q) g k))

rows_step : (p a q : ℕ) → Rows p a q → Steps p a q
rows_step p a q (inl (e, (f, g))) =
    at p a q 0 0 1 e f g ((firsts_decide (numbered 1 tree) 1).0 refl, refl)
rows_step p a q (inr (inl (e, (f, g)))) =
    at p a q 1 1 2 e f g ((follows_decide (numbered 1 tree) 1 2).0 refl, refl)
rows_step p a q (inr (inr (inl (e, (f, g))))) =
    at p a q 2 0 1 e f g ((follows_decide (numbered 1 tree) 2 1).0 refl, refl)
rows_step p a q (inr (inr (inr h))) = absurd h

-- what begins is a
begins_a : (q : ℕ) → Begins (PositionWord tree) q → 1 ≡ q
begins_a q h = by ((listed 1 q).0 ((firsts_decide (numbered 1 tree) q).1 h))
  where
    by : (1 ≡ q) ⊎ ⊥ → 1 ≡ q
    by (inl e) = e
    by (inr n) = absurd n

-- b follows a, and a follows b
abbrev Turns : (p q : ℕ) → Type 0
Turns p q = (((1 ≡ p) ⊎ ⊥) × ((2 ≡ q) ⊎ ⊥)) ⊎ (((2 ≡ p) ⊎ ⊥) × ((1 ≡ q) ⊎ ⊥))

turns_decide : (p q : ℕ)
    → Decides ((((1 == p) || false) && ((2 == q) || false)) ||
    (((2 == p) || false) && ((1 == q) || false))) (Turns p q)
turns_decide p q =
    Decides-or (((1 == p) || false) && ((2 == q) || false))
    (((2 == p) || false) && ((1 == q) || false))
    (Decides-and ((1 == p) || false) ((2 == q) || false) (listed 1 p) (listed 2 q))
    (Decides-and ((2 == p) || false) ((1 == q) || false) (listed 2 p) (listed 1 q))

step_rows : (p a q : ℕ) → Steps p a q → Rows p a q
step_rows zero a q (h, l) = let e = begins_a q h in
    inl (refl, (subst (λ q. letter_of tree q ≡ a) (sym e) l, e))
step_rows (suc p) a q (h, l) =
    by ((turns_decide (suc p) q).0 ((follows_decide (numbered 1 tree) (suc p) q).1 h))
  where
    by : Turns (suc p) q → Rows (suc p) a q
    by (inl (inl e, inl f)) = inr (inl (e, (subst (λ q. letter_of tree q ≡ a) (sym f) l, f)))
    by (inr (inl e, inl f)) = inr (inr (inl (e, (subst (λ q. letter_of tree q ≡ a) (sym f) l, f))))
    by (inl (inr n, f)) = absurd n
    by (inl (inl e, inr n)) = absurd n
    by (inr (inr n, f)) = absurd n
    by (inr (inl e, inr n)) = absurd n

step : (p a q : ℕ) → IsTrue (has_step ab_star_positions p a q) ↔ Steps p a q
step p a q = (
  λ e. rows_step p a q ((rows_decide p a q).0 e),
  λ h. (rows_decide p a q).1
      (step_rows p a q h),
)

initial : (p : ℕ) → IsTrue (is_initial ab_star_positions p) ↔ (p ≡ 0)
initial zero = (λ e. refl, λ e. refl)
initial (suc zero) = (λ e. absurd (both_ways false refl e), λ e. absurd (omega arith))
initial (suc (suc zero)) = (λ e. absurd (both_ways false refl e), λ e. absurd (omega arith))
initial (suc (suc (suc p))) = (λ e. absurd (both_ways false refl e), λ e. absurd (omega arith))

-- what ends is b
ends_b : (p : ℕ) → Ends (PositionWord tree) p → 2 ≡ p
ends_b p h = by ((listed 2 p).0 ((lasts_decide (numbered 1 tree) p).1 h))
  where
    by : (2 ≡ p) ⊎ ⊥ → 2 ≡ p
    by (inl e) = e
    by (inr n) = absurd n

final : (p : ℕ) → IsTrue (is_final ab_star_positions p) ↔ IsFinalPosition tree p
final zero = (λ e. nothing, λ h. refl)
final (suc zero) = (
  λ e. absurd (both_ways false refl e),
  λ h. let e = ends_b 1 h in
      absurd (omega arith),
)
final (suc (suc zero)) = (λ e. (lasts_decide (numbered 1 tree) 2).0 refl, λ h. refl)
final (suc (suc (suc p))) = (
  λ e. absurd (both_ways false refl e),
  λ h. let e = ends_b (suc (suc (suc p))) h in
      absurd (omega arith),
)

-- the steps stand in order
ordered : IsInOrder ab_star_positions
unfolding steps_where moves_where
ordered = record { steps = refl; moves = refl }

pub positions : IsPositions (Star (Cat (Letter 0) (Letter 1))) 2 ab_star_positions
positions = record {
  states = refl;
  letters = refl;
  initials = refl;
  finals = refl;
  initial = initial;
  final = final;
  step = step;
  ordered = ordered;
  plain = refl;
}
