-- Texts that are spelt by hand, sign by sign.
use Rattle.std.proofs.Common.{ℕ, [], ◌∷◌, codes, refl}
use Rattle.expression_theory.specs.Expression.{Zero, One, Letter, Or, Cat, Star, Plus, Opt}
use Rattle.expression_theory.specs.Grammar.{Operand, Bar, Postfix, Open, Close, Piece, Sequence, Union, Spells, operand, inside, atom, postfix, one_piece, next_piece, one_sequence, next_sequence}
use Rattle.expression_theory.specs.Scan.{classes, SpellsTree}
use Rattle.expression_theory.specs.declared.signs.Leaf.TheVariants as leaf
use Rattle.expression_theory.specs.declared.signs.Quantifier.TheVariants as quantifier

-- a letter is a piece
letter : (a : ℕ) → Spells Piece (Operand (leaf.Letter a) ∷ []) (Letter a)
letter a = atom (operand {x = leaf.Letter a})

-- and a sequence
alone : (a : ℕ) → Spells Sequence (Operand (leaf.Letter a) ∷ []) (Letter a)
alone a = one_piece (letter a)

-- two letters are a sequence
pair : (a b : ℕ) → Spells Sequence (Operand (leaf.Letter a) ∷ Operand (leaf.Letter b) ∷ [])
    (Cat (Letter a) (Letter b))
pair a b = next_piece (alone a) (letter b)

pub ab_star : SpellsTree (classes (codes "ab") (codes "(ab)*")) (Star (Cat (Letter 0) (Letter 1)))
ab_star = (
  Open ∷ Operand (leaf.Letter 0) ∷ Operand (leaf.Letter 1) ∷ Close ∷ Postfix quantifier.Star ∷ [],
  refl,
  one_sequence (one_piece (postfix quantifier.Star (atom (inside (one_sequence (pair 0 1)))))),
)

pub ab_star_or_b : SpellsTree (classes (codes "ab") (codes "ab*|b"))
    (Or (Cat (Letter 0) (Star (Letter 1))) (Letter 1))
ab_star_or_b = (
  Operand (leaf.Letter 0) ∷ Operand (leaf.Letter 1) ∷ Postfix quantifier.Star ∷ Bar ∷ Operand
      (leaf.Letter 1) ∷ [],
  refl,
  next_sequence (one_sequence (next_piece (alone 0) (postfix quantifier.Star (letter 1))))
      (alone 1),
)

pub a_space_b : SpellsTree (classes (codes "ab") (codes "a b")) (Cat (Letter 0) (Letter 1))
a_space_b = (Operand (leaf.Letter 0) ∷ Operand (leaf.Letter 1) ∷ [], refl, one_sequence (pair 0 1))

pub a_tab_b : SpellsTree (classes (codes "ab") (codes "a\tb")) (Cat (Letter 0) (Letter 1))
a_tab_b = (Operand (leaf.Letter 0) ∷ Operand (leaf.Letter 1) ∷ [], refl, one_sequence (pair 0 1))

pub abb : SpellsTree (classes (codes "ab") (codes "abb"))
    (Cat (Cat (Letter 0) (Letter 1)) (Letter 1))
abb = (
  Operand (leaf.Letter 0) ∷ Operand (leaf.Letter 1) ∷ Operand (leaf.Letter 1) ∷ [],
  refl,
  one_sequence (next_piece (pair 0 1) (letter 1)),
)

pub a_or_b_or_a : SpellsTree (classes (codes "ab") (codes "a|b|a"))
    (Or (Or (Letter 0) (Letter 1)) (Letter 0))
a_or_b_or_a = (
  Operand (leaf.Letter 0) ∷ Bar ∷ Operand (leaf.Letter 1) ∷ Bar ∷ Operand (leaf.Letter 0) ∷ [],
  refl,
  next_sequence (next_sequence (one_sequence (alone 0)) (alone 1)) (alone 0),
)

pub a_plus_opt : SpellsTree (classes (codes "ab") (codes "a+?")) (Opt (Plus (Letter 0)))
a_plus_opt = (
  Operand (leaf.Letter 0) ∷ Postfix quantifier.Plus ∷ Postfix quantifier.Opt ∷ [],
  refl,
  one_sequence (one_piece (postfix quantifier.Opt (postfix quantifier.Plus (letter 0)))),
)

pub zero_or_one : SpellsTree (classes (codes "ab") (codes "0|1")) (Or Zero One)
zero_or_one = (
  Operand leaf.Zero ∷ Bar ∷ Operand leaf.One ∷ [],
  refl,
  next_sequence (one_sequence (one_piece (atom (operand {x = leaf.Zero}))))
      (one_piece (atom (operand {x = leaf.One}))),
)

pub a_zero_or_b : SpellsTree (classes (codes "ab") (codes "a0|b"))
    (Or (Cat (Letter 0) Zero) (Letter 1))
a_zero_or_b = (
  Operand (leaf.Letter 0) ∷ Operand leaf.Zero ∷ Bar ∷ Operand (leaf.Letter 1) ∷ [],
  refl,
  next_sequence (one_sequence (next_piece (alone 0) (atom (operand {x = leaf.Zero})))) (alone 1),
)

pub one_letter : (a : ℕ) → Spells Union (Operand (leaf.Letter a) ∷ []) (Letter a)
one_letter a = one_sequence (alone a)
