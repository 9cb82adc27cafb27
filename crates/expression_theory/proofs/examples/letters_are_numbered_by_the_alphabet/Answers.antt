use Rattle.std.proofs.Common.{[], ◌∷◌, refl}
use Rattle.expression_theory.specs.Grammar.{Operand}
use Rattle.expression_theory.proofs.Spelled.{one_letter}
use Rattle.expression_theory.proofs.examples.letters_are_numbered_by_the_alphabet.Goals as goal
use Rattle.expression_theory.specs.declared.signs.Leaf.TheVariants as leaf

pub returns-clause-ab : goal.returns-clause-ab
returns-clause-ab c = (Operand (leaf.Letter 0) ∷ [], refl, one_letter 0)

pub returns-clause-ba : goal.returns-clause-ba
returns-clause-ba c = (Operand (leaf.Letter 1) ∷ [], refl, one_letter 1)
